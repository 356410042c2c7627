-- Units laid end to end: they join to the section, their characters are its characters, and no piece reaches over a border.
-- Assumes nothing.
use Prim.Native.Nat.{ℕ, zero, suc, ◌+◌, ◌≤◌}
use native.Mathlib.Omega.{arith}
use native.Mathlib.Nat.{zero-add}
use mathlib.Core.Path.{◌≡◌, refl, sym, ap, ◌∙◌, subst}
use mathlib.Core.Bool.{Bool, true, false, cond, false≢true}
use mathlib.Core.List.{List, [], ◌∷◌, ◌++◌, map, append-nil}
use lib.ListN.{length, take, drop, take-append-drop}
use lib.Seq.{slice, take_all, length-take-le, drop-append-le}
use Rattle.utf8.specs.Lists.{filter, join, join_map, count_from, between}
use Rattle.utf8.specs.Chars.{chars}
use Rattle.utf8.proofs.Characters.{starts_in_tail, chars-append}
use Rattle.utf8.proofs.Joins.{join_map-join}
use Rattle.model.specs.Model.{Model, pieces_of}
use Rattle.model.specs.Check.{bad_piece}
use Rattle.model.proofs.ReachLaws.{NoPieceOver, StringsApart, over_less, over_nothing}
use Rattle.units.specs.Units.{cut, units}
use Rattle.units.proofs.ShownLaws.{shown_byte, shown, prefix, shown-append}
use Rattle.units.proofs.CutLaws.{Closed, cut-clear, cut_uncrossed}

-- The spelling of units, with a virtual mark before the first.
abbrev pub spelled_units : Bool → Bool → List (List ℕ) → List (List ℕ)
spelled_units raw virtual [] = []
spelled_units raw virtual (unit ∷ units) = (prefix virtual ++ shown raw unit) ∷ map (shown raw) units

pub unspelled : (raw : Bool) (us : List (List ℕ)) → spelled_units raw false us ≡ map (shown raw) us
unspelled raw [] = refl
unspelled raw (u ∷ us) = refl

-- The places that pass a test, and the end, cut a text into parts from a on.
abbrev pub parts_from : (ℕ → Bool) → ℕ → ℕ → ℕ → ℕ → List ℕ → List (List ℕ)
parts_from test a f k n s = between (a ∷ filter test (count_from f k) ++ (n ∷ [])) s

pub part_ends : (s : List ℕ) (a f : ℕ) → a ≤ f → f ≤ length s → slice a f s ++ drop f s ≡ drop a s
part_ends s a f h k = sym (drop-append-le a (take f s) (drop f s) (omega (arith, length-take-le f s k))) ∙ ap (drop a) (take-append-drop f s)

-- What stands before the end of a part ends with the part.
pub part-before : (s : List ℕ) (pieces : List (List ℕ)) (raw virtual : Bool) (a f : ℕ) → (virtual ≡ true → a ≡ 0) → NoPieceOver pieces (prefix virtual ++ shown raw (take f s)) (shown raw (drop f s))
    → NoPieceOver pieces (prefix virtual ++ shown raw (slice a f s)) (shown raw (drop f s))
part-before s pieces raw true a f z none =
    subst (λ (n : ℕ). NoPieceOver pieces (prefix true ++ shown raw (slice n f s)) (shown raw (drop f s))) (sym (z refl)) none
part-before s pieces raw false a f z none =
    over_less pieces (shown raw (take a (take f s))) (shown raw (slice a f s)) (shown raw (drop f s))
    (subst (λ (l : List ℕ). NoPieceOver pieces l (shown raw (drop f s))) (ap (shown raw) (sym (take-append-drop a (take f s))) ∙ shown-append raw (take a (take f s)) (slice a f s)) none)

module _ (test : ℕ → Bool) (s : List ℕ) where
  pub parts_join : (k a f n : ℕ) → a ≤ f → f + k ≡ n → n ≡ length s → join (parts_from test a f k n s) ≡ drop a s
  parts_join zero a f n h e l = append-nil (slice a n s) ∙ ap (λ (t : List ℕ). drop a t) (take_all n s (omega arith))
  parts_join (suc k) a f n h e l = go (parts_join k a (suc f) n (omega arith) (omega arith) l) (parts_join k f (suc f) n (omega arith) (omega arith) l) (test f)
    where
      go : join (parts_from test a (suc f) k n s) ≡ drop a s → join (parts_from test f (suc f) k n s) ≡ drop f s → (b : Bool)
          → join (between (a ∷ cond b (f ∷ filter test (count_from (suc f) k)) (filter test (count_from (suc f) k)) ++ (n ∷ [])) s) ≡ drop a s
      go on here false = on
      go on here true = ap (λ (t : List ℕ). slice a f s ++ t) here ∙ part_ends s a f h (omega arith)

  module _ (clear : (i : ℕ) → test i ≡ true → starts_in_tail (drop i s) ≡ false) where
    parts-chars : (k a f n : ℕ) → a ≤ f → f + k ≡ n → n ≡ length s → join_map chars (parts_from test a f k n s) ≡ chars (drop a s)
    parts-chars zero a f n h e l = append-nil (chars (slice a n s)) ∙ ap (λ (t : List ℕ). chars (drop a t)) (take_all n s (omega arith))
    parts-chars (suc k) a f n h e l = go (parts-chars k a (suc f) n (omega arith) (omega arith) l) (parts-chars k f (suc f) n (omega arith) (omega arith) l) (test f) refl
      where
        go : join_map chars (parts_from test a (suc f) k n s) ≡ chars (drop a s) → join_map chars (parts_from test f (suc f) k n s) ≡ chars (drop f s) → (b : Bool) → test f ≡ b
            → join_map chars (between (a ∷ cond b (f ∷ filter test (count_from (suc f) k)) (filter test (count_from (suc f) k)) ++ (n ∷ [])) s) ≡ chars (drop a s)
        go on here false t = on
        go on here true t =
            ap (λ (cs : List (List ℕ)). chars (slice a f s) ++ cs) here
            ∙ sym (chars-append (slice a f s) (drop f s) (clear f t))
            ∙ ap chars (part_ends s a f h (omega arith))

  module _ (pieces : List (List ℕ)) (raw : Bool)
      (uncrossed : (virtual : Bool) (i : ℕ) → test i ≡ true → NoPieceOver pieces (prefix virtual ++ shown raw (take i s)) (shown raw (drop i s))) where
    parts-apart : (k a f n : ℕ) (virtual : Bool) → (virtual ≡ true → a ≡ 0) → f + k ≡ n → n ≡ length s → StringsApart pieces (spelled_units raw virtual (parts_from test a f k n s))
    parts-apart zero a f n virtual z e l = (over_nothing pieces (prefix virtual ++ shown raw (slice a n s)), tt)
    parts-apart (suc k) a f n virtual z e l =
        go (parts-apart k a (suc f) n virtual z (omega arith) l) (parts-apart k f (suc f) n false (λ t. absurd (false≢true t)) (omega arith) l)
        (parts_join k f (suc f) n (omega arith) (omega arith) l) (test f) refl
      where
        go : StringsApart pieces (spelled_units raw virtual (parts_from test a (suc f) k n s)) → StringsApart pieces (spelled_units raw false (parts_from test f (suc f) k n s))
            → join (parts_from test f (suc f) k n s) ≡ drop f s → (b : Bool) → test f ≡ b
            → StringsApart pieces (spelled_units raw virtual (between (a ∷ cond b (f ∷ filter test (count_from (suc f) k)) (filter test (count_from (suc f) k)) ++ (n ∷ [])) s))
        go on here joined false t = on
        go on here joined true t = (
          subst (NoPieceOver pieces (prefix virtual ++ shown raw (slice a f s)))
              (sym (join_map-join (shown_byte raw) (parts_from test f (suc f) k n s) ∙ ap (shown raw) joined))
              (part-before s pieces raw virtual a f z (uncrossed virtual f t)),
          subst (StringsApart pieces) (unspelled raw (parts_from test f (suc f) k n s)) here,
        )

module _ (m : Model) (raw : Bool) (section : List ℕ) where
  -- Units join to the section.
  pub units-join : join (units m raw section) ≡ section
  unfolding units
  units-join = parts_join (cut m raw section) section (length section) 0 0 (length section) (omega arith) (zero-add (length section)) refl

  -- The characters of the units are those of the section.
  pub units-chars : join_map chars (units m raw section) ≡ chars section
  unfolding units
  units-chars = parts-chars (cut m raw section) section (cut-clear m raw section) (length section) 0 0 (length section) (omega arith) (zero-add (length section)) refl

  -- No piece reaches over a border of the units' spellings.
  pub units-apart : bad_piece (pieces_of m) ≡ false → Closed m raw section → (virtual : Bool) → StringsApart (pieces_of m) (spelled_units raw virtual (units m raw section))
  unfolding units
  units-apart fine closed virtual =
      parts-apart (cut m raw section) section (pieces_of m) raw (λ v i t. cut_uncrossed m fine raw v section closed i t) (length section) 0 0 (length section) virtual (λ t. refl) (zero-add (length section)) refl
