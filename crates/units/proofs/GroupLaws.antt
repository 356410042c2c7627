-- Units gathered into coarser parts: where some of the places at which units start cut a text too, each part is a row of units, and
-- no piece reaches over a border within it. So the stretches from mark to mark of kind EveryMark are rows of its units.
-- Assumes nothing.
use Prim.Native.Nat.{ℕ, zero, suc, ◌+◌, ◌≤◌}
use native.Mathlib.Omega.{arith}
use native.Mathlib.Nat.{zero-add}
use mathlib.Core.Path.{◌≡◌, refl, sym, ap, ◌∙◌, subst, subst₂}
use mathlib.Core.Bool.{Bool, true, false, cond, ◌&&◌, ◌||◌, false≢true}
use mathlib.Core.Logic.{◌⊎◌, inl, inr, ⊎_elim}
use mathlib.Core.List.{List, [], ◌∷◌, ◌++◌, map, append_assoc, append-nil}
use borrow.Author.Tests.{lt-ltb}
use lib.Dec.{ltb}
use lib.ListN.{length, take, drop}
use lib.Seq.{slice, slice_empty, take-take, length-take-le}
use Rattle.utf8.specs.Lists.{filter, join, join_map, count_from, between}
use Rattle.utf8.specs.Chars.{chars}
use Rattle.utf8.proofs.Tests.{clash, and_left, and_right, and_both}
use Rattle.utf8.proofs.Lists.{join-append}
use Rattle.utf8.proofs.Characters.{starts_in_tail, chars-nil, chars-append}
use Rattle.utf8.proofs.Joins.{join_map-join}
use Rattle.model.specs.Model.{Model, pieces_of}
use Rattle.model.specs.Mark.{starts_with_mark}
use Rattle.model.proofs.ReachLaws.{NoPieceOver, StringsApart, over_nothing}
use Rattle.units.specs.declared.WordSplit.{WordSplit}
use Rattle.units.specs.declared.WordSplit.TheVariants.{EveryMark}
use Rattle.units.specs.Kinds.{crossings, kind_of}
use Rattle.units.specs.Units.{holds_pair, mark_cuts, punctuation_cuts, begins_unit, cut, units}
use Rattle.units.proofs.ShownLaws.{shown_byte, shown, prefix, shown-append}
use Rattle.units.proofs.CutLaws.{cut_at, cut-clear, mark-is, punctuation_uncrossed}
use Rattle.units.proofs.UnitLaws.{spelled_units, parts_from, part_ends, parts_join, part-before}

module _ (pieces : List (List ℕ)) (raw : Bool) where
  -- Units, and parts each of which is a row of them.
  pub data Groups : List (List ℕ) → List (List ℕ) → Type 0 where
    end : Groups [] []
    group : (unit : List ℕ) (us rest : List (List ℕ)) (part : List ℕ) (parts : List (List ℕ)) → join_map chars (unit ∷ us) ≡ chars part
        → StringsApart pieces (map (shown raw) (unit ∷ us)) → Groups rest parts → Groups (unit ∷ (us ++ rest)) (part ∷ parts)

  -- The same, with a virtual mark before the first unit.
  pub record Grouped (virtual : Bool) (units parts : List (List ℕ)) : Type 0 where
    pub unit : List ℕ
    pub us : List (List ℕ)
    pub rest : List (List ℕ)
    pub part : List ℕ
    pub others : List (List ℕ)
    pub units_are : units ≡ unit ∷ (us ++ rest)
    pub parts_are : parts ≡ part ∷ others
    pub chars_are : join_map chars (unit ∷ us) ≡ chars part
    pub apart : StringsApart pieces (spelled_units raw virtual (unit ∷ us))
    pub after : Groups rest others

tail-front : (x y : List ℕ) → starts_in_tail (x ++ y) ≡ false → starts_in_tail x ≡ false
tail-front [] y e = refl
tail-front (b ∷ x) y e = e

over_front : (pieces : List (List ℕ)) (s t u : List ℕ) → NoPieceOver pieces s (t ++ u) → NoPieceOver pieces s t
over_front pieces s t u none front p q back p-some q-some before after id is =
    none front p q (back ++ u) p-some q-some before (ap (λ (l : List ℕ). l ++ u) after ∙ append_assoc q back u) id is

module _ (s : List ℕ) where
  slice_join : (g a f : ℕ) → g ≤ a → a ≤ f → f ≤ length s → slice g a s ++ slice a f s ≡ slice g f s
  slice_join g a f h k l =
      ap (λ (t : List ℕ). drop g t ++ slice a f s) (sym (take-take a f s k))
      ∙ part_ends (take f s) g a h (omega (arith, length-take-le f s l))

  -- Between two places the characters are those up to a place at which none is cut, and those from there on.
  chars_seam : (g a f : ℕ) → g ≤ a → a ≤ f → f ≤ length s → (g ≡ a) ⊎ (starts_in_tail (drop a s) ≡ false) → chars (slice g a s) ++ chars (slice a f s) ≡ chars (slice g f s)
  chars_seam g a f h k l (inl e) =
      ap (λ (n : ℕ). chars (slice n a s) ++ chars (slice a f s)) e
      ∙ ap (λ (t : List ℕ). chars t ++ chars (slice a f s)) (slice_empty a s)
      ∙ ap (λ (cs : List (List ℕ)). cs ++ chars (slice a f s)) chars-nil
      ∙ ap (λ (n : ℕ). chars (slice n f s)) (sym e)
  chars_seam g a f h k l (inr e) =
      sym (chars-append (slice g a s) (slice a f s) (tail-front (slice a f s) (drop f s) (ap starts_in_tail (part_ends s a f k l) ∙ e)))
      ∙ ap chars (slice_join g a f h k l)

module _ (s : List ℕ) (pieces : List (List ℕ)) (raw : Bool) (test coarse : ℕ → Bool)
    (also : (i : ℕ) → coarse i ≡ true → test i ≡ true)
    (clear : (i : ℕ) → test i ≡ true → starts_in_tail (drop i s) ≡ false)
    (uncrossed : (virtual : Bool) (i : ℕ) → test i ≡ true → coarse i ≡ false → NoPieceOver pieces (prefix virtual ++ shown raw (take i s)) (shown raw (drop i s))) where
  -- Units from a on, and parts the first of which began at g.
  record Open (virtual : Bool) (g a : ℕ) (units parts : List (List ℕ)) : Type 0 where
    unit : List ℕ
    us : List (List ℕ)
    rest : List (List ℕ)
    part : List ℕ
    others : List (List ℕ)
    units_are : units ≡ unit ∷ (us ++ rest)
    parts_are : parts ≡ part ∷ others
    chars_are : chars (slice g a s) ++ join_map chars (unit ∷ us) ≡ chars part
    apart : StringsApart pieces (spelled_units raw virtual (unit ∷ us))
    after : Groups pieces raw rest others

  close : {units parts : List (List ℕ)} (a : ℕ) → Open false a a units parts → Groups pieces raw units parts
  close a o =
      subst₂ (Groups pieces raw) (sym o.units_are) (sym o.parts_are)
      (group o.unit o.us o.rest o.part o.others
      (ap (λ (cs : List (List ℕ)). cs ++ join_map chars (o.unit ∷ o.us)) (sym (ap chars (slice_empty a s) ∙ chars-nil)) ∙ o.chars_are)
      o.apart o.after)

  -- the first part ends with the first unit
  first_ends : (virtual : Bool) (g a f : ℕ) (units parts : List (List ℕ)) → g ≤ a → a ≤ f → f ≤ length s → (g ≡ a) ⊎ (starts_in_tail (drop a s) ≡ false) → Groups pieces raw units parts
      → Open virtual g a (slice a f s ∷ units) (slice g f s ∷ parts)
  first_ends virtual g a f units parts h k l seam after =
      record {
        unit = slice a f s;
        us = [];
        rest = units;
        part = slice g f s;
        others = parts;
        units_are = refl;
        parts_are = refl;
        chars_are = ap (λ (cs : List (List ℕ)). chars (slice g a s) ++ cs) (append-nil (chars (slice a f s))) ∙ chars_seam s g a f h k l seam;
        apart = (over_nothing pieces (prefix virtual ++ shown raw (slice a f s)), tt);
        after = after;
      }

  -- the first part goes on behind the first unit
  first_goes_on : (virtual : Bool) (g a f : ℕ) (units parts : List (List ℕ)) → g ≤ a → a ≤ f → f ≤ length s → (g ≡ a) ⊎ (starts_in_tail (drop a s) ≡ false) → (virtual ≡ true → a ≡ 0)
      → NoPieceOver pieces (prefix virtual ++ shown raw (take f s)) (shown raw (drop f s)) → join units ≡ drop f s → Open false g f units parts → Open virtual g a (slice a f s ∷ units) parts
  first_goes_on virtual g a f units parts h k l seam z none joined o =
      let mine = o.unit ∷ o.us in
      let whole : join mine ++ join o.rest ≡ drop f s = sym (join-append mine o.rest) ∙ ap join (sym o.units_are) ∙ joined in
      let spelt : shown raw (drop f s) ≡ join (map (shown raw) mine) ++ shown raw (join o.rest) =
      ap (shown raw) (sym whole) ∙ shown-append raw (join mine) (join o.rest) ∙ ap (λ (t : List ℕ). t ++ shown raw (join o.rest)) (sym (join_map-join (shown_byte raw) mine)) in
      record {
        unit = slice a f s;
        us = mine;
        rest = o.rest;
        part = o.part;
        others = o.others;
        units_are = ap {B = List (List ℕ)} (λ us. slice a f s ∷ us) o.units_are;
        parts_are = o.parts_are;
        chars_are =
            sym (append_assoc (chars (slice g a s)) (chars (slice a f s)) (join_map chars mine))
            ∙ ap (λ (cs : List (List ℕ)). cs ++ join_map chars mine) (chars_seam s g a f h k l seam)
            ∙ o.chars_are;
        apart = (
          over_front pieces (prefix virtual ++ shown raw (slice a f s)) (join (map (shown raw) mine)) (shown raw (join o.rest))
              (subst (NoPieceOver pieces (prefix virtual ++ shown raw (slice a f s))) spelt (part-before s pieces raw virtual a f z none)),
          o.apart,
        );
        after = o.after;
      }

  grouped : (k g a f n : ℕ) (virtual : Bool) → g ≤ a → a ≤ f → f + k ≡ n → n ≡ length s → (g ≡ a) ⊎ (starts_in_tail (drop a s) ≡ false) → (virtual ≡ true → a ≡ 0)
      → Open virtual g a (parts_from test a f k n s) (parts_from coarse g f k n s)
  grouped zero g a f n virtual h k e l seam z = first_ends virtual g a n [] [] h (omega arith) (omega arith) seam end
  grouped (suc k) g a f n virtual h i e l seam z =
      go (test f) (coarse f) refl refl
      (grouped k g a (suc f) n virtual h (omega arith) (omega arith) l seam z)
      (λ t. grouped k g f (suc f) n false (omega arith) (omega arith) (omega arith) l (inr (clear f t)) (λ v. absurd (false≢true v)))
      (λ t. close f (grouped k f f (suc f) n false (omega arith) (omega arith) (omega arith) l (inl refl) (λ v. absurd (false≢true v))))
      (parts_join test s k f (suc f) n (omega arith) (omega arith) l)
    where
      go : (x y : Bool) → test f ≡ x → coarse f ≡ y
          → Open virtual g a (parts_from test a (suc f) k n s) (parts_from coarse g (suc f) k n s)
          → (test f ≡ true → Open false g f (parts_from test f (suc f) k n s) (parts_from coarse g (suc f) k n s))
          → (test f ≡ true → Groups pieces raw (parts_from test f (suc f) k n s) (parts_from coarse f (suc f) k n s))
          → join (parts_from test f (suc f) k n s) ≡ drop f s
          → Open virtual g a (between (a ∷ cond x (f ∷ filter test (count_from (suc f) k)) (filter test (count_from (suc f) k)) ++ (n ∷ [])) s) (between (g ∷ cond y (f ∷ filter coarse (count_from (suc f) k)) (filter coarse (count_from (suc f) k)) ++ (n ∷ [])) s)
      go false false t c on ahead closed joined = on
      go false true t c on ahead closed joined = clash t (also f c)
      go true false t c on ahead closed joined = first_goes_on virtual g a f (parts_from test f (suc f) k n s) (parts_from coarse g (suc f) k n s) h i (omega arith) seam z (uncrossed virtual f t c) joined (ahead t)
      go true true t c on ahead closed joined = first_ends virtual g a f (parts_from test f (suc f) k n s) (parts_from coarse f (suc f) k n s) h i (omega arith) seam (closed t)

  pub gathered : (virtual : Bool) → Grouped pieces raw virtual (parts_from test 0 0 (length s) (length s) s) (parts_from coarse 0 0 (length s) (length s) s)
  gathered virtual =
      let o = grouped (length s) 0 0 0 (length s) virtual (omega arith) (omega arith) (zero-add (length s)) refl (inl refl) (λ v. refl) in
      record {
        unit = o.unit;
        us = o.us;
        rest = o.rest;
        part = o.part;
        others = o.others;
        units_are = o.units_are;
        parts_are = o.parts_are;
        chars_are = ap (λ (cs : List (List ℕ)). cs ++ join_map chars (o.unit ∷ o.us)) (sym (ap chars (slice_empty 0 s) ∙ chars-nil)) ∙ o.chars_are;
        apart = o.apart;
        after = o.after;
      }

-- The stretches from mark to mark.
abbrev pub mark_stretches : Bool → List ℕ → List (List ℕ)
mark_stretches raw section = parts_from (λ (p : ℕ). ltb 0 p && starts_with_mark raw (drop p section)) 0 0 (length section) (length section) section

module _ (m : Model) (raw : Bool) (section : List ℕ) (every : kind_of m ≡ EveryMark) where
  mark-cuts : (i : ℕ) → (ltb 0 i && starts_with_mark raw (drop i section)) ≡ true → cut m raw section i ≡ true
  unfolding cut begins_unit mark_cuts
  mark-cuts i e =
      let noted = crossings (pieces_of m) in
      let holds = holds_pair (pieces_of m) in
      let a = starts_with_mark raw (drop i section) in
      ap (λ (k : WordSplit). begins_unit k noted holds raw section i) every
      ∙ and_both (and_left (ltb 0 i) a e) (ap (λ (b : Bool). b || punctuation_cuts EveryMark holds raw section i) (and_right (ltb 0 i) a e))

  other_cuts : (virtual : Bool) (i : ℕ) → cut m raw section i ≡ true → (ltb 0 i && starts_with_mark raw (drop i section)) ≡ false
      → NoPieceOver (pieces_of m) (prefix virtual ++ shown raw (take i section)) (shown raw (drop i section))
  unfolding cut
  other_cuts virtual i t c =
      let at = cut_at (kind_of m) (crossings (pieces_of m)) (holds_pair (pieces_of m)) raw section i t in
      ⊎_elim
      (λ marks. clash c (and_both (lt-ltb 0 i at.behind) (mark-is (kind_of m) (crossings (pieces_of m)) raw section i marks)))
      (λ p. punctuation_uncrossed (pieces_of m) raw virtual section i at.behind p.is_one p.unheld)
      at.either

  -- The units of kind EveryMark make up the stretches from mark to mark.
  pub every_mark_groups : (virtual : Bool) → Grouped (pieces_of m) raw virtual (units m raw section) (mark_stretches raw section)
  unfolding units
  every_mark_groups virtual =
      gathered section (pieces_of m) raw (cut m raw section) (λ (p : ℕ). ltb 0 p && starts_with_mark raw (drop p section)) mark-cuts (cut-clear m raw section) other_cuts virtual
