-- How the output of each step begins at the head of a text. Assumes nothing.
use Prim.Native.Nat.{ℕ, ◌≤◌, ◌<◌, max}
use native.Mathlib.Omega.{arith}
use mathlib.Core.Path.{◌≡◌, ap, ◌∙◌}
use mathlib.Core.Bool.{true, false, cond}
use mathlib.Core.List.{List, [], ◌∷◌, ◌++◌, append_assoc, append-nil}
use borrow.Author.Tests.{le-leb}
use lib.Dec.{leb}
use lib.ListN.{length, take, drop, get_or}
use lib.Seq.{drop-cons, length-take-le}
use Rattle.std.specs.Prelude.{Some, None}
use Rattle.utf8.specs.Lists.{join_map, cut_by, same, starts_with}
use Rattle.utf8.specs.Chars.{chars, char_width}
use Rattle.utf8.proofs.Cut.{cut_by_step}
use Rattle.utf8.proofs.Characters.{char_width-le-length, chars_step, chars-nil}
use Rattle.utf8.proofs.Starts.{no_elements, not-empty, starts_length, starts_front, same_refl, front-apart}
use Rattle.utf8.proofs.Writing.{Begins}
use Rattle.normalise.specs.Steps.{prepended, occurrences, replaced, space_run, collapsed}
use Rattle.normalise.specs.inner.Heads.{Head}
use Rattle.normalise.proofs.SpaceRunLaws.{space_run-length}

-- A text cut into parts, each put in as f says.
module _ (f : List ℕ → List ℕ) (width : List ℕ → ℕ) (t : List ℕ) (some : 0 < length t) where
  parts_next : (w : ℕ) (part : List ℕ) → max 1 (width t) ≡ w → f (take w t) ≡ part
      → join_map f (cut_by width t) ≡ part ++ join_map f (cut_by width (drop w t))
  parts_next w part e becomes =
      ap (join_map f) (cut_by_step width t some)
      ∙ ap (λ (k : ℕ). f (take k t) ++ join_map f (cut_by width (drop k t))) e
      ∙ rw becomes

  first_byte : take 1 t ≡ get_or t 0 0 ∷ []
  first_byte = rw (drop-cons t 0 0 some)

  -- A single byte that f leaves as it is.
  parts_byte : max 1 (width t) ≡ 1 → f (take 1 t) ≡ take 1 t
      → join_map f (cut_by width t) ≡ get_or t 0 0 ∷ join_map f (cut_by width (drop 1 t))
  parts_byte one kept = parts_next 1 (get_or t 0 0 ∷ []) one (kept ∙ first_byte)

-- ---- Prepend

module _ (content text : List ℕ) where
  pub prepended-empty : length text ≡ 0 → prepended content text ≡ text
  unfolding prepended
  prepended-empty h = rw (no_elements text h)

  pub prepended-some : 0 < length text → prepended content text ≡ content ++ text
  unfolding prepended
  prepended-some h = rw (not-empty text h)

-- ---- CollapseSpaces

module _ (content t : List ℕ) (some : 0 < length t) where
  pub collapsed-run : (w : ℕ) → w ≡ length (space_run t) → 2 ≤ w → Head (collapsed content) content t (Some w)
  unfolding collapsed
  collapsed-run w e two =
      let within : w ≤ length t = omega (arith, e, space_run-length t) in
      let long : length (take w t) ≡ w = length-take-le w t within in (
        omega arith,
        within,
        parts_next (λ (part : List ℕ). cond (leb 2 (length part)) content part) (λ (rest : List ℕ). length (space_run rest)) t some w content (omega (arith, e))
            (rw (long, le-leb 2 w two)),
      )

  pub collapsed_byte : length (space_run t) < 2 → Head (collapsed content) content t None
  unfolding collapsed
  collapsed_byte one =
      let short : length (take 1 t) ≡ 1 = length-take-le 1 t some in
      parts_byte (λ (part : List ℕ). cond (leb 2 (length part)) content part) (λ (rest : List ℕ). length (space_run rest)) t some (omega arith) (rw short)

-- ---- Replace

module _ (pattern content : List ℕ) (some : 0 < length pattern) where
  exchange : List ℕ → List ℕ
  exchange part = cond (same part pattern) content part

  width : List ℕ → ℕ
  width rest = cond (starts_with pattern rest) (length pattern) 1

  exchanged : (t : List ℕ) → replaced pattern content t ≡ join_map exchange (cut_by width t)
  unfolding replaced occurrences exchange width
  exchanged t = rw (not-empty pattern some)

  pub replaced_found : (t : List ℕ) → 0 < length t → starts_with pattern t ≡ true → Head (replaced pattern content) content t (Some (length pattern))
  unfolding exchange width
  replaced_found t h e = (
    some,
    starts_length pattern t e,
    rw (exchanged t, exchanged (drop (length pattern) t))
        (parts_next exchange width t h (length pattern) content (rw e (omega arith)) (rw (starts_front pattern t e, same_refl pattern))),
  )

  pub replaced_byte : (t : List ℕ) → 0 < length t → starts_with pattern t ≡ false → Head (replaced pattern content) content t None
  unfolding exchange width
  replaced_byte t h e =
      rw (exchanged t, exchanged (drop 1 t))
      (parts_byte exchange width t h (rw e) (rw (front-apart 1 pattern t e)))

-- The empty pattern.
pub inserted_none : (content t : List ℕ) → length t ≡ 0 → Begins (replaced [] content t) content []
unfolding replaced
inserted_none content t h = record { is = rw (no_elements t h, chars-nil, append-nil) }

module _ (t : List ℕ) (w : ℕ) (some : 0 < length t) (e : w ≡ max 1 (char_width t)) where
  pub first_ends : w ≤ length t
  first_ends = omega (arith, e, char_width-le-length t)

  -- The content stands in front of the first character.
  pub inserted_first : (content : List ℕ) {character others : List ℕ} → character ≡ take w t → others ≡ drop w t → Begins (replaced [] content t) content (character ++ replaced [] content others)
  unfolding replaced
  inserted_first content f g = record {
    is =
        ap (λ (cs : List (List ℕ)). join_map (λ (c : List ℕ). content ++ c) cs ++ content) (chars_step t some)
        ∙ rw (← e, f, g, append_assoc content (take w t) (join_map (λ (c : List ℕ). content ++ c) (chars (drop w t))))
        (append_assoc content (take w t ++ join_map (λ (c : List ℕ). content ++ c) (chars (drop w t))) content
        ∙ ap (λ (l : List ℕ). content ++ l) (append_assoc (take w t) (join_map (λ (c : List ℕ). content ++ c) (chars (drop w t))) content));
  }
