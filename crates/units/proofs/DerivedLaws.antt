-- Laws of what is derived from a model once: the words name the model's crossings again, and what the derived tables decide is what the
-- model decides. Assumes nothing.
use Prim.Native.Nat.{ℕ, zero, suc, ◌+◌, ◌-◌, ◌≤◌, ◌<◌}
use native.Mathlib.Nat.{mod-eq_of_lt, suc-ne-zero}
use native.Mathlib.Omega.{arith}
use mathlib.Core.Path.{◌≡◌, refl, sym, ap, ap₂, ◌∙◌}
use mathlib.Core.Bool.{Bool, true, false, not, cond, ◌&&◌, ◌||◌}
use mathlib.Core.Logic.{⊎_elim}
use mathlib.Core.List.{List, [], ◌∷◌, ◌++◌, map}
use lib.Dec.{eqb, ltb}
use lib.ListN.{length, get_or, take, length-drop, length-take}
use lib.Seq.{slice}
use Rattle.utf8.specs.Lists.{filter, join_map, numbered_from, neighbours, count_from, below}
use Rattle.utf8.specs.Chars.{valid}
use Rattle.utf8.proofs.Tests.{either, or_left}
use Rattle.model.specs.Model.{Model, strings, pieces_of, steps_of}
use Rattle.model.specs.Answers.{zeros}
use Rattle.model.specs.Check.{wrong_piece_sizes, wrong_row_sizes, wrong_list_sizes, wrong_step_sizes, wrong_sizes, text_too_long, model_tests, check_number}
use Rattle.model.proofs.StringLaws.{length-strings}
use Rattle.model.proofs.Accepted.{piece_limit_lem, byte_limit_lem}
use Rattle.units.specs.Kinds.{crosses_at, crossings, kind_of}
use Rattle.units.specs.Units.{holds_pair, mark_cuts, byte_before, punctuation_cuts, begins_unit, cut}
use Rattle.units.specs.Adjacency.{adjacency}
use Rattle.units.specs.inner.Read.{pair_noted, crossing_of, places_of, named_crossings}
use Rattle.units.specs.Derived.{Place, places_within, places_in, crossing_places, noted_of, place_words, noted_words, noting}
use Rattle.units.specs.declared.WordSplit.{WordSplit}
use Rattle.units.specs.declared.WordSplit.TheVariants.{SpaceRuns, EveryMark, None}
use Rattle.units.proofs.AdjacencyLaws.{Small, pair_noted_lem}
use Rattle.units.proofs.NotingLaws.{crossings_by_place}

-- ---- places that fit two words

pub data Fit : List Place → Type 0 where
  none : Fit []
  more : {p : Place} {ps : List Place} → p.0 < 4294967296 → p.1 < 4294967296 → Fit ps → Fit (p ∷ ps)

-- The first words name the places again, whatever follows them.
named_again : (ps : List Place) → Fit ps → (rest : List ℕ) → take (length ps) (places_of (join_map place_words ps ++ rest)) ≡ ps
unfolding places_of place_words
named_again [] none rest = refl
named_again (p ∷ ps) (more h l f) rest =
    ap₂ {C = List Place} ◌∷◌ (ap₂ (λ (a b : ℕ). (a, b)) (mod-eq_of_lt h) (mod-eq_of_lt l)) (named_again ps f rest)

module _ (pieces : List (List ℕ)) (fit : Fit (crossing_places pieces)) where
  named_noted : named_crossings pieces (noted_words (crossing_places pieces)) (length (crossing_places pieces)) ≡ crossings pieces
  unfolding named_crossings noted_words
  named_noted =
      ap (map (crossing_of pieces)) (named_again (crossing_places pieces) fit (zeros (64 - length (join_map place_words (crossing_places pieces)))))
      ∙ sym (crossings_by_place pieces)

  -- Of the kinds, SpaceRuns alone looks at the crossings.
  pub marks_derived : (kind : WordSplit) (raw : Bool) (section : List ℕ) (p : ℕ) → mark_cuts kind (named_crossings pieces (noting pieces kind).noted (noting pieces kind).count) raw section p ≡ mark_cuts kind (crossings pieces) raw section p
  unfolding mark_cuts noting noted_of
  marks_derived SpaceRuns raw section p = rw named_noted
  marks_derived EveryMark raw section p = refl
  marks_derived None raw section p = refl

-- ---- the places of an accepted model fit

fit_append : {ps qs : List Place} → Fit ps → Fit qs → Fit (ps ++ qs)
fit_append none g = g
fit_append (more h l f) g = more h l (fit_append f g)

fit_places : (test : ℕ → Bool) (id : ℕ) → id < 4294967296 → (k n : ℕ) → k + n ≤ 4294967296 → Fit (map (λ (p : ℕ). (id, p)) (filter test (count_from k n)))
fit_places test id h k zero l = none
fit_places test id h k (suc n) l = step (test k) (fit_places test id h (suc k) n (omega arith))
  where
    step : (b : Bool) → Fit (map (λ (p : ℕ). (id, p)) (filter test (count_from (suc k) n))) → Fit (map (λ (p : ℕ). (id, p)) (cond b (k ∷ filter test (count_from (suc k) n)) (filter test (count_from (suc k) n))))
    step true f = let within : k < 4294967296 = omega arith in more h within f
    step false f = f

fit-piece : (id : ℕ) (bytes : List ℕ) → id < 4294967296 → length bytes ≤ 4294967296 → Fit (places_in (id, bytes))
unfolding places_in places_within
fit-piece id bytes h l = step (valid bytes)
  where
    step : (b : Bool) → Fit (map (λ (p : ℕ). (id, p)) (cond b (filter (crosses_at bytes) (below (length bytes))) []))
    step true = fit_places (crosses_at bytes) id h 0 (length bytes) (omega arith)
    step false = none

fit-pieces : (k : ℕ) (pieces : List (List ℕ)) → k + length pieces ≤ 4294967296 → ((i : ℕ) → length (get_or pieces i []) ≤ 4294967296) → Fit (join_map places_in (numbered_from k pieces))
fit-pieces k [] h l = none
fit-pieces k (bytes ∷ pieces) h l = fit_append (fit-piece k bytes (omega arith) (l 0)) (fit-pieces (suc k) pieces (omega arith) (λ i. l (suc i)))

part_short : (f t : ℕ) (bytes : List ℕ) → length (slice f t bytes) ≤ length bytes
part_short f t bytes = omega (arith, length-drop f (take t bytes), length-take t bytes)

parts_short : (bytes : List ℕ) (places : List (ℕ × ℕ)) (i : ℕ) → length (get_or (map (λ (p : ℕ × ℕ). slice p.0 p.1 bytes) places) i []) ≤ length bytes
parts_short bytes [] i = omega arith
parts_short bytes (p ∷ ps) zero = part_short p.0 p.1 bytes
parts_short bytes (p ∷ ps) (suc i) = parts_short bytes ps i

pub fit-accepted : (bytes offsets : List ℕ) → wrong_piece_sizes bytes offsets ≡ false → Fit (crossing_places (strings bytes offsets))
unfolding crossing_places strings
fit-accepted bytes offsets e =
    fit-pieces 0 (strings bytes offsets) (omega (arith, length-strings bytes offsets, piece_limit_lem bytes offsets e))
    (λ i. omega (arith, parts_short bytes (neighbours offsets) i, byte_limit_lem bytes offsets e))

pub piece_sizes_fine : (m : Model) → wrong_sizes m ≡ false → wrong_piece_sizes m.piece_bytes m.piece_offsets ≡ false
unfolding wrong_sizes
piece_sizes_fine m e =
    let a = wrong_piece_sizes m.piece_bytes m.piece_offsets in
    let b = not (eqb (length m.fallback) 256) in
    let c = wrong_row_sizes m.left m.right m.result m.rank in
    let d = wrong_list_sizes m.first in
    let f = wrong_list_sizes m.second in
    or_left a b (or_left (a || b) c (or_left (a || b || c) d (or_left (a || b || c || d) f (or_left (a || b || c || d || f) (wrong_step_sizes (steps_of m) m.step_count) e))))

pub accepted_sizes : (m : Model) → check_number m ≡ 0 → wrong_sizes m ≡ false
unfolding check_number model_tests text_too_long
accepted_sizes m e = ⊎_elim (λ t. absurd (suc-ne-zero 0 (rw t at e))) (λ f. f) (either (wrong_sizes m))

-- ---- where a unit starts

byte_small : (raw : Bool) (section : List ℕ) → Small section → (p : ℕ) → byte_before raw section p < 256
unfolding byte_before
byte_small raw section h p = step (raw && eqb (get_or section (p - 1) 0) 0x20)
  where
    step : (b : Bool) → cond b 0x81 (get_or section (p - 1) 0) < 256
    step true = omega arith
    step false = h (p - 1)

punctuation_derived : (pieces : List (List ℕ)) (kind : WordSplit) (raw : Bool) (section : List ℕ) → Small section → (p : ℕ) → punctuation_cuts kind (pair_noted (adjacency pieces)) raw section p ≡ punctuation_cuts kind (holds_pair pieces) raw section p
unfolding punctuation_cuts
punctuation_derived pieces kind raw section h p = rw (pair_noted_lem pieces (byte_before raw section p) (get_or section p 0) (byte_small raw section h p) (h p))

-- What the derived tables of a model with fine piece sizes decide is what the model decides, for a section of bytes.
pub cut_derived : (m : Model) → wrong_piece_sizes m.piece_bytes m.piece_offsets ≡ false → (raw : Bool) (section : List ℕ) → Small section → (p : ℕ)
    → begins_unit (kind_of m) (named_crossings (pieces_of m) (noting (pieces_of m) (kind_of m)).noted (noting (pieces_of m) (kind_of m)).count) (pair_noted (adjacency (pieces_of m))) raw section p
    ≡ cut m raw section p
unfolding cut begins_unit pieces_of
cut_derived m e raw section h p =
    ap₂ (λ (a b : Bool). ltb 0 p && (a || b))
    (marks_derived (pieces_of m) (fit-accepted m.piece_bytes m.piece_offsets e) (kind_of m) raw section p)
    (punctuation_derived (pieces_of m) (kind_of m) raw section h p)
