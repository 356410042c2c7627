-- The array of steps, filled from its front.
use mathlib.Core.Path.{◌≡◌, sym, ap, ◌∙◌}
use mathlib.Core.List.{List}
use Prim.Native.Nat.{ℕ, ◌+◌, ◌≤◌, ◌<◌}
use native.Mathlib.Nat.{zero-add}
use native.Mathlib.Numerals.{add-one}
use native.Mathlib.Omega.{arith}
use lib.ListN.{length, get_or, take, set, length-map, get_or-map}
use lib.Seq.{take-suc, take-suc-set, take_all}
use Rattle.utf8.specs.Lists.{below}
use Rattle.utf8.proofs.Places.{get_or_inside, length-count_from, get_or_count_from}
use Rattle.model.specs.declared.Step.{Step}
use Rattle.varitmol.specs.Numbers.{step_of, steps_from}

module _ (kinds spans : List ℕ) where
  abbrev at : ℕ → Step
  at i = step_of (get_or kinds i 3) spans i

  length-steps : length (steps_from kinds spans) ≡ 16
  unfolding steps_from
  length-steps = length-map (below 16) at ∙ length-count_from 0 16

  step_at : (i : ℕ) (d : Step) → i < 16 → get_or (steps_from kinds spans) i d ≡ at i
  unfolding steps_from
  step_at i d h =
      get_or_inside (steps_from kinds spans) i d (at 0) (omega (arith, length-steps))
      ∙ get_or-map at (below 16) i 0
      ∙ ap at (get_or_count_from 0 16 i 0 h ∙ zero-add i)

  module _ (steps : List Step) (i : ℕ) where
    pub steps_next : (kind : ℕ) (step : Step) → length steps ≡ 16 → i < 16 → kind ≡ get_or kinds i 3 → step ≡ step_of kind spans i → take i steps ≡ take i (steps_from kinds spans) → take (i + 1) (set steps i step) ≡ take (i + 1) (steps_from kinds spans)
    steps_next kind step n h k e front =
        let is : step ≡ get_or (steps_from kinds spans) i step = e ∙ ap (λ (kind : ℕ). step_of kind spans i) k ∙ sym (step_at i step h) in
        let room : i < length steps = omega (arith, n) in
        let more : i < length (steps_from kinds spans) = omega (arith, length-steps) in
        rw (add-one, take-suc-set steps i step room, take-suc (steps_from kinds spans) i step more, front, ← is)

    pub steps_all : length steps ≡ 16 → 16 ≤ i → take i steps ≡ take i (steps_from kinds spans) → steps ≡ steps_from kinds spans
    steps_all n h front = sym (take_all i steps (omega (arith, n))) ∙ front ∙ take_all i (steps_from kinds spans) (omega (arith, length-steps))
