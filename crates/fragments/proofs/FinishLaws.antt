-- The ranges as the result of a call. Assumes nothing.
use Prim.Native.Nat.{ℕ, ◌+◌, ◌-◌, ◌≤◌, ◌<◌}
use native.Mathlib.Omega.{arith}
use mathlib.Core.Path.{◌≡◌, sym, ap, ◌∙◌}
use mathlib.Core.Bool.{Bool, true, false, cond}
use mathlib.Core.List.{List, [], ◌∷◌, ◌++◌}
use borrow.Author.Tests.{lt-ltb, le-ltb}
use lib.Dec.{leb}
use lib.ListN.{length, take, drop, length-append, length-drop}
use lib.Seq.{take_at}
use Rattle.utf8.specs.Lists.{filter, below}
use Rattle.utf8.proofs.Counts.{count-within}
use Rattle.utf8.proofs.Places.{length-count_from}
use Rattle.model.specs.Answers.{zeros, done, refused, filled, Outcome, outcome}
use Rattle.model.specs.declared.Answer.{Answer}
use Rattle.fragments.specs.Fragments.{cuts_from}
use Rattle.fragments.specs.inner.Search.{cuts_in, numbers_in, ranges_outcome}
use Rattle.fragments.proofs.RangeLaws.{length-numbers}

cuts_among : (step last : ℕ) (places : List ℕ) → length (cuts_from step last places) ≤ length places
cuts_among step last [] = omega arith
cuts_among step last (p ∷ places) = go (leb (last + step) p) (cuts_among step p places) (cuts_among step last places)
  where
    go : (b : Bool) → length (cuts_from step p places) ≤ length places → length (cuts_from step last places) ≤ length places → length (cond b (p ∷ cuts_from step p places) (cuts_from step last places)) ≤ length (p ∷ places)
    go true h k = omega arith
    go false h k = omega arith

module _ (safe : ℕ → Bool) (n step : ℕ) where
  pub few_cuts : length (cuts_in safe n step) ≤ n
  unfolding cuts_in
  few_cuts = omega (arith, cuts_among step 0 (filter safe (below n)), count-within safe (below n), length-count_from 0 n)

  -- Two numbers a range, and one range more than there are cuts.
  pub two_each : length (numbers_in safe n step) ≡ (length (cuts_in safe n step) + 1) + (length (cuts_in safe n step) + 1)
  unfolding numbers_in
  two_each = length-numbers n 0 (cuts_in safe n step)

module _ (numbers out : List ℕ) where
  pub ranges_short : (answer : Answer) → answer ≡ refused 12 0 → length out < length numbers → ◌≡◌ {A = Outcome} (record { answer = answer; out = out }) (ranges_outcome numbers out)
  unfolding ranges_outcome outcome
  ranges_short answer e h = rw (lt-ltb (length out) (length numbers) h, e)

  module _ (w : ℕ) (middle : List ℕ) (all-written : w ≡ length numbers) (is : middle ≡ numbers ++ drop w out) (room : length numbers ≤ length out) where
    pub written-long : length middle ≡ length out
    written-long = omega (arith, ap length is, length-append numbers (drop w out), length-drop w out)

    pub ranges-done : (answer : Answer) (last : List ℕ) → last ≡ take w middle ++ zeros (length middle - w) → answer ≡ done w 0 0 → ◌≡◌ {A = Outcome} (record { answer = answer; out = last }) (ranges_outcome numbers out)
    unfolding ranges_outcome outcome filled
    ranges-done answer last cleared e =
        let front : take w middle ≡ numbers = ap (take w) is ∙ take_at numbers (drop w out) w (sym all-written) in
        let left : length middle - w ≡ length out - length numbers = omega (arith, written-long) in
        rw (le-ltb (length out) (length numbers) room, e, cleared, front, left, all-written)
