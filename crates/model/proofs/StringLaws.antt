-- Laws of the strings that lie end to end: how many there are, and which stands at a place.
use mathlib.Core.Path.{◌≡◌}
use mathlib.Core.Bool.{true, false}
use mathlib.Core.Logic.{⊎_elim}
use mathlib.Core.List.{List, []}
use Prim.Native.Nat.{ℕ, ◌+◌, ◌-◌, ◌≤◌, ◌<◌}
use native.Mathlib.Omega.{arith}
use borrow.Author.Tests.{ltb-true, ltb-false}
use lib.Dec.{ltb}
use lib.ListN.{length, get_or, take, length-take, length-drop}
use lib.Seq.{slice}
use Rattle.utf8.proofs.Tests.{either}
use Rattle.utf8.proofs.Places.{length-between, get_or_between, get_or_between-past}
use Rattle.model.specs.Model.{strings}

module _ (bytes offsets : List ℕ) where
  pub length-strings : length (strings bytes offsets) ≡ length offsets - 1
  unfolding strings
  length-strings = length-between offsets bytes

  pub string_is : (i : ℕ) → i + 1 < length offsets → get_or (strings bytes offsets) i [] ≡ slice (get_or offsets i 0) (get_or offsets (i + 1) 0) bytes
  unfolding strings
  string_is i h = get_or_between offsets bytes i h

  pub string_past : (i : ℕ) → length offsets ≤ i + 1 → get_or (strings bytes offsets) i [] ≡ []
  unfolding strings
  string_past i h = get_or_between-past offsets bytes i h

  -- No string is longer than the bytes it lies in.
  pub string_short : (i : ℕ) → length (get_or (strings bytes offsets) i []) ≤ length bytes
  string_short i = ⊎_elim inside past (either (ltb (i + 1) (length offsets)))
    where
      inside : ltb (i + 1) (length offsets) ≡ true → length (get_or (strings bytes offsets) i []) ≤ length bytes
      inside e =
          let start = get_or offsets i 0 in
          let stop = get_or offsets (i + 1) 0 in
          rw (string_is i (ltb-true (i + 1) (length offsets) e)) (omega (arith, length-drop start (take stop bytes), length-take stop bytes))

      past : ltb (i + 1) (length offsets) ≡ false → length (get_or (strings bytes offsets) i []) ≤ length bytes
      past e = rw (string_past i (ltb-false (i + 1) (length offsets) e)) (omega arith)
