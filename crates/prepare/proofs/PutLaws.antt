-- Laws of a row that is put into a buffer, with zeros behind it.
use mathlib.Core.Path.{◌≡◌, ap, ◌∙◌}
use mathlib.Core.List.{List, ◌++◌}
use Prim.Native.Nat.{ℕ, ◌-◌, ◌≤◌}
use native.Mathlib.Omega.{arith}
use lib.ListN.{length, take, drop, length-append, length-drop}
use lib.Seq.{take_at}
use Rattle.model.specs.Answers.{zeros, filled}

module _ (row before : List ℕ) (room : length row ≤ length before) where
  -- A buffer that begins with the row and is cleared behind it.
  pub cleared_behind : (written last : List ℕ) (n : ℕ) → length row ≡ n → written ≡ row ++ drop n before → last ≡ take n written ++ zeros (length written - n) → last ≡ filled row before
  unfolding filled
  cleared_behind written last n e w l =
      let long : length written ≡ length before = omega (arith, ap length w, length-append row (drop n before), length-drop n before) in
      l ∙ rw (long, w, take_at row (drop n before) n e, e)
