-- `utf8::white_space::trim_start` meets its contract. The loop's invariant: what was passed is White_Space.
-- Assumes nothing.
use Prim.Native.Nat.{◌-◌, ◌≤◌}
use mathlib.Core.Path.{◌≡◌}
use lib.ListN.{length, drop}
use Rattle.utf8.specs.WhiteSpace.{trim_start}
use Rattle.utf8.proofs.white_space.trim_start.Given as goal

abbrev pub invariant-loop-i : goal.invariant-loop-i
invariant-loop-i l = (l.i ≤ length l.s) × (trim_start l.s ≡ trim_start (drop l.i l.s))

abbrev pub decreases-loop-i : goal.decreases-loop-i
decreases-loop-i l = length l.s - l.i
