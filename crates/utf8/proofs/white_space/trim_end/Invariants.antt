-- `utf8::white_space::trim_end` meets its contract. The loop's invariant: what was left out is White_Space.
-- Assumes nothing.
use Prim.Native.Nat.{◌≤◌}
use mathlib.Core.Path.{◌≡◌}
use lib.ListN.{length, take}
use Rattle.utf8.specs.WhiteSpace.{trim_end}
use Rattle.utf8.proofs.white_space.trim_end.Given as goal

abbrev pub invariant-loop-end : goal.invariant-loop-end
invariant-loop-end l = (l.end ≤ length l.s) × (trim_end l.s ≡ trim_end (take l.end l.s))

abbrev pub decreases-loop-end : goal.decreases-loop-end
decreases-loop-end l = l.end
