-- `decode::pass::feed_piece` meets its contract. The loop's invariant: what is left to feed gives what all gives. Assumes nothing.
use Prim.Native.Nat.{◌-◌, ◌≤◌}
use mathlib.Core.Path.{◌≡◌}
use lib.ListN.{length, drop}
use Rattle.decode.specs.inner.Feeding.{fed}
use Rattle.decode.proofs.ByteLaws.{Feeding}
use Rattle.decode.proofs.pass.feed_piece.Given as goal

abbrev pub invariant-loop-i : goal.invariant-loop-i
invariant-loop-i l =
    (l.i ≤ length l.bytes) × (length l.out ≡ length l.initial.out) × (Feeding (fed l.initial.decoder l.bytes l.start l.initial.out) l.decoder (drop l.i l.bytes) l.at l.out)

abbrev pub decreases-loop-i : goal.decreases-loop-i
decreases-loop-i l = length l.bytes - l.i
