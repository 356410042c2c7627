-- `stretches::repeats::slot_of` meets its contract.
use Prim.Native.Nat.{◌<◌}
use Rattle.stretches.proofs.repeats.slot_of.Given as goal

abbrev pub invariant-loop-b : goal.invariant-loop-b
invariant-loop-b l = l.slot < 8192
