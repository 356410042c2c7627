-- `normalise::copy::copy_at` meets its contract. The loop's invariant: the first `j` bytes of the part stand in the buffer.
use Rattle.std.proofs.Common.{◌≡◌}
use lib.Seq.{paste}
use Rattle.normalise.proofs.copy.copy_at.Given as goal

abbrev pub invariant-loop-j : goal.invariant-loop-j
invariant-loop-j l = l.out ≡ paste l.fn.out l.at l.part l.j
