-- `normalise::replace::inserted_length` meets its contract. The loop's invariant: the output of what was passed is counted.
use Rattle.std.proofs.Common.{[], length}
use Rattle.normalise.specs.Steps.{replaced}
use Rattle.normalise.proofs.Measuring.{Measured}
use Rattle.normalise.proofs.replace.inserted_length.Given as goal

abbrev pub invariant-loop-rest : goal.invariant-loop-rest
invariant-loop-rest l = Measured (replaced [] l.content l.text) (replaced [] l.content l.rest) l.room l.left

abbrev pub decreases-loop-rest : goal.decreases-loop-rest
decreases-loop-rest l = length l.rest
