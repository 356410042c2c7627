-- `normalise::replace::write_inserted` meets its contract. The loop's invariant: the output of what was passed is written.
use Rattle.std.proofs.Common.{[], length}
use Rattle.utf8.proofs.Writing.{Written}
use Rattle.normalise.specs.Steps.{replaced}
use Rattle.normalise.proofs.replace.write_inserted.Given as goal

abbrev pub invariant-loop-rest : goal.invariant-loop-rest
invariant-loop-rest l = Written (replaced [] l.content l.text) (replaced [] l.content l.rest) l.fn.out l.out l.at

abbrev pub decreases-loop-rest : goal.decreases-loop-rest
decreases-loop-rest l = length l.rest
