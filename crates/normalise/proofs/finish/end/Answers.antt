-- `normalise::finish::end` meets its contract.
use Rattle.normalise.specs.inner.Run.{ended, is_too_long}
use Rattle.normalise.proofs.finish.end.Goals as goal

pub returns-in-Some : goal.returns-in-Some
unfolding ended is_too_long
returns-in-Some c = rw c.in-Some.is (rw c.standing.ensures at c.finish.ensures)

pub returns-in-None : goal.returns-in-None
unfolding ended is_too_long
returns-in-None c = rw c.in-None.is
