-- `normalise::Ran::standing` meets its contract.
use Rattle.normalise.specs.inner.Run.{standing}
use Rattle.normalise.proofs.Ran.standing.Goals as goal

pub returns-in-Given : goal.returns-in-Given
unfolding standing
returns-in-Given c = rw c.in-Given.is

pub returns-in-InA : goal.returns-in-InA
unfolding standing
returns-in-InA c = rw c.in-InA.is c.part.ensures

pub returns-in-InB : goal.returns-in-InB
unfolding standing
returns-in-InB c = rw c.in-InB.is c.part-in-InB.ensures
