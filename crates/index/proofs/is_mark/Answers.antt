-- `index::is_mark` meets its contract.
use Rattle.model.specs.Mark.{mark}
use Rattle.index.proofs.is_mark.Goals as goal

pub returns : goal.returns
unfolding mark
returns c = c.equal.ensures
