use Rattle.model.specs.Model.{piece}
use Rattle.model.proofs.rows.row_joins.Goals as goal

pub returns : goal.returns
unfolding piece
returns c = cc
