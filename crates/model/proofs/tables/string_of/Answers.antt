-- `model::tables::string_of` meets its contract.
use Rattle.model.specs.Model.{step_string}
use Rattle.model.proofs.tables.string_of.Goals as goal

pub returns : goal.returns
unfolding step_string
returns c = cc
