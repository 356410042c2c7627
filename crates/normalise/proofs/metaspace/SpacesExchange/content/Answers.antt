-- `normalise::metaspace::SpacesExchange::content` meets its contract.
use Rattle.std.proofs.Common.{refl}
use Rattle.model.specs.Mark.{mark}
use Rattle.normalise.proofs.metaspace.SpacesExchange.content.Goals as goal

pub returns : goal.returns
unfolding mark
returns c = refl
