use Rattle.std.proofs.Common.{ap}
use Rattle.model.specs.Model.{piece}
use Rattle.model.specs.inner.Tests.{is_long}
use Rattle.model.proofs.lookup.piece_long.Goals as goal

pub returns : goal.returns
unfolding is_long piece
returns c = ap is_long c.get.ensures
