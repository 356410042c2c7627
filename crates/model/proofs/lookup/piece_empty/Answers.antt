use Rattle.std.proofs.Common.{sym, ap, ◌∙◌}
use Rattle.utf8.specs.Lists.{is_empty}
use Rattle.utf8.proofs.Places.{empty_by_length}
use Rattle.model.specs.Model.{piece}
use Rattle.model.proofs.lookup.piece_empty.Goals as goal

pub returns : goal.returns
unfolding piece
returns c = c.is_empty.ensures ∙ sym (empty_by_length c.get.result.now) ∙ ap is_empty c.get.ensures
