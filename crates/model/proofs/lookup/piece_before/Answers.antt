use Rattle.std.proofs.Common.{ap, ap₂, ◌∙◌}
use Rattle.model.specs.Model.{piece}
use Rattle.model.specs.ByteOrder.{byte_order, is_less, is_before}
use Rattle.model.proofs.OrderLaws.{is_lt-is_less}
use Rattle.model.proofs.lookup.piece_before.Goals as goal

pub returns : goal.returns
unfolding piece is_before
returns c = c.is_lt.ensures ∙ is_lt-is_less c.byte_order.result ∙ ap is_less (c.byte_order.ensures ∙ ap₂ byte_order c.get.ensures c.get-2.ensures)
