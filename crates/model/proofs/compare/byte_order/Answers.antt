use Rattle.std.proofs.Common.{◌∙◌}
use Rattle.model.proofs.OrderLaws.{slice_cmp-is}
use Rattle.model.proofs.compare.byte_order.Goals as goal

pub returns : goal.returns
returns c = c.cmp.ensures ∙ slice_cmp-is c.args.a.now c.args.b.now
