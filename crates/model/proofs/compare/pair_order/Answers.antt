use Rattle.std.proofs.Common.{ap₂, ◌∙◌}
use Rattle.model.proofs.OrderLaws.{pair_by-numbers}
use Rattle.std.specs.Ordering.{ordering_then}
use Rattle.model.specs.inner.Search.{pair_order}
use Rattle.model.proofs.compare.pair_order.Goals as goal

pub returns : goal.returns
unfolding pair_order
returns c = c.then.ensures ∙ ap₂ ordering_then c.cmp.ensures c.cmp-2.ensures ∙ pair_by-numbers c.args.a c.args.b c.args.l c.args.r
