-- `merge::ranked::merge_at` meets its contract.
use mathlib.Core.Path.{◌∙◌}
use Rattle.merge.proofs.TurnLaws.{joined}
use Rattle.merge.proofs.ranked.merge_at.Goals as goal

pub returns : goal.returns
returns c = let a = c.args in c.close_gap.ensures ∙ joined a.ids.now a.place a.res c.requires
