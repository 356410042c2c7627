-- `merge::ranked::close_gap` meets its contract.
use mathlib.Core.Path.{ap, ◌∙◌}
use Prim.Native.Nat.{◌-◌}
use lib.ListN.{length, set}
use Rattle.merge.proofs.TurnLaws.{closed}
use Rattle.merge.proofs.ranked.close_gap.Goals as goal

pub returns : goal.returns
returns g c = let a = c.args in ap (λ l. set l (length a.cells.now - 1) a.blank) c.copy_within.ensures.after ∙ closed a.cells.now a.place a.blank c.requires
