-- `decode::space::prepends_space` meets its contract: by the metaspace, or else by the steps. Assumes nothing.
use mathlib.Core.Path.{◌≡◌, sym, ◌∙◌}
use mathlib.Core.Bool.{true, false}
use lib.ListN.{take}
use Rattle.utf8.proofs.Chains.{list_any-is}
use Rattle.decode.specs.Decode.{scheme_prepends, is_prepend, prepends_space}
use Rattle.decode.proofs.space.prepends_space.Goals as goal

pub returns-then-prepends_mark : goal.returns-then-prepends_mark
unfolding prepends_space
returns-then-prepends_mark c =
    let wanted : scheme_prepends c.args.metaspace ≡ true = sym c.prepends_mark.ensures ∙ c.if-prepends_mark.true in
    rw wanted c.if-prepends_mark.true

pub returns-else-prepends_mark : goal.returns-else-prepends_mark
unfolding prepends_space
returns-else-prepends_mark c =
    let none : scheme_prepends c.args.metaspace ≡ false = sym c.prepends_mark.ensures ∙ c.if-prepends_mark.false in
    rw none (c.has_prepend.ensures ∙ list_any-is is_prepend (take c.args.steps.now.count c.args.steps.now.list))
