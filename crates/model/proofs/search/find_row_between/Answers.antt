use Rattle.std.proofs.Common.{ap, ◌∙◌, rules, tests}
use Rattle.model.specs.inner.Search.{searched, row_order}
use Rattle.model.proofs.search.find_row_between.Goals as goal

pub returns : goal.returns
unfolding row_order
returns c =
    let rows = c.args.rows.now in
    let order = row_order rows.left.now rows.right.now c.args.l c.args.r in
    c.search_by.ensures order (λ i o h told. search (rules, tests)) ∙ ap (searched order c.args.from) c.min.ensures
