use Rattle.std.proofs.Common.{ap, ◌∙◌, rules, tests}
use Rattle.model.specs.Model.{strings_of, piece}
use Rattle.model.specs.inner.Search.{searched, piece_order}
use Rattle.model.proofs.search.find_piece_between.Goals as goal

pub returns : goal.returns
unfolding piece_order piece
returns c =
    let order = piece_order (strings_of c.args.pieces.now) c.args.lookup.now c.args.key.now in
    c.search_by.ensures order (λ i o h told. search (rules, tests)) ∙ ap (searched order c.args.from) c.min.ensures
