use Rattle.std.proofs.Common.{ℕ, Bool, List, ◌∙◌, rules, tests}
use Rattle.std.proofs.lemmas.Iterator.{YieldsList-from_slice}
use Rattle.std.proofs.lemmas.Iterator.Consumers.{YieldsList-from_filter, count_from_yields_List}
use Rattle.utf8.proofs.Chains.{filter-count}
use Rattle.model.specs.Model.{strings_of, piece}
use Rattle.model.specs.inner.Tests.{is_long}
use Rattle.model.proofs.lookup.long_entries.Goals as goal

pub returns : goal.returns
returns c =
    let long : ℕ → Bool = λ id. is_long (piece (strings_of c.args.pieces.now) id) in
    let lookup : List ℕ = c.args.lookup.now in
    count_from_yields_List c.filter.result _ c.count.ensures.ran (YieldsList-from_filter _ long (YieldsList-from_slice lookup cc) c.filter.ensures.closure (λ x b q k. search (rules, tests)))
    ∙ filter-count long lookup
