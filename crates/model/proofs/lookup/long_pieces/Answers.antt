use Rattle.std.proofs.Common.{ℕ, [], get_or, sym, ◌∙◌, arith, rules, tests}
use Rattle.std.proofs.lemmas.Iterator.{YieldsList-from_range}
use Rattle.std.proofs.lemmas.Iterator.Consumers.{YieldsList-from_filter, count_from_yields_List}
use Rattle.utf8.proofs.Chains.{places-count}
use Rattle.model.specs.Model.{strings_of, piece}
use Rattle.model.specs.inner.Tests.{is_long}
use Rattle.model.proofs.StringLaws.{length-strings}
use Rattle.model.proofs.lookup.long_pieces.Goals as goal

pub returns : goal.returns
unfolding piece
returns c =
    let pieces = strings_of c.args.pieces.now in
    count_from_yields_List c.filter.result _ c.count.ensures.ran (YieldsList-from_filter _ (λ (id : ℕ). is_long (get_or pieces id [])) (YieldsList-from_range 0 c.len.result c.len.result c.filter.ensures.source (omega arith)) c.filter.ensures.closure (λ x b q k. search (rules, tests)))
    ∙ places-count is_long pieces [] c.len.result (c.len.ensures ∙ sym (length-strings _ _))
