use Rattle.std.proofs.Common.{ℕ, Bool, List, drop, ap, ◌∙◌, rules, tests}
use Rattle.std.proofs.lemmas.Iterator.{YieldsList-from_slice, YieldsList-from_zip}
use Rattle.std.proofs.lemmas.Iterator.Adapters.{YieldsList-from_skip}
use Rattle.std.proofs.lemmas.Iterator.Search.{all_from_yields_List}
use Rattle.utf8.proofs.Chains.{list_all-is, zip-neighbours}
use Rattle.std.specs.List as std
use Rattle.utf8.specs.Lists.{all}
use Rattle.model.specs.ByteOrder.{is_before}
use Rattle.model.specs.Model.{strings_of, piece}
use Rattle.model.specs.Check.{lookup_ascends}
use Rattle.model.proofs.lookup.lookup_ascends.Goals as goal

pub returns : goal.returns
unfolding lookup_ascends
returns c =
    let lookup : List ℕ = c.args.lookup.now in
    let pieces = strings_of c.args.pieces.now in
    let before : ℕ × ℕ → Bool = λ p. is_before (piece pieces p.0) (piece pieces p.1) in
    all_from_yields_List before c.all.new.self _ c.all.result c.all.ensures.ran (YieldsList-from_zip (YieldsList-from_slice lookup cc) (YieldsList-from_skip 1 (YieldsList-from_slice lookup cc) cc)) (λ x b q k. search (rules, tests))
    ∙ list_all-is before (std.zip lookup (drop 1 lookup)) ∙ ap (all before) (zip-neighbours lookup)
