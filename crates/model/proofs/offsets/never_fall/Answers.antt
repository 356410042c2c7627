use Rattle.std.proofs.Common.{ℕ, List, drop, ap, ◌∙◌, rules, tests}
use Rattle.std.proofs.lemmas.Iterator.{YieldsList-from_slice, YieldsList-from_zip}
use Rattle.std.proofs.lemmas.Iterator.Adapters.{YieldsList-from_skip}
use Rattle.std.proofs.lemmas.Iterator.Search.{all_from_yields_List}
use Rattle.utf8.proofs.Chains.{list_all-is, zip-neighbours}
use Rattle.std.specs.List as std
use Rattle.utf8.specs.Lists.{all}
use Rattle.model.specs.Check.{pair_rises}
use Rattle.model.proofs.offsets.never_fall.Goals as goal

pub returns : goal.returns
unfolding pair_rises
returns c =
    let offsets : List ℕ = c.args.offsets.now in
    all_from_yields_List pair_rises c.all.new.self _ c.all.result c.all.ensures.ran (YieldsList-from_zip (YieldsList-from_slice offsets cc) (YieldsList-from_skip 1 (YieldsList-from_slice offsets cc) cc)) (λ x b q k. search (rules, tests))
    ∙ list_all-is pair_rises (std.zip offsets (drop 1 offsets)) ∙ ap (all pair_rises) (zip-neighbours offsets)
