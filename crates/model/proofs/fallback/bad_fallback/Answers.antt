use Rattle.std.proofs.Common.{ap, ◌∙◌, rules, tests}
use mathlib.Core.Bool.{not}
use Rattle.std.proofs.lemmas.Iterator.{YieldsList-from_slice}
use Rattle.std.proofs.lemmas.Iterator.Consumers.{YieldsList-from_enumerate}
use Rattle.std.proofs.lemmas.Iterator.Search.{all_from_yields_List}
use Rattle.utf8.proofs.Chains.{list_all-is, enumerate-numbered}
use Rattle.utf8.specs.Lists.{all}
use Rattle.model.specs.Model.{strings_of}
use Rattle.model.specs.Check.{fallback_fits, bad_fallback}
use Rattle.model.proofs.fallback.bad_fallback.Goals as goal

pub returns : goal.returns
unfolding bad_fallback
returns c =
    let fallback = c.args.fallback.now in
    let fits = fallback_fits (strings_of c.args.pieces.now) in
    ap not
    (all_from_yields_List fits _ _ c.all.result c.all.ensures.ran (YieldsList-from_enumerate (YieldsList-from_slice fallback cc) cc) (λ x b q k. search (rules, tests))
    ∙ list_all-is fits _ ∙ ap (all fits) (enumerate-numbered fallback))
