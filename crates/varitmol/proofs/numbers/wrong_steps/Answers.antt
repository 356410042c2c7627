use Rattle.std.proofs.Common.{ℕ, List, ap, ◌∙◌, rules, tests}
use Rattle.std.proofs.lemmas.Iterator.{YieldsList-from_slice}
use Rattle.std.proofs.lemmas.Iterator.Consumers.{YieldsList-from_enumerate}
use Rattle.std.proofs.lemmas.Iterator.Search.{any_from_yields_List}
use Rattle.utf8.specs.Lists.{any}
use Rattle.utf8.proofs.Chains.{list_any-is, enumerate-numbered}
use Rattle.varitmol.specs.Numbers.{wrong_step, wrong_steps}
use Rattle.varitmol.proofs.numbers.wrong_steps.Goals as goal

pub returns : goal.returns
unfolding wrong_steps
returns c =
    let kinds : List ℕ = c.args.kinds.now in
    let wrong = wrong_step c.args.spans.now in
    any_from_yields_List wrong _ _ c.any.result c.any.ensures.ran (YieldsList-from_enumerate (YieldsList-from_slice kinds cc) cc) (λ x b q k. search (rules, tests))
    ∙ list_any-is wrong _
    ∙ ap (any wrong) (enumerate-numbered kinds)
