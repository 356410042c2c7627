use Rattle.std.proofs.Common.{Bool, List, ◌∙◌, rules, tests}
use Rattle.std.proofs.lemmas.Iterator.{YieldsList-from_slice}
use Rattle.std.proofs.lemmas.Iterator.Search.{any_from_yields_List}
use Rattle.utf8.proofs.Chains.{list_any-is}
use Rattle.utf8.specs.Lists.{any}
use Rattle.std.proofs.Common.{take}
use Rattle.model.specs.declared.Step.{Step}
use Rattle.model.specs.Model.{spans_of}
use Rattle.model.specs.inner.Tests.{span_fails}
use Rattle.model.proofs.CheckLaws.{any_spans}
use Rattle.model.proofs.steps.steps_fail.Goals as goal

pub returns : goal.returns
returns c =
    let steps : List Step = take c.args.steps.now.count c.args.steps.now.list in
    let fails : Step → Bool = λ step. any (span_fails c.args.test c.args.steps.now.bytes.now) (spans_of step) in
    any_from_yields_List fails _ _ c.any.result c.any.ensures.ran (YieldsList-from_slice steps c.iter.ensures.rest) (λ x b q k. search (rules, tests))
    ∙ list_any-is fails steps
    ∙ any_spans (span_fails c.args.test c.args.steps.now.bytes.now) steps
