use Rattle.std.proofs.Common.{arith}
use Rattle.std.proofs.lemmas.Grind.{common_steps}
use Rattle.sections.specs.inner.Strips.{stop_at}
use Rattle.sections.proofs.StripLaws.{stop_inside}
use Rattle.sections.proofs.strips.stop_before.Goals as goal

pub returns-then-not-strip : goal.returns-then-not-strip
unfolding stop_at
returns-then-not-strip c = grind (arith, common_steps)

pub overflow_add-result : goal.overflow_add-result
overflow_add-result c = grind (arith, common_steps, stop_inside c.args.text.now c.args.start c.args.place)

pub returns : goal.returns
unfolding stop_at
returns c = grind (arith, common_steps)
