use Rattle.std.proofs.Common.{arith}
use Rattle.std.proofs.lemmas.Grind.{common_steps}
use Rattle.sections.specs.Sections.{white_length}
use Rattle.sections.specs.inner.Strips.{start_at}
use Rattle.sections.proofs.StripLaws.{part_end, white_short}
use Rattle.sections.proofs.strips.start_after.Goals as goal

pub returns-then-not-strip : goal.returns-then-not-strip
unfolding start_at
returns-then-not-strip c = grind (arith, common_steps)

pub overflow_sub-result : goal.overflow_sub-result
overflow_sub-result c = grind (arith, common_steps, part_end, white_short c.args.text.now c.args.end)

pub returns : goal.returns
unfolding start_at white_length
returns c = grind (arith, common_steps, part_end)
