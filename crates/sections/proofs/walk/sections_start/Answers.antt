use Rattle.std.proofs.Common.{arith}
use Rattle.std.proofs.lemmas.Grind.{common_steps}
use Rattle.sections.specs.inner.Walk.{sections_start}
use Rattle.sections.proofs.walk.sections_start.Goals as goal

pub returns-then-len-eq0 : goal.returns-then-len-eq0
unfolding sections_start
returns-then-len-eq0 c = grind (arith, common_steps)

pub returns : goal.returns
unfolding sections_start
returns c = grind (arith, common_steps)
