use Rattle.std.proofs.Common.{arith}
use Rattle.std.proofs.lemmas.Grind.{common_steps}
use Rattle.model.specs.Model.{contents}
use Rattle.sections.specs.inner.Walk.{next_item}
use Rattle.sections.proofs.walk.next_item.Goals as goal

pub returns-then-turns-eq0 : goal.returns-then-turns-eq0
unfolding next_item
returns-then-turns-eq0 c = grind (arith, common_steps)

pub returns-in-Whole : goal.returns-in-Whole
unfolding next_item
returns-in-Whole c = grind (arith, common_steps)

pub returns-else-eq : goal.returns-else-eq
unfolding next_item contents
returns-else-eq c = grind (arith, common_steps)

pub returns-in-Held : goal.returns-in-Held
unfolding next_item
returns-in-Held c = grind (arith, common_steps)

pub returns-in-Done : goal.returns-in-Done
unfolding next_item
returns-in-Done c = grind (arith, common_steps)
