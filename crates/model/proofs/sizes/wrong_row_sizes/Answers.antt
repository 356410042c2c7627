use Rattle.std.proofs.Common.{arith}
use Rattle.std.proofs.lemmas.Grind.{common_steps}
use Rattle.model.specs.Check.{wrong_row_sizes}
use Rattle.model.proofs.sizes.wrong_row_sizes.Goals as goal

pub returns-then-count-rows-2 : goal.returns-then-count-rows-2
unfolding wrong_row_sizes
returns-then-count-rows-2 c = grind (arith, common_steps)

pub returns-else-count-rows-2 : goal.returns-else-count-rows-2
unfolding wrong_row_sizes
returns-else-count-rows-2 c = grind (arith, common_steps)
