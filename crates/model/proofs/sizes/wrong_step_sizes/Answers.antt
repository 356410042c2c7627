use Rattle.std.proofs.Common.{arith}
use Rattle.std.proofs.lemmas.Grind.{common_steps}
use Rattle.model.specs.Check.{wrong_step_sizes}
use Rattle.model.proofs.sizes.wrong_step_sizes.Goals as goal

pub returns-then-steps-gt-STEP_LIMIT : goal.returns-then-steps-gt-STEP_LIMIT
unfolding wrong_step_sizes
returns-then-steps-gt-STEP_LIMIT c = grind (arith, common_steps)

pub returns-else-steps-gt-STEP_LIMIT : goal.returns-else-steps-gt-STEP_LIMIT
unfolding wrong_step_sizes
returns-else-steps-gt-STEP_LIMIT c = grind (arith, common_steps)
