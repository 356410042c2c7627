use Rattle.std.proofs.Common.{arith}
use Rattle.std.proofs.lemmas.Grind.{common_steps}
use Rattle.model.specs.Check.{offsets_astray}
use Rattle.model.specs.Model.{steps_of}
use Rattle.model.proofs.offsets.offsets_astray.Goals as goal

pub returns-then-not-run_in_order-3 : goal.returns-then-not-run_in_order-3
unfolding offsets_astray steps_of
returns-then-not-run_in_order-3 c = grind (arith, common_steps)

pub returns-else-not-run_in_order-3 : goal.returns-else-not-run_in_order-3
unfolding offsets_astray steps_of
returns-else-not-run_in_order-3 c = grind (arith, common_steps)
