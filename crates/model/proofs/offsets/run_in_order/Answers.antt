use Rattle.std.proofs.Common.{arith}
use Rattle.std.proofs.lemmas.Grind.{common_steps}
use Rattle.model.specs.Check.{run_in_order}
use Rattle.utf8.proofs.Places.{last-at}
use Rattle.model.proofs.offsets.run_in_order.Goals as goal

pub returns-then-never_fall : goal.returns-then-never_fall
unfolding run_in_order
returns-then-never_fall c = grind (arith, common_steps, last-at)

pub returns-else-never_fall : goal.returns-else-never_fall
unfolding run_in_order
returns-else-never_fall c = grind (arith, common_steps, last-at)
