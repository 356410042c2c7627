use Rattle.std.proofs.Common.{arith}
use Rattle.std.proofs.lemmas.Grind.{common_steps}
use Rattle.model.specs.Check.{bad_row}
use Rattle.model.proofs.StringLaws.{length-strings}
use Rattle.model.proofs.rows.bad_row.Goals as goal

pub returns-then-not-all_below-3 : goal.returns-then-not-all_below-3
unfolding bad_row
returns-then-not-all_below-3 c = grind (arith, common_steps, length-strings)

pub returns-else-not-all_below-3 : goal.returns-else-not-all_below-3
unfolding bad_row
returns-else-not-all_below-3 c = grind (arith, common_steps, length-strings)
