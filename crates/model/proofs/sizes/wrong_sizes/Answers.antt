use Rattle.std.proofs.Common.{arith}
use Rattle.std.proofs.lemmas.Grind.{common_steps}
use Rattle.model.specs.Check.{wrong_list_sizes, wrong_sizes}
use Rattle.model.specs.Model.{steps_of}
use Rattle.model.proofs.sizes.wrong_sizes.Goals as goal

pub returns-then-wrong_token_sizes-2 : goal.returns-then-wrong_token_sizes-2
unfolding wrong_list_sizes wrong_sizes steps_of
returns-then-wrong_token_sizes-2 c = grind (arith, common_steps)

pub returns-else-wrong_token_sizes-2 : goal.returns-else-wrong_token_sizes-2
unfolding wrong_list_sizes wrong_sizes steps_of
returns-else-wrong_token_sizes-2 c = grind (arith, common_steps)
