use Rattle.std.proofs.Common.{arith}
use Rattle.std.proofs.lemmas.Grind.{common_steps}
use Rattle.model.specs.Check.{wrong_token_sizes}
use Rattle.utf8.proofs.Places.{empty_by_length}
use Rattle.model.proofs.sizes.wrong_token_sizes.Goals as goal

pub returns-then-count-tokens-2 : goal.returns-then-count-tokens-2
unfolding wrong_token_sizes
returns-then-count-tokens-2 c = grind (arith, common_steps, empty_by_length)

pub returns-else-count-tokens-2 : goal.returns-else-count-tokens-2
unfolding wrong_token_sizes
returns-else-count-tokens-2 c = grind (arith, common_steps, empty_by_length)
