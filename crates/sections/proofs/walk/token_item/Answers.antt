use Rattle.std.proofs.Common.{arith}
use Rattle.std.proofs.lemmas.Grind.{common_steps}
use Rattle.sections.specs.inner.Walk.{token_item}
use Rattle.sections.proofs.walk.token_item.Goals as goal

pub returns : goal.returns
unfolding token_item
returns c = grind (arith, common_steps)
