use Rattle.std.proofs.Common.{arith}
use Rattle.std.proofs.lemmas.Grind.{common_steps}
use Rattle.merge.specs.inner.Laid.{byte_own}
use Rattle.merge.proofs.Speller.own_byte.Goals as goal

pub returns-then-b-ge128 : goal.returns-then-b-ge128
unfolding byte_own
returns-then-b-ge128 c = grind (arith, common_steps)

pub returns-then-b-eq32 : goal.returns-then-b-eq32
unfolding byte_own
returns-then-b-eq32 c = grind (arith, common_steps)

pub returns : goal.returns
unfolding byte_own
returns c = grind (arith, common_steps)
