use Rattle.std.proofs.Common.{arith}
use Rattle.std.proofs.lemmas.Grind.{common_steps}
use Rattle.sections.specs.inner.Seek.{may_begin}
use Rattle.sections.proofs.first.may_begin.Goals as goal

pub returns : goal.returns
unfolding may_begin
returns c = grind (arith, common_steps)
