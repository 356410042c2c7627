use Rattle.std.proofs.Common.{refl}
use Rattle.sections.specs.inner.Walk.{parts_start}
use Rattle.sections.proofs.walk.parts_start.Goals as goal

pub returns : goal.returns
unfolding parts_start
returns c = refl
