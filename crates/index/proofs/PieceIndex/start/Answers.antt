use mathlib.Core.Path.{◌∙◌}
use Rattle.index.specs.inner.Find.{key_start}
use Rattle.index.proofs.PieceIndex.start.Goals as goal

pub returns : goal.returns
unfolding key_start
returns c = c.number_at.ensures ∙ rw c.first_byte.ensures.0
