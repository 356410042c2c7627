use mathlib.Core.Path.{◌∙◌}
use Rattle.index.specs.inner.Find.{key_end}
use Rattle.index.proofs.PieceIndex.end.Goals as goal

pub returns : goal.returns
unfolding key_end
returns c = c.number_at.ensures ∙ rw c.first_byte.ensures.0
