use mathlib.Core.Path.{◌∙◌}
use Rattle.index.specs.inner.Find.{byte_word}
use Rattle.index.proofs.PieceIndex.byte_id.Goals as goal

pub returns : goal.returns
unfolding byte_word
returns c = c.number_at.ensures ∙ rw c.from.ensures
