-- `encode::parts::count_part` meets its contract.
use mathlib.Core.Path.{◌∙◌}
use Rattle.encode.proofs.NormalLaws.{part-counted, part_uncounted}
use Rattle.encode.proofs.parts.count_part.Goals as goal

pub returns-in_err-left : goal.returns-in_err-left
returns-in_err-left c =
    c.from_residual.ensures ∙ part_uncounted _ _ _ _ c.in_err-left.ensures _

pub returns : goal.returns
returns c =
    part-counted c.in_ok-left.ensures _ _ _ c.count_stretch.ensures
