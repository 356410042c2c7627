-- `units::raw::is_prepend_mark` meets its contract: by the step.
use mathlib.Core.Path.{ap, ◌∙◌}
use Rattle.utf8.specs.Lists.{same}
use Rattle.units.specs.Kinds.{is_prepend_mark}
use Rattle.model.specs.Mark.{mark}
use Rattle.units.proofs.raw.is_prepend_mark.Goals as goal

pub returns-in-Prepend : goal.returns-in-Prepend
unfolding is_prepend_mark mark
returns-in-Prepend c = rw (c.in-Prepend.is, ← c.string_of.ensures) (c.eq.ensures ∙ ap (same c.string_of.result.now) c.as_slice.ensures)
