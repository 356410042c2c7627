-- `units::raw::is_space_replace` meets its contract: by the step.
use mathlib.Core.Path.{sym, ap, ◌∙◌}
use Rattle.utf8.specs.Lists.{same}
use Rattle.units.specs.Kinds.{is_space_replace}
use Rattle.model.specs.Mark.{mark, space}
use Rattle.units.proofs.raw.is_space_replace.Goals as goal

pub returns-then-eq : goal.returns-then-eq
unfolding is_space_replace mark space
returns-then-eq c =
    let first = sym (c.if-eq.ensures ∙ ap (same c.string_of.result.now) c.as_slice.ensures) in
    rw (c.in-Replace.is, ← c.string_of.ensures, first, ← c.string_of-then-eq.ensures) (c.eq-then-eq.ensures ∙ ap (same c.string_of-then-eq.result.now) c.as_slice-then-eq.ensures)

pub returns-else-eq : goal.returns-else-eq
unfolding is_space_replace mark space
returns-else-eq c =
    let first = sym (c.if-eq.ensures ∙ ap (same c.string_of.result.now) c.as_slice.ensures) in
    rw (c.in-Replace.is, ← c.string_of.ensures, first, c.if-eq.false)
