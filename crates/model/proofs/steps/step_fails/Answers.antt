use mathlib.Core.Bool.{or-false}
use Rattle.model.specs.Model.{spans_of}
use Rattle.model.proofs.steps.step_fails.Goals as goal

pub returns-in-Prepend : goal.returns-in-Prepend
unfolding spans_of
returns-in-Prepend c = rw c.in-Prepend.is (rw (or-false) c.span_fails.ensures)

pub returns-then-span_fails : goal.returns-then-span_fails
unfolding spans_of
returns-then-span_fails c = rw c.in-Replace.is (rw (← c.span_fails-in-Replace.ensures, c.if-span_fails.true))

pub returns-else-span_fails : goal.returns-else-span_fails
unfolding spans_of
returns-else-span_fails c = rw c.in-Replace.is (rw (← c.span_fails-in-Replace.ensures, c.if-span_fails.false, or-false) c.span_fails-else-span_fails.ensures)

pub returns-in-CollapseSpaces : goal.returns-in-CollapseSpaces
unfolding spans_of
returns-in-CollapseSpaces c = rw c.in-CollapseSpaces.is (rw (or-false) c.span_fails-in-CollapseSpaces.ensures)

pub returns-in-Strip : goal.returns-in-Strip
unfolding spans_of
returns-in-Strip c = rw c.in-Strip.is
