-- `normalise::step::apply_step` meets its contract: by the kind of step.
use Rattle.normalise.specs.Steps.{applied}
use Rattle.normalise.proofs.step.apply_step.Goals as goal

pub returns-in-Prepend : goal.returns-in-Prepend
unfolding applied
returns-in-Prepend c = rw c.in-Prepend.is (rw (← c.string_of.ensures) c.prepend.ensures)

pub returns-in-Replace : goal.returns-in-Replace
unfolding applied
returns-in-Replace c = rw c.in-Replace.is (rw (← c.string_of-in-Replace.ensures, ← c.string_of-in-Replace-2.ensures) c.replace.ensures)

pub returns-in-CollapseSpaces : goal.returns-in-CollapseSpaces
unfolding applied
returns-in-CollapseSpaces c = rw c.in-CollapseSpaces.is (rw (← c.string_of-in-CollapseSpaces.ensures) c.collapse_space_runs.ensures)

pub returns-in-Strip : goal.returns-in-Strip
unfolding applied
returns-in-Strip c = rw c.in-Strip.is c.strip.ensures
