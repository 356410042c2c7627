-- `decode::space::is_prepend` meets its contract: by the step's kind. Assumes nothing.
use mathlib.Core.Path.{◌≡◌, refl}
use mathlib.Core.Bool.{false}
use Rattle.model.specs.declared.Span.{Span}
use Rattle.model.specs.declared.Step.{Step}
use Rattle.model.specs.declared.Step.TheVariants.{Prepend, Replace, CollapseSpaces, Strip}
use Rattle.decode.specs.Decode.{is_prepend}
use Rattle.decode.proofs.space.is_prepend.Goals as goal

other : (step : Step) → ((content : Span) → step ≡ Prepend content → ⊥) → false ≡ is_prepend step
unfolding is_prepend
other (Prepend content) h = absurd (h content refl)
other (Replace pattern content) h = refl
other (CollapseSpaces content) h = refl
other (Strip left right) h = refl

pub returns-in-Prepend : goal.returns-in-Prepend
unfolding is_prepend
returns-in-Prepend c = rw c.in-Prepend.is

pub returns-in_default : goal.returns-in_default
returns-in_default c = other c.args.step c.in_default.not-Prepend
