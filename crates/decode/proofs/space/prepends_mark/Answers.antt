-- `decode::space::prepends_mark` meets its contract: by the scheme. Assumes nothing.
use mathlib.Core.Path.{◌≡◌, refl, sym, ap, ◌∙◌}
use mathlib.Core.Bool.{true, not}
use Rattle.model.specs.declared.PrependScheme.{PrependScheme}
use Rattle.model.specs.declared.PrependScheme.TheVariants.{Never, Always, First}
use Rattle.decode.specs.Decode.{puts_mark, scheme_prepends}
use Rattle.decode.proofs.space.prepends_mark.Goals as goal
use Rattle.decode.proofs.space.prepends_mark.Goals.{in-Never, in_default}

other : (prepend : PrependScheme) → (prepend ≡ Never → ⊥) → true ≡ puts_mark prepend
other Never h = absurd (h refl)
other Always h = refl
other First h = refl

pub returns-in-None : goal.returns-in-None
unfolding scheme_prepends
returns-in-None c = rw c.in-None.is

pub returns-after-matches : goal.returns-after-matches
unfolding scheme_prepends
returns-after-matches c =
    elim c.match-matches.branch [
      | in-Never w ↦ rw (w.matches-is, c.in-Some.is, w.in-Never.is)
      | in_default w ↦ ap not w.matches-is ∙ other c.in-Some.metaspace.prepend w.in_default.not-Never ∙ sym (ap scheme_prepends c.in-Some.is)
    ]
