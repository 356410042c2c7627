-- `model::mark::mark_width` meets its contract: by the tests that led to each answer.
use mathlib.Core.Path.{◌≡◌, sym, ◌∙◌}
use mathlib.Core.Bool.{true, false}
use Rattle.utf8.specs.Lists.{starts_with}
use Rattle.model.specs.Mark.{mark, space, mark_width}
use Rattle.model.proofs.mark.mark_width.Goals as goal
use Rattle.model.proofs.mark.mark_width.Goals.{Else-not-raw, Else-starts_with}

-- behind the first test, no mark stands there; behind the second, a space is one
no_mark : (e : Else-starts_with) → starts_with mark e.args.bytes.now ≡ false
unfolding mark
no_mark e = sym e.starts_with.ensures ∙ e.if-starts_with.false

is-raw : (e : Else-not-raw) → e.args.raw ≡ true
is-raw e = e.if-not-raw.false

pub returns-then-starts_with : goal.returns-then-starts_with
unfolding mark_width mark
returns-then-starts_with c = rw (sym c.starts_with.ensures ∙ c.if-starts_with.true)

pub returns-then-not-raw : goal.returns-then-not-raw
unfolding mark_width
returns-then-not-raw c = rw (no_mark (goal.at.returns-then-not-raw c).Else-starts_with, c.if-not-raw.true)

pub returns-then-starts_with-2 : goal.returns-then-starts_with-2
unfolding mark_width space
returns-then-starts_with-2 c = rw (no_mark (goal.at.returns-then-starts_with-2 c).Else-starts_with, is-raw (goal.at.returns-then-starts_with-2 c).Else-not-raw, sym c.starts_with-2.ensures ∙ c.if-starts_with-2.true)

pub returns : goal.returns
unfolding mark_width space
returns c = rw (no_mark (goal.at.returns c).Else-starts_with, is-raw (goal.at.returns c).Else-not-raw, sym c.starts_with-2.ensures ∙ c.if-starts_with-2.false)
