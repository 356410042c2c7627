-- `model::mark::ends_with_mark` meets its contract: by the tests that led to each answer.
use mathlib.Core.Path.{◌≡◌, sym, ◌∙◌}
use mathlib.Core.Bool.{true, false}
use Rattle.utf8.specs.Lists.{ends_with}
use Rattle.model.specs.Mark.{mark, space, ends_with_mark}
use Rattle.model.proofs.mark.ends_with_mark.Goals as goal
use Rattle.model.proofs.mark.ends_with_mark.Goals.{Else-ends_with, Else-not-raw}

-- behind the first test, no mark stands there; behind the second, a space is one
no_mark : (e : Else-ends_with) → ends_with mark e.args.bytes.now ≡ false
unfolding mark
no_mark e = sym e.ends_with.ensures ∙ e.if-ends_with.false

is-raw : (e : Else-not-raw) → e.args.raw ≡ true
is-raw e = e.if-not-raw.false

pub returns-then-ends_with : goal.returns-then-ends_with
unfolding ends_with_mark mark
returns-then-ends_with c = rw (sym c.ends_with.ensures ∙ c.if-ends_with.true)

pub returns-then-not-raw : goal.returns-then-not-raw
unfolding ends_with_mark
returns-then-not-raw c = rw (no_mark (goal.at.returns-then-not-raw c).Else-ends_with, c.if-not-raw.true)

pub returns : goal.returns
unfolding ends_with_mark space
returns c = rw (no_mark (goal.at.returns c).Else-ends_with, is-raw (goal.at.returns c).Else-not-raw) c.ends_with-2.ensures
