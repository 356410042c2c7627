-- `fragments::Places::strip_far` meets its contract.
use mathlib.Core.Path.{◌≡◌, sym, ◌∙◌}
use native.Mathlib.Omega.{arith}
use borrow.Author.Tests.{lt-ltb, le-leb, lt-leb}
use lib.Dec.{ltb}
use Rattle.utf8.proofs.Tests.{and_both}
use Rattle.sections.specs.inner.Strips.{start_at}
use Rattle.fragments.specs.inner.Reach.{strip_far}
use Rattle.fragments.proofs.ChoiceLaws.{second-false, chosen, not_chosen}
use Rattle.fragments.proofs.Places.strip_far.Goals as goal
use Rattle.fragments.proofs.Places.strip_far.Goals.{else-end-gt0-via-then-end-gt0+else-stop-end, else-end-gt0-via-else-end-gt0}

pub returns-then-stop-end : goal.returns-then-stop-end
unfolding strip_far start_at
returns-then-stop-end c = let a = c.args in
    c.start_after.ensures ∙ sym (chosen _ _ (and_both (lt-ltb 0 a.end (omega arith)) (le-leb a.stop a.end (omega arith))))

pub returns-else-end-gt0 : goal.returns-else-end-gt0
unfolding strip_far
returns-else-end-gt0 c = let a = c.args in
    elim c.else-end-gt0.branch [
      | else-end-gt0-via-then-end-gt0+else-stop-end w ↦ not_chosen _ (second-false (ltb 0 a.end) (lt-leb a.stop a.end w.if-stop-end.false))
      | else-end-gt0-via-else-end-gt0 w ↦ let none : a.end ≡ 0 = omega arith in rw none
    ]
