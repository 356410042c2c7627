use borrow.Author.Tests.{lt-ltb, le-ltb, eq-eqb, ne_eqb}
use Rattle.index.specs.inner.Find.{told}
use Rattle.index.proofs.RowIndex.tell.Goals as goal

pub returns-then-word-eq0 : goal.returns-then-word-eq0
unfolding told
returns-then-word-eq0 c = rw (eq-eqb _ _ c.if-word-eq0.true)

pub returns-then-has : goal.returns-then-has
unfolding told
returns-then-has c =
    rw (ne_eqb _ _ c.if-word-eq0.false) (rw (← c.named_row-row.ensures, ← c.has.ensures, c.if-has.true))

pub returns-then-word-lt-SHARED : goal.returns-then-word-lt-SHARED
unfolding told
returns-then-word-lt-SHARED c =
    rw (ne_eqb _ _ c.if-word-eq0.false)
    (rw (← c.named_row-row.ensures, ← c.has.ensures, c.if-has.false, lt-ltb _ _ c.if-word-lt-SHARED.true))

pub returns : goal.returns
unfolding told
returns c =
    rw (ne_eqb _ _ c.if-word-eq0.false)
    (rw (← c.named_row-row.ensures, ← c.has.ensures, c.if-has.false, le-ltb _ _ c.if-word-lt-SHARED.false))
