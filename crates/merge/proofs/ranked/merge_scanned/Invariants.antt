-- The loop's invariant: the `n` ids that are left merge to what the first
-- ones merge to.
use Rattle.merge.specs.inner.Turns.{row_by}
use Rattle.merge.proofs.FrontLaws.{Merging}
use Rattle.merge.proofs.ranked.merge_scanned.Given as goal

abbrev pub invariant-loop-joining : goal.invariant-loop-joining
invariant-loop-joining l = Merging (row_by l.rows) l.initial.n l.initial.ids l.ids l.n

abbrev pub decreases-loop-joining : goal.decreases-loop-joining
decreases-loop-joining l = l.n
