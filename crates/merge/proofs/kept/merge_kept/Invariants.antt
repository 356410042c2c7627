-- The loop's invariant: the `n` ids that are left merge to what the first ones merge to, and
-- the rows that are kept are right but for those that are looked up next.
use lib.ListN.{length}
use Rattle.merge.proofs.KeyLaws.{Keeping}
use Rattle.merge.specs.inner.Turns.{row_by}
use Rattle.merge.specs.inner.Keys.{ranked_by}
use Rattle.merge.proofs.kept.merge_kept.Given as goal

abbrev pub invariant-loop-joining : goal.invariant-loop-joining
invariant-loop-joining l = Keeping (row_by l.rows) (ranked_by l.rows) l.count (length l.initial.keys) l.initial.ids l.ids l.n l.keys l.from l.to

abbrev pub decreases-loop-joining : goal.decreases-loop-joining
decreases-loop-joining l = l.n
