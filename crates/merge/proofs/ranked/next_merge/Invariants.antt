-- The best so far is what the pairs before `place` give.
use Rattle.merge.specs.inner.Turns.{row_by}
use Rattle.merge.proofs.TurnLaws.{Best}
use Rattle.merge.proofs.ranked.next_merge.Given as goal

abbrev pub invariant-loop-place : goal.invariant-loop-place
invariant-loop-place l = Best (row_by l.rows) l.ids l.rows.rows.result.now l.best l.best_place l.best_row l.place
