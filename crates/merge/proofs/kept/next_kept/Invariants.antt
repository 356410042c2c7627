-- The loop's invariant: the lowest so far is what the keys before `i` give.
use Rattle.merge.proofs.KeyLaws.{Lowest}
use Rattle.merge.proofs.kept.next_kept.Given as goal

abbrev pub invariant-loop-i : goal.invariant-loop-i
invariant-loop-i l = Lowest l.res l.keys l.lowest l.best_place l.best_key l.i
