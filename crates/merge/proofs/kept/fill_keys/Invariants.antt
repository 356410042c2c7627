-- Those before `i` are right too.
use mathlib.Core.List.{map}
use Rattle.merge.specs.inner.Keys.{key_row, ranked_by, next_rows, Kept}
use Rattle.merge.proofs.kept.fill_keys.Given as goal

abbrev pub invariant-loop-i : goal.invariant-loop-i
invariant-loop-i l = Kept (next_rows (ranked_by l.rows) l.ids) (map key_row l.keys) l.i l.to
