-- The rows ascend exactly if those from `i` on do.
use Rattle.std.proofs.Common.{◌≡◌}
use Rattle.model.specs.Check.{rows_ascend}
use Rattle.model.proofs.RowLaws.{ascend_from}
use Rattle.model.proofs.rows.rows_ascend.Given as goal

abbrev pub invariant-loop-i : goal.invariant-loop-i
invariant-loop-i l = rows_ascend l.left l.right ≡ ascend_from l.left l.right l.i
