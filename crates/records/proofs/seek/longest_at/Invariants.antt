-- `best` is the longest of the rows from `row` on.
use Rattle.std.proofs.Common.{◌≡◌}
use Rattle.records.proofs.LongestLaws.{best_from}
use Rattle.records.proofs.seek.longest_at.Given as goal

abbrev pub invariant-loop-row : goal.invariant-loop-row
invariant-loop-row l = l.best ≡ best_from l.bytes l.tokens l.text l.row
