-- The loop's invariant: the words are those of the table of the first `i` rows.
use mathlib.Core.Path.{◌≡◌}
use Prim.Native.Nat.{◌-◌, ◌≤◌}
use lib.ListN.{length}
use Rattle.prepare.proofs.PairLaws.{first_table}
use Rattle.prepare.proofs.pairs.fill_first.Given as goal

abbrev pub invariant-loop-i : goal.invariant-loop-i
invariant-loop-i l = (l.i ≤ length l.rows.left.now) × (length l.words ≡ 131072) × (l.words ≡ first_table l.rows.left.now l.rows.right.now l.rows.rank.now 131072 l.i)

abbrev pub decreases-loop-i : goal.decreases-loop-i
decreases-loop-i l = length l.rows.left.now - l.i
