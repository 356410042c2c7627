-- The loop's invariant: behind the words of the first table stand those of the second over
-- the first `i` rows.
use mathlib.Core.Path.{◌≡◌}
use Prim.Native.Nat.{◌-◌, ◌≤◌}
use lib.ListN.{length, take}
use Rattle.prepare.proofs.PairLaws.{both_tables}
use Rattle.prepare.proofs.pairs.fill_second.Given as goal

abbrev pub invariant-loop-i : goal.invariant-loop-i
invariant-loop-i l = (l.i ≤ length l.rows.left.now) × (length l.words ≡ 163840) × (l.words ≡ both_tables l.rows.left.now l.rows.right.now l.rows.rank.now (take 131072 l.initial.words) 32768 l.i)

abbrev pub decreases-loop-i : goal.decreases-loop-i
decreases-loop-i l = length l.rows.left.now - l.i
