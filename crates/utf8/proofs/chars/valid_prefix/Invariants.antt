-- `utf8::chars::valid_prefix` meets its contract. The loop's invariant: the prefix is what was passed, and the longest valid prefix of the rest.
-- Assumes nothing.
use Prim.Native.Nat.{◌≤◌, ◌-◌, ◌+◌}
use mathlib.Core.Path.{◌≡◌}
use lib.ListN.{length, drop}
use Rattle.utf8.specs.Chars.{longest_valid_prefix}
use Rattle.utf8.proofs.chars.valid_prefix.Given as goal

abbrev pub invariant-loop-i : goal.invariant-loop-i
invariant-loop-i l =
    (l.i ≤ length l.s) × (length (longest_valid_prefix l.s) ≡ l.i + length (longest_valid_prefix (drop l.i l.s)))

abbrev pub decreases-loop-i : goal.decreases-loop-i
decreases-loop-i l = length l.s - l.i
