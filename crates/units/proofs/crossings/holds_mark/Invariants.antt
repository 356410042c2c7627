-- `units::crossings::holds_mark` meets its contract. The loop's invariant: a mark or a space stands there exactly if one stands from `p` on.
use mathlib.Core.Path.{◌≡◌}
use Rattle.utf8.specs.Lists.{any, below}
use Rattle.units.specs.Kinds.{holds_mark}
use Rattle.units.proofs.CrossingLaws.{marks}
use lib.ListN.{length, drop}
use Rattle.units.proofs.crossings.holds_mark.Given as goal

abbrev pub invariant-loop-p : goal.invariant-loop-p
invariant-loop-p l = holds_mark l.bytes ≡ any (marks l.bytes) (drop l.p (below (length l.bytes)))
