-- `units::crossings::first_crossing` meets its contract. The loop's invariant: the first place above 0 is the first from `p` on.
use mathlib.Core.Path.{◌≡◌}
use Rattle.units.specs.Kinds.{crosses_at}
use Rattle.units.specs.inner.Next.{next_unit}
use Rattle.units.proofs.NextLaws.{search_from}
use Rattle.units.proofs.crossings.first_crossing.Given as goal

abbrev pub invariant-loop-p : goal.invariant-loop-p
invariant-loop-p l = next_unit (crosses_at l.piece) l.piece 0 ≡ search_from (crosses_at l.piece) l.piece l.p
