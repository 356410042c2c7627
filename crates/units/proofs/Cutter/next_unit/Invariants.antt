-- `units::cut::next_unit` meets its contract. The loop's invariant: the first place above `from` is the first from `p` on.
use mathlib.Core.Path.{◌≡◌}
use Rattle.units.specs.Units.{begins_unit}
use Rattle.units.specs.inner.Read.{pair_noted, crossings_in}
use Rattle.units.specs.inner.Next.{next_unit}
use Rattle.units.proofs.NextLaws.{search_from}
use Rattle.units.proofs.Cutter.next_unit.Given as goal

abbrev pub invariant-loop-p : goal.invariant-loop-p
invariant-loop-p l = next_unit (begins_unit l.self.kind (crossings_in l.self) (pair_noted l.self.adjacency.now) l.raw l.section) l.section l.from ≡ search_from (begins_unit l.self.kind (crossings_in l.self) (pair_noted l.self.adjacency.now) l.raw l.section) l.section l.p
