-- `units::crossings::unit_crossing_pieces` meets its contract. The loop's invariant: `n` places are noted, and those of the pieces from `id` on are left.
use Rattle.model.specs.Model.{strings_of}
use Rattle.units.proofs.NotingLaws.{Notes}
use Rattle.units.proofs.crossings.unit_crossing_pieces.Given as goal

abbrev pub invariant-loop-id : goal.invariant-loop-id
invariant-loop-id l = Notes (strings_of l.pieces) l.id l.n l.noted
