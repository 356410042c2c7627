-- `units::adjacency::note_strings` meets its contract. The loop's invariant: noting the pairs of the pieces from `id` on gives the rows of all.
use mathlib.Core.Path.{◌≡◌}
use Rattle.utf8.specs.Lists.{neighbours, join_map}
use Rattle.model.specs.Model.{strings}
use Rattle.units.specs.inner.Notes.{no_rows, note_all}
use lib.ListN.{drop}
use Rattle.units.proofs.adjacency.note_strings.Given as goal

abbrev pub invariant-loop-id : goal.invariant-loop-id
invariant-loop-id l = note_all (join_map neighbours (drop l.id (strings l.bytes l.offsets))) l.rows ≡ note_all (join_map neighbours (strings l.bytes l.offsets)) no_rows
