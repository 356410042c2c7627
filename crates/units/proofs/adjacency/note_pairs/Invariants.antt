-- `units::adjacency::note_pairs` meets its contract. The loop's invariant: noting the pairs from the byte before `i` on gives the rows of all.
use mathlib.Core.Path.{◌≡◌}
use Prim.Native.Nat.{◌-◌}
use lib.ListN.{drop}
use Rattle.utf8.specs.Lists.{neighbours}
use Rattle.units.specs.inner.Notes.{note_all}
use Rattle.units.proofs.adjacency.note_pairs.Given as goal

abbrev pub invariant-loop-i : goal.invariant-loop-i
invariant-loop-i l = note_all (drop (l.i - 1) (neighbours l.bytes)) l.rows ≡ note_all (neighbours l.bytes) l.initial.rows
