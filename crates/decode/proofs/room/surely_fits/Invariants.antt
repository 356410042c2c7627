-- `decode::room::surely_fits` meets its contract. The loop's invariant: all fit where those that are left fit into what is left. Assumes nothing.
use mathlib.Core.Path.{◌≡◌}
use lib.Dec.{leb}
use lib.ListN.{drop}
use Rattle.model.specs.Model.{strings_of}
use Rattle.decode.specs.inner.Feeding.{most_for}
use Rattle.decode.proofs.room.surely_fits.Given as goal

abbrev pub invariant-loop-id : goal.invariant-loop-id
invariant-loop-id l =
    leb (most_for (strings_of l.pieces) l.ids) l.room ≡ leb (most_for (strings_of l.pieces) (drop l.id-index l.ids)) l.left
