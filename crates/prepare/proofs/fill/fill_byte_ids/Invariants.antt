-- with each byte one id more stands in its place.
use Prim.Native.Nat.{◌-◌}
use Rattle.model.specs.Model.{strings_of}
use Rattle.index.specs.Index.{byte_id}
use Rattle.prepare.proofs.WalkLaws.{Filled}
use Rattle.prepare.proofs.fill.fill_byte_ids.Given as goal

abbrev pub invariant-loop-b : goal.invariant-loop-b
invariant-loop-b l = Filled (byte_id (strings_of l.pieces) l.lookup) 256 326 l.initial.words l.words l.b

abbrev pub decreases-loop-b : goal.decreases-loop-b
decreases-loop-b l = 256 - l.b
