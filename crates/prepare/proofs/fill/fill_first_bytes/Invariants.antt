-- each walk goes on where the last ended, and one number more stands in its place.
use Prim.Native.Nat.{◌-◌}
use Rattle.model.specs.Model.{strings_of}
use Rattle.index.specs.Index.{first_byte_start}
use Rattle.prepare.proofs.WalkLaws.{Filling}
use Rattle.prepare.proofs.fill.fill_first_bytes.Given as goal

abbrev pub invariant-loop-b : goal.invariant-loop-b
invariant-loop-b l = Filling (first_byte_start (strings_of l.pieces) l.lookup) 257 69 l.initial.words l.words l.at l.b

abbrev pub decreases-loop-b : goal.decreases-loop-b
decreases-loop-b l = 257 - l.b
