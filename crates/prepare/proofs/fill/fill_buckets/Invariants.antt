-- each walk goes on where the last ended, and one number more stands in its place.
use Prim.Native.Nat.{◌-◌}
use Rattle.index.specs.Index.{bucket_start}
use Rattle.prepare.proofs.WalkLaws.{Filling}
use Rattle.prepare.proofs.fill.fill_buckets.Given as goal

abbrev pub invariant-loop-b : goal.invariant-loop-b
invariant-loop-b l = Filling (bucket_start l.left l.shift) 4097 582 l.initial.words l.words l.at l.b

abbrev pub decreases-loop-b : goal.decreases-loop-b
decreases-loop-b l = 4097 - l.b
