use mathlib.Core.Path.{◌≡◌}
use Prim.Native.Nat.{◌-◌, ◌*◌, ◌^◌, ◌≤◌}
use Rattle.index.specs.Index.{bucket_shift}
use Rattle.prepare.proofs.WalkLaws.{shift_from}
use Rattle.prepare.proofs.fill.bucket_shift.Given as goal

abbrev pub invariant-loop-shift : goal.invariant-loop-shift
invariant-loop-shift l = (l.shift ≤ 7) × (l.room ≡ 4096 * 2 ^ l.shift) × (bucket_shift l.count ≡ shift_from l.count l.shift)

abbrev pub decreases-loop-shift : goal.decreases-loop-shift
decreases-loop-shift l = 7 - l.shift
