-- The loop's invariant: the characters before `i` are counted.
use Prim.Native.Nat.{◌+◌, ◌-◌, ◌≤◌}
use mathlib.Core.Path.{◌≡◌}
use lib.ListN.{length, drop}
use Rattle.merge.specs.Start.{unit_chars}
use Rattle.merge.specs.inner.Laid.{own_by, marked_chars}
use Rattle.merge.proofs.WalkLaws.{Tallied}
use Rattle.merge.proofs.Speller.count_symbols.Given as goal

abbrev pub invariant-loop-i : goal.invariant-loop-i
invariant-loop-i l =
    (l.i ≤ length l.unit)
    × (l.drops ≤ 1 + l.i)
    × (length l.ids ≡ 4)
    × Tallied (own_by l.self.index) l.self.fallback.now (marked_chars l.virtual_mark l.raw l.unit) (unit_chars l.raw (drop l.i l.unit)) l.room l.count l.drops

abbrev pub decreases-loop-i : goal.decreases-loop-i
decreases-loop-i l = length l.unit - l.i
