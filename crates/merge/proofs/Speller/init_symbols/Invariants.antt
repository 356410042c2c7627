-- The loop's invariant: the characters before `i` are spelled.
use Prim.Native.Nat.{◌+◌, ◌-◌, ◌≤◌}
use lib.ListN.{length, drop}
use Rattle.merge.specs.Start.{unit_chars}
use Rattle.merge.specs.inner.Laid.{own_by}
use Rattle.merge.proofs.WalkLaws.{Onward}
use Rattle.merge.proofs.Speller.init_symbols.Given as goal

abbrev pub invariant-loop-i : goal.invariant-loop-i
invariant-loop-i l =
    (l.i ≤ length l.unit)
    × (l.drops ≤ l.initial.drops + l.i)
    × Onward (own_by l.self.index) l.self.fallback.now (unit_chars l.raw l.unit) (unit_chars l.raw (drop l.i l.unit)) l.initial.out l.initial.count l.initial.drops l.out l.count l.drops

abbrev pub decreases-loop-i : goal.decreases-loop-i
decreases-loop-i l = length l.unit - l.i
