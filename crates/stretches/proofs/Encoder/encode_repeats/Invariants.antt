-- `stretches::Encoder::encode_repeats` meets its contract. The loop's invariant: the units before `from` are written and those from there on follow,
-- and what each slot remembers holds.
use Prim.Native.Nat.{◌-◌, ◌≤◌}
use lib.ListN.{length}
use Rattle.units.specs.inner.Next.{units_from}
use Rattle.merge.specs.inner.Turns.{row_by}
use Rattle.stretches.specs.inner.Encoders.{own_with, cuts_by, units_by}
use Rattle.stretches.proofs.WriterLaws.{Going}
use Rattle.stretches.proofs.RepeatLaws.{Table}
use Rattle.stretches.proofs.Encoder.encode_repeats.Given as goal

abbrev pub invariant-loop-out : goal.invariant-loop-out
invariant-loop-out l =
    let cuts = cuts_by l.self l.raw l.section in
    (l.from ≤ length l.section)
    × Going (units_by l.self l.raw (units_from cuts l.section l.start)) (units_by l.self l.raw (units_from cuts l.section l.from)) l.initial.out l.out l.written
    × Table (row_by l.self.rows) (own_with l.self.speller) l.self.speller.fallback.now l.raw l.section l.out l.written 8192 l.seen

abbrev pub decreases-loop-out : goal.decreases-loop-out
decreases-loop-out l = length l.section - l.from
