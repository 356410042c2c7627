-- `stretches::Encoder::encode_each` meets its contract. The loop's invariant: the units before `from` are written, and those from there on follow.
use Prim.Native.Nat.{◌-◌, ◌≤◌}
use lib.ListN.{length}
use Rattle.units.specs.inner.Next.{units_from}
use Rattle.stretches.specs.inner.Encoders.{cuts_by, units_by}
use Rattle.stretches.proofs.WriterLaws.{Going}
use Rattle.stretches.proofs.Encoder.encode_each.Given as goal

abbrev pub invariant-loop-raw : goal.invariant-loop-raw
invariant-loop-raw l =
    let cuts = cuts_by l.self l.raw l.section in
    (l.from ≤ length l.section)
    × Going (units_by l.self l.raw (units_from cuts l.section l.start)) (units_by l.self l.raw (units_from cuts l.section l.from)) l.initial.out l.out l.written

abbrev pub decreases-loop-raw : goal.decreases-loop-raw
decreases-loop-raw l = length l.section - l.from
