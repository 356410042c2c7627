-- The bytes so far are spelled.
use Rattle.merge.proofs.StartLaws.{Bytes}
use Rattle.merge.proofs.start.spell_bytes.Given as goal

abbrev pub invariant-loop-b : goal.invariant-loop-b
invariant-loop-b l = Bytes l.fallback l.char l.initial.out l.out l.b-index l.count l.drops
