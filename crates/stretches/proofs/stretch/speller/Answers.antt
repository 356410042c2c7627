-- `stretches::stretch::speller` meets its contract.
use Rattle.stretches.specs.inner.Tables.{tables_in}
use Rattle.stretches.proofs.PartLaws.{own_read}
use Rattle.stretches.proofs.stretch.speller.Goals as goal

pub returns-clause-own : goal.returns-clause-own
returns-clause-own c =
    let p = c.pieces.ensures in
    own_read (tables_in c.args.prepared.now) p.bytes p.offsets p.lookup p.words p.mark_id
