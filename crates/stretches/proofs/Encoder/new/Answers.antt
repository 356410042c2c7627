-- `stretches::Encoder::new` meets its contract: each part of it is that of the tables.
use mathlib.Core.Path.{fun_ext}
use Rattle.stretches.specs.inner.Tables.{tables_in, stretch_in}
use Rattle.stretches.proofs.PartLaws.{rows_read, cuts_read}
use Rattle.stretches.proofs.Encoder.new.Goals as goal

pub returns : goal.returns
unfolding stretch_in
returns c =
    let t = tables_in c.args.prepared.now in
    let cut = c.cutter.ensures in
    let rows = c.rows.ensures in
    let pieces = c.speller.ensures in
    fun_ext (λ virtual. fun_ext (λ raw. fun_ext (λ bytes.
    rw (rows_read t rows.left rows.right rows.result_ rows.rank rows.words rows.shift, pieces.own, pieces.fallback, cuts_read t cut.kind cut.crossings cut.adjacency raw bytes))))
