-- `stretches::Encoder::encode_started` meets its contract.
use mathlib.Core.Path.{ap}
use Rattle.merge.specs.inner.Laid.{Laid, marked_chars, unit_laid}
use Rattle.merge.specs.inner.Turns.{row_by}
use Rattle.stretches.specs.inner.Encoders.{own_with}
use Rattle.stretches.proofs.WriterLaws.{unit-merged}
use Rattle.stretches.proofs.Encoder.encode_started.Goals as goal

pub returns : goal.returns
unfolding unit_laid
returns c =
    let a = c.args in
    let e = a.self.now in (
      unit-merged (row_by e.rows) (own_with e.speller) e.speller.fallback.now (marked_chars a.virtual_mark a.raw a.unit.now) a.out.now c.init_symbols-starts.ensures c.bpe_merge_symbols_ranked-count.ensures,
      ap (λ (l : Laid). l.symbols.count) c.init_symbols-starts.ensures,
    )
