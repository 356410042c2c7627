use Rattle.std.proofs.Common.{◌≡◌, ℕ, suc, ◌-◌, ◌∙◌, sym, ap, get_or, arith}
use Rattle.records.specs.Records.{no_token, content_of}
use Rattle.records.specs.inner.Rows.{longer_of}
use Rattle.records.proofs.LongestLaws.{best_from, best_start, best_next, best_ended}
use Rattle.records.proofs.seek.longest_at.Goals as goal

pub loop-row-init : goal.loop-row-init
loop-row-init c = sym (best_start c.args.bytes.now c.args.tokens.now c.args.text.now)

pub loop-row-preserved : goal.loop-row-preserved
loop-row-preserved c =
    let a = c.args in
    let row : ℕ = c.loop-row.row - 1 in
    let later : suc row ≡ c.loop-row.row = omega arith in
    c.longer-best.ensures
    ∙ ap (longer_of (content_of a.bytes.now (get_or a.tokens.now row no_token)) a.text.now row) (c.loop-row.invariant ∙ ap (best_from a.bytes.now a.tokens.now a.text.now) (sym later))
    ∙ best_next a.bytes.now a.tokens.now a.text.now row (omega arith)

pub returns : goal.returns
returns c =
    let a = c.args in
    let first : c.loop-row.row ≡ 0 = omega arith in
    c.loop-row.invariant ∙ ap (best_from a.bytes.now a.tokens.now a.text.now) first ∙ best_ended a.bytes.now a.tokens.now a.text.now
