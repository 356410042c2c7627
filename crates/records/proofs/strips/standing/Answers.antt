use Rattle.std.proofs.Common.{sym, ap, ◌∙◌}
use Rattle.records.specs.declared.AddedToken.{AddedToken}
use Rattle.records.specs.Records.{token_of}
use Rattle.records.specs.inner.Rows.{standing_of}
use Rattle.records.proofs.ColumnLaws.{standing-is}
use Rattle.records.proofs.strips.standing.Goals as goal

pub returns : goal.returns
returns c =
    let a = c.args in
    c.standing_of.ensures
    ∙ ap (λ (t : AddedToken). standing_of (token_of a.bytes.now t) a.text.now a.start a.found.place) c.record_at.ensures
    ∙ sym (standing-is a.bytes.now a.tokens.now a.text.now a.start a.found.place a.found.row)
