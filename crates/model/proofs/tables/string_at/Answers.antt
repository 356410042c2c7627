-- `model::tables::string_at` meets its contract: by the laws of strings that lie end to end.
use mathlib.Core.Path.{sym}
use borrow.Author.Rules.{rules}
use Rattle.model.proofs.StringLaws.{string_is, string_past}
use Rattle.model.proofs.tables.string_at.Goals as goal

pub returns-then-offsets-i : goal.returns-then-offsets-i
returns-then-offsets-i c =
    let st = c.args in
    sym (string_past st.bytes.now st.offsets.now st.i (search rules))

pub returns-then-offsets-next : goal.returns-then-offsets-next
returns-then-offsets-next c =
    let st = c.args in
    sym (string_past st.bytes.now st.offsets.now st.i (search rules))

pub returns : goal.returns
returns c =
    let st = c.args in
    cc (string_is st.bytes.now st.offsets.now st.i (search rules))
