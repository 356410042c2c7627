use Rattle.std.proofs.Common.{sym, ◌∙◌}
use Rattle.utf8.proofs.Places.{no_join, join_rest}
use Rattle.model.proofs.rows.is_join.Goals as goal

pub returns-then-equal : goal.returns-then-equal
returns-then-equal c =
    let st = c.args in
    c.equal-then-equal.ensures ∙ sym (join_rest st.whole.now st.left.now st.right.now _ c.part-front.ensures _ c.part-rest.ensures (sym c.equal.ensures ∙ c.if-equal.true))

pub returns-else-equal : goal.returns-else-equal
returns-else-equal c =
    let st = c.args in
    c.if-equal.false ∙ sym (no_join st.whole.now st.left.now st.right.now _ c.part-front.ensures (sym c.equal.ensures ∙ c.if-equal.false))
