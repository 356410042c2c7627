use mathlib.Core.Path.{sym, ap, ◌∙◌}
use native.Mathlib.Omega.{arith}
use Rattle.utf8.specs.Lists.{neighbours, join_map}
use Rattle.model.specs.Model.{strings}
use Rattle.model.proofs.StringLaws.{length-strings}
use Rattle.units.specs.inner.Notes.{note_all}
use Rattle.units.proofs.AdjacencyLaws.{noted-rows, walked_next, walked_ended}
use Rattle.units.proofs.adjacency.note_strings.Goals as goal

pub loop-id-init : goal.loop-id-init
loop-id-init c =
    let st = c.args in
    ap (note_all (join_map neighbours (strings st.bytes.now st.offsets.now))) c.clear.ensures

pub loop-id-preserved : goal.loop-id-preserved
loop-id-preserved c =
    let l = c.loop-id in
    let st = c.args in
    rw (c.note_pairs.ensures, c.get.ensures) (sym (walked_next (strings st.bytes.now st.offsets.now) l.rows l.id (omega (arith, length-strings st.bytes.now st.offsets.now))) ∙ l.invariant)

pub returns : goal.returns
returns c =
    let l = c.loop-id in
    let st = c.args in
    sym (walked_ended (strings st.bytes.now st.offsets.now) l.rows l.id (omega (arith, length-strings st.bytes.now st.offsets.now)))
    ∙ l.invariant
    ∙ noted-rows st.bytes.now st.offsets.now (λ i. omega (arith, c.type_inv.bytes i))
