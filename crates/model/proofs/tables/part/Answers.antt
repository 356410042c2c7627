-- `model::tables::part` meets its contract: by the laws of a part from a place to a place.
use mathlib.Core.Path.{sym}
use borrow.Author.Rules.{rules}
use Rattle.utf8.proofs.Places.{slice_none, slice_of, slice_rest, slice_past}
use Rattle.model.proofs.tables.part.Goals as goal

pub returns-then-stop-start : goal.returns-then-stop-start
returns-then-stop-start g c =
    let st = c.args in
    sym (slice_none st.start st.stop st.cells.now (search rules))

pub returns-then-stop-cells : goal.returns-then-stop-cells
returns-then-stop-cells g c =
    let st = c.args in
    slice_of st.start st.stop st.cells.now

pub returns-then-start-cells : goal.returns-then-start-cells
returns-then-start-cells g c =
    let st = c.args in
    slice_rest st.start st.stop st.cells.now (search rules)

pub returns : goal.returns
returns g c =
    let st = c.args in
    sym (slice_past st.start st.stop st.cells.now (search rules))
