-- `units::cut::cuts` meets its contract: punctuation is no mark, and what is no punctuation can only be one.
use mathlib.Core.Path.{sym, ◌∙◌}
use native.Mathlib.Omega.{arith}
use Rattle.units.specs.inner.Read.{pair_noted, crossings_in}
use Rattle.units.proofs.StartLaws.{cut-punctuation, cut-mark}
use Rattle.units.proofs.Cutter.cuts.Goals as goal

pub returns-then-is_punctuation : goal.returns-then-is_punctuation
returns-then-is_punctuation c =
    let st = c.args in
    let noted = crossings_in st.self.now in
    c.punctuation_cuts.ensures ∙ cut-punctuation st.self.now.kind noted (pair_noted st.self.now.adjacency.now) st.raw st.section.now st.p (omega arith) (omega arith) (sym c.if-is_punctuation.ensures)

pub returns : goal.returns
returns c =
    let st = c.args in
    let noted = crossings_in st.self.now in
    c.mark_cuts.ensures ∙ cut-mark st.self.now.kind noted (pair_noted st.self.now.adjacency.now) st.raw st.section.now st.p (omega arith) (sym c.if-is_punctuation.ensures)
