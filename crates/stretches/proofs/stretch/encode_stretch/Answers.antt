-- `stretches::stretch::encode_stretch` meets its contract.
use Prim.Native.Nat.{ℕ}
use mathlib.Core.Path.{ap, ◌∙◌}
use mathlib.Core.Bool.{Bool}
use mathlib.Core.List.{List}
use lib.ListN.{length}
use Rattle.merge.specs.inner.Turns.{Merged}
use Rattle.stretches.specs.inner.Writers.{Writer}
use Rattle.stretches.proofs.PartLaws.{nothing_written, section_written, keeps_parts}
use Rattle.stretches.proofs.stretch.encode_stretch.Goals as goal

pub returns-then-section-eq0 : goal.returns-then-section-eq0
returns-then-section-eq0 c = nothing_written _ _ _ _ _ c.if-section-eq0.true

pub returns : goal.returns
returns c =
    let a = c.args in
    c.encode_units.ensures
    ∙ ap (λ (write : Bool → Bool → List ℕ → Writer). write a.virtual_mark a.raw a.section.now a.out.now) c.new.ensures
    ∙ section_written _ _ _ _ _ c.if-section-eq0.false

pub shape_of-out : goal.shape_of-out
shape_of-out c = ap (λ (d : Merged). length d.ids) (returns c) ∙ (keeps_parts _ _).long _
