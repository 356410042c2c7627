-- `encode::passes::write_sections` meets its contract. The loop's invariant: the sections before the cursor are written, those from there on follow,
-- and none of them is too long.
use Prim.Native.Nat.{min}
use mathlib.Core.Path.{◌≡◌}
use mathlib.Core.List.{map}
use lib.ListN.{length}
use Rattle.sections.specs.Sections.{taken_apart, sections}
use Rattle.sections.proofs.StepLaws.{steps_left}
use Rattle.sections.proofs.SectionLaws.{sections_left}
use Rattle.stretches.specs.inner.Parts.{part_writer}
use Rattle.stretches.proofs.WriterLaws.{Going}
use Rattle.encode.specs.inner.Passes.{section_stretches, section_outputs}
use Rattle.encode.proofs.CheckedLaws.{first_list}
use Rattle.encode.proofs.ItemLaws.{Short}
use Rattle.encode.proofs.passes.write_sections.Given as goal

abbrev pub invariant-loop-id : goal.invariant-loop-id
invariant-loop-id g l =
    let t = first_list l.model in
    let f = taken_apart (section_stretches (g.P.Path.stretches l.path) l.text) in
    let w = part_writer (g.P.Path.tables l.path) in
    Going (map w (f (sections t l.text))) (map w (f (sections_left t l.text l.cursor))) l.initial.out l.out l.written
    × Short (section_outputs (g.P.Path.outputs l.path) l.text) (min (length l.initial.a) (length l.initial.b)) (sections_left t l.text l.cursor)
    × (length l.a ≡ length l.initial.a)
    × (length l.b ≡ length l.initial.b)

abbrev pub decreases-loop-id : goal.decreases-loop-id
decreases-loop-id g l = steps_left l.cursor
