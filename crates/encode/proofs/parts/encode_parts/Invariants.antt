-- `encode::parts::encode_parts` meets its contract. The loop's invariant: the parts before the cursor are written, those from there on follow, and
-- none of them is too long.
use mathlib.Core.Path.{◌≡◌}
use mathlib.Core.List.{map}
use lib.ListN.{length}
use Rattle.sections.specs.Sections.{taken_apart}
use Rattle.sections.specs.SecondList.{normal_parts}
use Rattle.sections.proofs.StepLaws.{steps_left}
use Rattle.sections.proofs.PartLaws.{parts_left}
use Rattle.stretches.specs.inner.Tables.{tables_in}
use Rattle.stretches.specs.inner.Parts.{part_writer}
use Rattle.stretches.proofs.WriterLaws.{Going}
use Rattle.encode.specs.inner.Passes.{part_stretch, part_outputs}
use Rattle.encode.proofs.CheckedLaws.{second_list}
use Rattle.encode.proofs.ItemLaws.{Short}
use Rattle.encode.proofs.parts.encode_parts.Given as goal

abbrev pub invariant-loop-id : goal.invariant-loop-id
invariant-loop-id l =
    let p = l.model.prepared.now in
    let t = second_list l.model in
    let f = taken_apart (part_stretch p.model.now.metaspace) in
    let w = part_writer (tables_in p) in
    Going (map w (f (normal_parts t l.opening l.text))) (map w (f (parts_left t l.text l.cursor))) l.initial.out l.out l.written
    × Short (part_outputs p.model.now.metaspace) l.room (parts_left t l.text l.cursor)
    × (length l.scratch ≡ length l.initial.scratch)

abbrev pub decreases-loop-id : goal.decreases-loop-id
decreases-loop-id l = steps_left l.cursor
