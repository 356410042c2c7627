-- `encode::parts::count_parts` meets its contract. The loop's invariant: what is counted and the parts from the cursor on make up the whole, and
-- nothing was too long before the cursor.
use mathlib.Core.Path.{◌≡◌}
use lib.ListN.{length}
use Rattle.sections.specs.SecondList.{normal_parts}
use Rattle.sections.proofs.StepLaws.{steps_left}
use Rattle.sections.proofs.PartLaws.{parts_left}
use Rattle.stretches.specs.inner.Tables.{tables_in, own_in}
use Rattle.encode.specs.inner.Passes.{part_stretch, part_outputs}
use Rattle.encode.proofs.CheckedLaws.{second_list}
use Rattle.encode.proofs.ItemLaws.{Counting}
use Rattle.encode.proofs.parts.count_parts.Given as goal

abbrev pub invariant-loop-next : goal.invariant-loop-next
invariant-loop-next l =
    let p = l.model.prepared.now in
    let metaspace = p.model.now.metaspace in
    Counting (part_outputs metaspace) (part_stretch metaspace) (own_in (tables_in p)) p.model.now.fallback.now (normal_parts (second_list l.model) l.opening l.text) (parts_left (second_list l.model) l.text l.cursor) l.room l.cells l.count l.drops
    × (length l.scratch ≡ length l.initial.scratch)

abbrev pub decreases-loop-next : goal.decreases-loop-next
decreases-loop-next l = steps_left l.cursor
