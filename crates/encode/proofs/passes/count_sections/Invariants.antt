-- `encode::passes::count_sections` meets its contract. The loop's invariant: what is counted and the sections from the cursor on make up the whole,
-- and nothing was too long before the cursor.
use Prim.Native.Nat.{min}
use mathlib.Core.Path.{◌≡◌}
use lib.ListN.{length}
use Rattle.sections.specs.Sections.{sections}
use Rattle.sections.proofs.StepLaws.{steps_left}
use Rattle.sections.proofs.SectionLaws.{sections_left}
use Rattle.stretches.specs.inner.Tables.{own_in}
use Rattle.encode.specs.inner.Passes.{section_stretches, section_outputs}
use Rattle.encode.proofs.CheckedLaws.{first_list}
use Rattle.encode.proofs.ItemLaws.{Counting}
use Rattle.encode.proofs.passes.count_sections.Given as goal

abbrev pub invariant-loop-next : goal.invariant-loop-next
invariant-loop-next g l =
    let t = g.P.Path.tables l.path in
    Counting (section_outputs (g.P.Path.outputs l.path) l.text) (section_stretches (g.P.Path.stretches l.path) l.text) (own_in t) t.fallback (sections (first_list l.model) l.text) (sections_left (first_list l.model) l.text l.cursor) (min (length l.initial.a) (length l.initial.b)) l.cells l.count l.drops
    × (length l.a ≡ length l.initial.a)
    × (length l.b ≡ length l.initial.b)

abbrev pub decreases-loop-next : goal.decreases-loop-next
decreases-loop-next g l = steps_left l.cursor
