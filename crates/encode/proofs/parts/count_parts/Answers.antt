use Prim.Native.Nat.{◌-◌}
use native.Mathlib.Omega.{arith}
use mathlib.Core.Path.{◌≡◌, refl, ◌∙◌}
use mathlib.Core.List.{◌∷◌}
use lib.Seq.{slice}
use Rattle.std.specs.Prelude.{Option}
use Rattle.model.specs.declared.Metaspace.{Metaspace}
use Rattle.normalise.specs.Normalise.{outgrows}
use Rattle.sections.specs.Sections.{plain}
use Rattle.sections.specs.SecondList.{NormalPart}
use Rattle.sections.proofs.PartLaws.{parts_left, parts-start}
use Rattle.stretches.specs.inner.Tables.{tables_in}
use Rattle.encode.specs.inner.Passes.{counted, symbols_in, part_stretch, part_outputs}
use Rattle.encode.proofs.CheckedLaws.{second_list}
use Rattle.encode.proofs.ItemLaws.{counting_start, counting_token, counting_ended, counting_long, counting_next, counting_fits}
use Rattle.encode.proofs.WalkLaws.{plain_fewer, token_fewer}
use Rattle.encode.proofs.PartLaws.{part-next, added_next, none-next, part_found}
use Rattle.encode.proofs.parts.count_parts.Goals as goal
use Rattle.encode.proofs.parts.count_parts.Goals.{After-count_part, Start}

abbrev metaspace_of : Start → Option Metaspace
metaspace_of s = s.args.model.now.prepared.now.model.now.metaspace

pub loop-next-init : goal.loop-next-init
loop-next-init c =
    let s = (goal.at.loop-next-init c).Start in (
      rw c.parts_start-cursor.ensures (rw (parts-start (second_list s.args.model.now) s.args.opening s.args.text.now) (counting_start _ _ _ _ _ _ _)),
      refl,
    )

pub returns-in-Finished : goal.returns-in-Finished
returns-in-Finished c =
    let s = (goal.at.returns-in-Finished c).Start in
    counting_ended c.loop-next.invariant.0 (none-next s.args.model.now s.args.text.now c.loop-next.cursor c.next_part.ensures c.in-Finished.is)

pub loop-next-smaller-in-Added : goal.loop-next-smaller-in-Added
loop-next-smaller-in-Added c = token_fewer _ _ _ _ _ c.next_part.ensures c.in-Added.is

pub loop-next-preserved-in-Added : goal.loop-next-preserved-in-Added
loop-next-preserved-in-Added c =
    let s = (goal.at.loop-next-preserved-in-Added c).Start in (
      counting_token c.loop-next.invariant.0 _ _ (added_next s.args.model.now s.args.text.now c.loop-next.cursor c.next_part.ensures c.in-Added.is) (omega (arith, c.loop-next.invariant.0.tally.within)),
      c.loop-next.invariant.1,
    )

pub overflow_sub-cells : goal.overflow_sub-cells
overflow_sub-cells c = c.loop-next.invariant.0.tally.within

pub count_part-requires : goal.count_part-requires
count_part-requires c = omega (arith, c.requires, c.loop-next.invariant.1)

-- The part that is counted, what follows it, and what is found of it.
abbrev part_at : After-count_part → NormalPart
part_at p =
    record { bytes = slice p.in-Plain.start p.in-Plain.stop p.args.text.now; first = p.in-Plain.first }

next_at : (p : After-count_part)
    → parts_left (second_list p.args.model.now) p.args.text.now p.loop-next.cursor ≡ plain (part_at p) ∷ parts_left (second_list p.args.model.now) p.args.text.now p.in-Plain.next
next_at p = part-next p.args.model.now p.args.text.now p.loop-next.cursor p.next_part.ensures p.in-Plain.is

found_at : (p : After-count_part)
    → p.count_part.result
    ≡ counted (outgrows (part_outputs (metaspace_of (goal.at.After-count_part p).Start) (part_at p)) p.args.room) (symbols_in (tables_in p.args.model.now.prepared.now) (part_stretch (metaspace_of (goal.at.After-count_part p).Start) (part_at p)) (p.args.cells - p.loop-next.count))
found_at p =
    part_found _ _ _ p.args.text.now p.in-Plain.start p.in-Plain.stop p.in-Plain.first _ _ p.part.ensures p.count_part.ensures

pub returns-in_err-given-in-Plain : goal.returns-in_err-given-in-Plain
returns-in_err-given-in-Plain c =
    let p = (goal.at.returns-in_err-given-in-Plain c).After-count_part in
    c.from_residual.ensures ∙ counting_long p.loop-next.invariant.0 (part_at p) _ (next_at p) (found_at p) c.in_err-given-in-Plain.was

pub overflow_add-count : goal.overflow_add-count
overflow_add-count c =
    let p = (goal.at.overflow_add-count c).After-count_part in
    omega (arith, counting_fits p.loop-next.invariant.0 (part_at p) _ (next_at p) (found_at p) c.in_ok-given-in-Plain.was, p.ranges.cells)

pub loop-next-smaller : goal.loop-next-smaller
loop-next-smaller c = plain_fewer _ _ _ _ _ c.next_part.ensures c.in-Plain.is

pub loop-next-preserved : goal.loop-next-preserved
loop-next-preserved c =
    let p = (goal.at.loop-next-preserved c).After-count_part in (
      counting_next p.loop-next.invariant.0 (part_at p) _ (next_at p) (found_at p) c.in_ok-given-in-Plain.was c.saturating_add-drops.ensures,
      omega (arith, p.loop-next.invariant.1),
    )
