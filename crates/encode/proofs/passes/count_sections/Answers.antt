use Prim.Native.Nat.{ℕ, ◌-◌, min}
use native.Mathlib.Omega.{arith}
use mathlib.Core.Path.{◌≡◌, refl, ap₂, ◌∙◌}
use mathlib.Core.List.{List, ◌∷◌}
use lib.ListN.{length}
use Rattle.normalise.specs.Normalise.{outgrows}
use Rattle.sections.specs.Sections.{plain, Section}
use Rattle.sections.proofs.SectionLaws.{sections_left, sections-start}
use Rattle.encode.specs.inner.Passes.{counted, symbols_in, section_stretches, section_outputs}
use Rattle.encode.proofs.CheckedLaws.{first_list}
use Rattle.encode.proofs.ItemLaws.{counting_start, counting_token, counting_ended, counting_long, counting_next, counting_fits}
use Rattle.encode.proofs.WalkLaws.{section_here, token_here, none_here, plain_fewer, token_fewer}
use Rattle.encode.proofs.SteppedLaws.{text_found}
use Rattle.encode.proofs.passes.count_sections.Given.{Over}
use Rattle.encode.proofs.passes.count_sections.Goals as goal
use Rattle.encode.proofs.passes.count_sections.Goals.{After-count}

pub loop-next-init : goal.loop-next-init
loop-next-init g c = (
  rw c.sections_start-cursor.ensures (rw (sections-start (first_list c.args.model.now) c.args.text.now) (counting_start _ _ _ _ _ _ _)),
  refl,
  refl,
)

pub returns-in-Finished : goal.returns-in-Finished
returns-in-Finished g c =
    counting_ended c.loop-next.invariant.0 (none_here c.args.model.now c.args.text.now c.loop-next.cursor c.next_section.ensures c.in-Finished.is)

pub loop-next-smaller-in-Added : goal.loop-next-smaller-in-Added
loop-next-smaller-in-Added g c = token_fewer _ _ _ _ _ c.next_section.ensures c.in-Added.is

pub loop-next-preserved-in-Added : goal.loop-next-preserved-in-Added
loop-next-preserved-in-Added g c = (
  counting_token c.loop-next.invariant.0 _ _ (token_here c.args.model.now c.args.text.now c.loop-next.cursor c.next_section.ensures c.in-Added.is) (omega (arith, c.loop-next.invariant.0.tally.within)),
  c.loop-next.invariant.1,
  c.loop-next.invariant.2,
)

pub overflow_sub-cells : goal.overflow_sub-cells
overflow_sub-cells g c = c.loop-next.invariant.0.tally.within

-- The section that is counted, what follows it, and what is found of it.
module _ (g : Over) (p : After-count g) where
  abbrev outputs_of : Section → List (List ℕ)
  outputs_of = section_outputs (g.P.Path.outputs p.args.path.now) p.args.text.now

  abbrev section_at : Section
  section_at = record { start = p.in-Plain.start; stop = p.in-Plain.stop; opening = p.in-Plain.opening }

  next_at : sections_left (first_list p.args.model.now) p.args.text.now p.loop-next.cursor ≡ plain section_at ∷ sections_left (first_list p.args.model.now) p.args.text.now p.in-Plain.next
  next_at = section_here p.args.model.now p.args.text.now p.loop-next.cursor p.next_section.ensures p.in-Plain.is

  found_at : p.count.result
      ≡ counted (outgrows (section_outputs (g.P.Path.outputs p.args.path.now) p.args.text.now section_at) (min (length p.args.a.now) (length p.args.b.now))) (symbols_in (g.P.Path.tables p.args.path.now) (section_stretches (g.P.Path.stretches p.args.path.now) p.args.text.now section_at) (p.args.cells - p.loop-next.count))
  found_at =
      text_found (g.P.Path.outputs p.args.path.now) (g.P.Path.stretches p.args.path.now) p.args.text.now p.in-Plain.start p.in-Plain.stop p.in-Plain.opening _ p.part-section.ensures (ap₂ min p.loop-next.invariant.1 p.loop-next.invariant.2) _ _ _ p.count.ensures

pub returns-in_err-given-in-Plain : goal.returns-in_err-given-in-Plain
returns-in_err-given-in-Plain g c =
    let p = (goal.at.returns-in_err-given-in-Plain g c).After-count in
    c.from_residual.ensures ∙ counting_long {outputs = outputs_of g p} p.loop-next.invariant.0 (section_at g p) _ (next_at g p) (found_at g p) c.in_err-given-in-Plain.was

pub overflow_add-count : goal.overflow_add-count
overflow_add-count g c =
    let p = (goal.at.overflow_add-count g c).After-count in
    omega (arith, counting_fits {outputs = outputs_of g p} p.loop-next.invariant.0 (section_at g p) _ (next_at g p) (found_at g p) c.in_ok-given-in-Plain.was, p.ranges.cells)

pub loop-next-smaller : goal.loop-next-smaller
loop-next-smaller g c = plain_fewer _ _ _ _ _ c.next_section.ensures c.in-Plain.is

pub loop-next-preserved : goal.loop-next-preserved
loop-next-preserved g c =
    let p = (goal.at.loop-next-preserved g c).After-count in (
      counting_next {outputs = outputs_of g p} p.loop-next.invariant.0 (section_at g p) _ (next_at g p) (found_at g p) c.in_ok-given-in-Plain.was c.saturating_add-drops.ensures,
      omega (arith, p.loop-next.invariant.1),
      omega (arith, p.loop-next.invariant.2),
    )
