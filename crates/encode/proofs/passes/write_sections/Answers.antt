use Prim.Native.Nat.{◌-◌, min, ◌*◌, ◌<◌}
use native.Mathlib.Omega.{arith}
use mathlib.Core.Path.{◌≡◌, refl, ap, ap₂}
use mathlib.Core.List.{List, ◌∷◌, map}
use lib.ListN.{length, take, drop}
use Rattle.merge.specs.inner.Turns.{Merged}
use Rattle.sections.specs.Sections.{Item, plain, taken_apart, Section}
use Rattle.sections.proofs.SectionLaws.{sections_left, sections-start}
use Rattle.stretches.specs.Stretches.{Stretch}
use Rattle.stretches.specs.inner.Tables.{Tables}
use Rattle.stretches.specs.inner.Parts.{part_writer, parts_writer}
use Rattle.stretches.proofs.WriterLaws.{going_start}
use Rattle.encode.specs.inner.Passes.{section_stretches, text_stretches}
use Rattle.encode.proofs.CheckedLaws.{first_list}
use Rattle.encode.proofs.PassLaws.{parts_on, parts-fit, token_on, token-fit, parts-ended}
use Rattle.encode.proofs.ItemLaws.{short_head, short_rest}
use Rattle.encode.proofs.WalkLaws.{section_here, token_here, none_here, plain_fewer, token_fewer}
use Rattle.encode.proofs.SteppedLaws.{text_short, text_put}
use Rattle.encode.proofs.passes.write_sections.Given.{Over}
use Rattle.encode.proofs.passes.write_sections.Goals as goal
use Rattle.encode.proofs.passes.write_sections.Goals.{After-write-more, After-part-section, At-loop-id, Start}

module _ (g : Over) where
  -- What is lent, what a section gives, and what all this comes to.
  abbrev tables_of : Start g → Tables
  tables_of s = g.P.Path.tables s.args.path.now

  abbrev parts_of : Start g → Section → List (Item Stretch)
  parts_of s = section_stretches (g.P.Path.stretches s.args.path.now) s.args.text.now

  abbrev whole_of : Start g → List (Item Stretch)
  whole_of s = text_stretches (g.P.Path.stretches s.args.path.now) (first_list s.args.model.now) s.args.text.now

  abbrev left_at : At-loop-id g → List (Item Stretch)
  left_at a = let s = (goal.at.At-loop-id g a).Start in taken_apart (parts_of s) (sections_left (first_list s.args.model.now) s.args.text.now a.loop-id.cursor)

  -- The result is no longer than any slice of words.
  out_fits : (s : Start g) → (length s.args.out.now < 18446744073709551616) × (length s.args.out.now * 4 < 9223372036854775808)
  out_fits s = s.well_formed.1.1.1.1.1.0

pub loop-id-init : goal.loop-id-init
loop-id-init g c =
    let s = (goal.at.loop-id-init g c).Start in
    let all = sections-start (first_list s.args.model.now) s.args.text.now in (
      rw c.sections_start-cursor.ensures (rw all (going_start (map (part_writer (tables_of g s)) (whole_of g s)) s.args.out.now)),
      rw c.sections_start-cursor.ensures (rw all (record { short = s.requires })),
      refl,
      refl,
    )

pub shape_of-out-in-Finished : goal.shape_of-out-in-Finished
shape_of-out-in-Finished g c = c.loop-id.invariant.0.long

pub returns-in-Finished : goal.returns-in-Finished
returns-in-Finished g c =
    let a = (goal.at.returns-in-Finished g c).At-loop-id in
    let s = (goal.at.returns-in-Finished g c).Start in
    parts-ended (tables_of g s) (whole_of g s) (left_at g a) a.loop-id.invariant.0 (ap (taken_apart (parts_of g s)) (none_here s.args.model.now s.args.text.now a.loop-id.cursor c.next_section.ensures c.in-Finished.is))

pub offset_bounds-out-written : goal.offset_bounds-out-written
offset_bounds-out-written g c =
    omega (arith, (out_fits g (goal.at.offset_bounds-out-written g c).Start).1, c.loop-id.invariant.0.within, c.loop-id.invariant.0.long)

pub slice_bounds-put_id-count : goal.slice_bounds-put_id-count
slice_bounds-put_id-count g c = c.loop-id.invariant.0.within

pub slice_bounds-put_id-start : goal.slice_bounds-put_id-start
slice_bounds-put_id-start g c = c.loop-id.invariant.0.within

pub overflow_add-written : goal.overflow_add-written
overflow_add-written g c =
    let a = (goal.at.overflow_add-written g c).At-loop-id in
    let s = (goal.at.overflow_add-written g c).Start in
    omega (arith, (out_fits g s).0, token-fit (tables_of g s) (whole_of g s) (left_at g a) a.loop-id.invariant.0 c.in-Added.id c.put_id-more.ensures)

pub loop-id-smaller-in-Added : goal.loop-id-smaller-in-Added
loop-id-smaller-in-Added g c = token_fewer _ _ _ _ _ c.next_section.ensures c.in-Added.is

pub loop-id-preserved-in-Added : goal.loop-id-preserved-in-Added
loop-id-preserved-in-Added g c =
    let a = (goal.at.loop-id-preserved-in-Added g c).At-loop-id in
    let s = (goal.at.loop-id-preserved-in-Added g c).Start in
    let next = token_here s.args.model.now s.args.text.now a.loop-id.cursor c.next_section.ensures c.in-Added.is in (
      token_on (tables_of g s) (whole_of g s) (left_at g a) a.loop-id.invariant.0 c.in-Added.id _ (ap (taken_apart (parts_of g s)) next) c.put_id-more.ensures,
      short_rest a.loop-id.invariant.1 _ _ next,
      a.loop-id.invariant.2,
      a.loop-id.invariant.3,
    )

-- The section that is written, and what follows it.
module _ (g : Over) (p : After-part-section g) where
  abbrev section_at : Section
  section_at = record { start = p.in-Plain.start; stop = p.in-Plain.stop; opening = p.in-Plain.opening }

  next_at : sections_left (first_list p.args.model.now) p.args.text.now p.loop-id.cursor ≡ plain section_at ∷ sections_left (first_list p.args.model.now) p.args.text.now p.in-Plain.next
  next_at = section_here p.args.model.now p.args.text.now p.loop-id.cursor p.next_section.ensures p.in-Plain.is

pub offset_bounds-out-written-in-Plain : goal.offset_bounds-out-written-in-Plain
offset_bounds-out-written-in-Plain g c =
    omega (arith, (out_fits g (goal.at.offset_bounds-out-written-in-Plain g c).Start).1, c.loop-id.invariant.0.within, c.loop-id.invariant.0.long)

pub slice_bounds-write-count : goal.slice_bounds-write-count
slice_bounds-write-count g c = c.loop-id.invariant.0.within

pub slice_bounds-write-start : goal.slice_bounds-write-start
slice_bounds-write-start g c = c.loop-id.invariant.0.within

pub write-more-requires : goal.write-more-requires
write-more-requires g c =
    let p = (goal.at.write-more-requires g c).After-part-section in
    text_short (g.P.Path.outputs p.args.path.now) (g.P.Path.stretches p.args.path.now) p.args.text.now p.in-Plain.start p.in-Plain.stop p.in-Plain.opening _ p.part-section.ensures (ap₂ min p.loop-id.invariant.2 p.loop-id.invariant.3) (short_head p.loop-id.invariant.1 (section_at g p) _ (next_at g p))

-- What the call on a section wrote.
put_at : (g : Over) (e : After-write-more g)
    → let p = (goal.at.After-write-more g e).After-part-section in
    let s = (goal.at.After-write-more g e).Start in
    ◌≡◌ {A = Merged} (record { count = e.write-more.result; ids = e.write-more.new.out }) (parts_writer (tables_of g s) (parts_of g s (section_at g p)) (take (length p.loop-id.out - p.loop-id.written) (drop p.loop-id.written p.loop-id.out)))
put_at g e =
    let s = (goal.at.After-write-more g e).Start in
    text_put (g.P.Path.outputs s.args.path.now) (g.P.Path.stretches s.args.path.now) s.args.text.now e.in-Plain.start e.in-Plain.stop e.in-Plain.opening 0 (tables_of g s) (take (length e.loop-id.out - e.loop-id.written) (drop e.loop-id.written e.loop-id.out)) e.part-section.ensures e.write-more.ensures

pub overflow_add-written-in-Plain : goal.overflow_add-written-in-Plain
overflow_add-written-in-Plain g c =
    let e = (goal.at.overflow_add-written-in-Plain g c).After-write-more in
    let p = (goal.at.overflow_add-written-in-Plain g c).After-part-section in
    let a = (goal.at.overflow_add-written-in-Plain g c).At-loop-id in
    let s = (goal.at.overflow_add-written-in-Plain g c).Start in
    omega (arith, (out_fits g s).0, parts-fit (tables_of g s) (whole_of g s) (left_at g a) a.loop-id.invariant.0 (parts_of g s (section_at g p)) (put_at g e))

pub loop-id-smaller : goal.loop-id-smaller
loop-id-smaller g c = plain_fewer _ _ _ _ _ c.next_section.ensures c.in-Plain.is

pub loop-id-preserved : goal.loop-id-preserved
loop-id-preserved g c =
    let e = (goal.at.loop-id-preserved g c).After-write-more in
    let p = (goal.at.loop-id-preserved g c).After-part-section in
    let a = (goal.at.loop-id-preserved g c).At-loop-id in
    let s = (goal.at.loop-id-preserved g c).Start in (
      parts_on (tables_of g s) (whole_of g s) (left_at g a) a.loop-id.invariant.0 (parts_of g s (section_at g p)) _ (ap (taken_apart (parts_of g s)) (next_at g p)) (put_at g e),
      short_rest a.loop-id.invariant.1 _ _ (next_at g p),
      omega (arith, a.loop-id.invariant.2),
      omega (arith, a.loop-id.invariant.3),
    )
