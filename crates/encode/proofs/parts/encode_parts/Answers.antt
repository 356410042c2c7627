use Prim.Native.Nat.{◌-◌, ◌*◌, ◌<◌}
use native.Mathlib.Omega.{arith}
use mathlib.Core.Path.{◌≡◌, refl, ap}
use mathlib.Core.List.{List, ◌∷◌}
use lib.ListN.{length, take, drop}
use lib.Seq.{slice}
use Rattle.std.specs.Prelude.{Option}
use Rattle.model.specs.declared.Metaspace.{Metaspace}
use Rattle.merge.specs.inner.Turns.{Merged}
use Rattle.sections.specs.Sections.{Item, plain, taken_apart}
use Rattle.sections.specs.SecondList.{NormalPart, normal_parts}
use Rattle.sections.proofs.PartLaws.{parts_left, parts-start}
use Rattle.stretches.specs.Stretches.{Stretch}
use Rattle.stretches.specs.inner.Tables.{Tables, tables_in}
use Rattle.stretches.specs.inner.Parts.{parts_writer}
use Rattle.stretches.proofs.WriterLaws.{going_start}
use Rattle.encode.specs.inner.Passes.{part_stretch}
use Rattle.encode.proofs.CheckedLaws.{second_list}
use Rattle.encode.proofs.PassLaws.{parts_on, parts-fit, token_on, token-fit, parts-ended}
use Rattle.encode.proofs.ItemLaws.{short_head, short_rest}
use Rattle.encode.proofs.WalkLaws.{plain_fewer, token_fewer}
use Rattle.encode.proofs.PartLaws.{part-next, added_next, none-next, part-put}
use Rattle.encode.proofs.parts.encode_parts.Goals as goal
use Rattle.encode.proofs.parts.encode_parts.Goals.{After-encode_part-more, After-part, At-loop-id, Start}

-- What is lent, and the parts that it comes to.
abbrev tables_of : Start → Tables
tables_of s = tables_in s.args.model.now.prepared.now

abbrev metaspace_of : Start → Option Metaspace
metaspace_of s = s.args.model.now.prepared.now.model.now.metaspace

abbrev whole_of : Start → List (Item Stretch)
whole_of s = taken_apart (part_stretch (metaspace_of s)) (normal_parts (second_list s.args.model.now) s.args.opening s.args.text.now)

abbrev left_at : At-loop-id → List (Item Stretch)
left_at a = let s = (goal.at.At-loop-id a).Start in taken_apart (part_stretch (metaspace_of s)) (parts_left (second_list s.args.model.now) s.args.text.now a.loop-id.cursor)

-- The result is no longer than any slice of words.
out_fits : (s : Start) → (length s.args.out.now < 18446744073709551616) × (length s.args.out.now * 4 < 9223372036854775808)
out_fits s = s.well_formed.1.1.1.1.1.0

pub loop-id-init : goal.loop-id-init
loop-id-init c =
    let s = (goal.at.loop-id-init c).Start in
    let all = parts-start (second_list s.args.model.now) s.args.opening s.args.text.now in (
      rw c.parts_start-cursor.ensures (rw all (going_start _ s.args.out.now)),
      rw c.parts_start-cursor.ensures (rw all (record { short = s.requires.outputs_fit })),
      refl,
    )

pub shape_of-out-in-Finished : goal.shape_of-out-in-Finished
shape_of-out-in-Finished c = c.loop-id.invariant.0.long

pub returns-in-Finished : goal.returns-in-Finished
returns-in-Finished c =
    let a = (goal.at.returns-in-Finished c).At-loop-id in
    let s = (goal.at.returns-in-Finished c).Start in
    parts-ended (tables_of s) (whole_of s) (left_at a) a.loop-id.invariant.0 (ap (taken_apart (part_stretch (metaspace_of s))) (none-next s.args.model.now s.args.text.now a.loop-id.cursor c.next_part.ensures c.in-Finished.is))

pub offset_bounds-out-written : goal.offset_bounds-out-written
offset_bounds-out-written c =
    omega (arith, (out_fits (goal.at.offset_bounds-out-written c).Start).1, c.loop-id.invariant.0.within, c.loop-id.invariant.0.long)

pub slice_bounds-put_id-count : goal.slice_bounds-put_id-count
slice_bounds-put_id-count c = c.loop-id.invariant.0.within

pub slice_bounds-put_id-start : goal.slice_bounds-put_id-start
slice_bounds-put_id-start c = c.loop-id.invariant.0.within

pub overflow_add-written : goal.overflow_add-written
overflow_add-written c =
    let a = (goal.at.overflow_add-written c).At-loop-id in
    let s = (goal.at.overflow_add-written c).Start in
    omega (arith, (out_fits s).0, token-fit (tables_of s) (whole_of s) (left_at a) a.loop-id.invariant.0 c.in-Added.id c.put_id-more.ensures)

pub loop-id-smaller-in-Added : goal.loop-id-smaller-in-Added
loop-id-smaller-in-Added c = token_fewer _ _ _ _ _ c.next_part.ensures c.in-Added.is

pub loop-id-preserved-in-Added : goal.loop-id-preserved-in-Added
loop-id-preserved-in-Added c =
    let a = (goal.at.loop-id-preserved-in-Added c).At-loop-id in
    let s = (goal.at.loop-id-preserved-in-Added c).Start in
    let next = added_next s.args.model.now s.args.text.now a.loop-id.cursor c.next_part.ensures c.in-Added.is in (
      token_on (tables_of s) (whole_of s) (left_at a) a.loop-id.invariant.0 c.in-Added.id _ (ap (taken_apart (part_stretch (metaspace_of s))) next) c.put_id-more.ensures,
      short_rest a.loop-id.invariant.1 _ _ next,
      a.loop-id.invariant.2,
    )

-- The part that is written, and what follows it.
abbrev part_at : After-part → NormalPart
part_at p =
    record { bytes = slice p.in-Plain.start p.in-Plain.stop p.args.text.now; first = p.in-Plain.first }

next_at : (p : After-part)
    → parts_left (second_list p.args.model.now) p.args.text.now p.loop-id.cursor ≡ plain (part_at p) ∷ parts_left (second_list p.args.model.now) p.args.text.now p.in-Plain.next
next_at p = part-next p.args.model.now p.args.text.now p.loop-id.cursor p.next_part.ensures p.in-Plain.is

pub offset_bounds-out-written-in-Plain : goal.offset_bounds-out-written-in-Plain
offset_bounds-out-written-in-Plain c =
    omega (arith, (out_fits (goal.at.offset_bounds-out-written-in-Plain c).Start).1, c.loop-id.invariant.0.within, c.loop-id.invariant.0.long)

pub slice_bounds-encode_part-count : goal.slice_bounds-encode_part-count
slice_bounds-encode_part-count c = c.loop-id.invariant.0.within

pub slice_bounds-encode_part-start : goal.slice_bounds-encode_part-start
slice_bounds-encode_part-start c = c.loop-id.invariant.0.within

pub encode_part-more-requires : goal.encode_part-more-requires
encode_part-more-requires c =
    omega (arith, c.requires.room_in_bounds, c.loop-id.invariant.2)

-- What the call on a part wrote.
put_at : (e : After-encode_part-more)
    → let p = (goal.at.After-encode_part-more e).After-part in
    ◌≡◌ {A = Merged} (record { count = e.encode_part-more.result; ids = e.encode_part-more.new.out }) (parts_writer (tables_of (goal.at.After-encode_part-more e).Start) (part_stretch (metaspace_of (goal.at.After-encode_part-more e).Start) (part_at p)) (take (length p.loop-id.out - p.loop-id.written) (drop p.loop-id.written p.loop-id.out)))
put_at e =
    let p = (goal.at.After-encode_part-more e).After-part in
    let s = (goal.at.After-encode_part-more e).Start in
    part-put (tables_of s) (metaspace_of s) s.args.text.now p.in-Plain.start p.in-Plain.stop p.in-Plain.first s.args.room (take (length p.loop-id.out - p.loop-id.written) (drop p.loop-id.written p.loop-id.out)) p.part.ensures (short_head p.loop-id.invariant.1 (part_at p) _ (next_at p)) e.encode_part-more.ensures

pub overflow_add-written-in-Plain : goal.overflow_add-written-in-Plain
overflow_add-written-in-Plain c =
    let e = (goal.at.overflow_add-written-in-Plain c).After-encode_part-more in
    let p = (goal.at.overflow_add-written-in-Plain c).After-part in
    let a = (goal.at.overflow_add-written-in-Plain c).At-loop-id in
    let s = (goal.at.overflow_add-written-in-Plain c).Start in
    omega (arith, (out_fits s).0, parts-fit (tables_of s) (whole_of s) (left_at a) a.loop-id.invariant.0 (part_stretch (metaspace_of s) (part_at p)) (put_at e))

pub loop-id-smaller : goal.loop-id-smaller
loop-id-smaller c = plain_fewer _ _ _ _ _ c.next_part.ensures c.in-Plain.is

pub loop-id-preserved : goal.loop-id-preserved
loop-id-preserved c =
    let e = (goal.at.loop-id-preserved c).After-encode_part-more in
    let p = (goal.at.loop-id-preserved c).After-part in
    let a = (goal.at.loop-id-preserved c).At-loop-id in
    let s = (goal.at.loop-id-preserved c).Start in (
      parts_on (tables_of s) (whole_of s) (left_at a) a.loop-id.invariant.0 (part_stretch (metaspace_of s) (part_at p)) _ (ap (taken_apart (part_stretch (metaspace_of s))) (next_at p)) (put_at e),
      short_rest a.loop-id.invariant.1 _ _ (next_at p),
      omega (arith, a.loop-id.invariant.2),
    )
