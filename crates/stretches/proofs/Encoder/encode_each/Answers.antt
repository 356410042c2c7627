use Rattle.std.specs.Prelude.{Option}
use Prim.Native.Nat.{ℕ, ◌-◌, ◌*◌, ◌<◌}
use mathlib.Core.Bool.{Bool, false}
use mathlib.Core.List.{List, []}
use native.Mathlib.Omega.{arith}
use lib.ListN.{length, take, drop}
use Rattle.model.specs.Model.{Row}
use Rattle.merge.specs.Start.{with_virtual_mark}
use Rattle.merge.specs.inner.Laid.{marked_chars}
use Rattle.merge.specs.inner.Turns.{row_by}
use Rattle.stretches.specs.inner.Encoders.{own_with, cuts_by}
use Rattle.stretches.specs.inner.Writers.{unit_writer, unit_writers}
use Rattle.stretches.proofs.WriterLaws.{going_start, going_fits, going_next, going_ended, keeps_unit}
use Rattle.stretches.proofs.StretchLaws.{NextUnit, next-unit, first_writer}
use Rattle.stretches.proofs.Encoder.encode_each.Goals as goal
use Rattle.stretches.proofs.Encoder.encode_each.Goals.{After-next_unit-next, Start}

-- The rows, own ids and cuts by what is lent.
abbrev row_of : Start → ℕ → ℕ → Option Row
row_of s = row_by s.args.self.now.rows

abbrev own_of : Start → List ℕ → Option ℕ
own_of s = own_with s.args.self.now.speller

abbrev fallback_of : Start → List ℕ
fallback_of s = s.args.self.now.speller.fallback.now

abbrev cuts_of : Start → ℕ → Bool
cuts_of s = cuts_by s.args.self.now s.args.raw s.args.section.now

-- The unit that is written next.
here : (f : After-next_unit-next) → NextUnit (cuts_of (goal.at.After-next_unit-next f).Start) f.args.section.now f.loop-raw.from f.next_unit-next.result
here f =
    let s = (goal.at.After-next_unit-next f).Start in
    next-unit (cuts_of s) s.args.section.now f.loop-raw.from f.next_unit-next.result f.loop-raw.invariant.0 f.next_unit-next.ensures

-- Its characters.
abbrev chars_of : After-next_unit-next → List (List ℕ)
chars_of f = marked_chars false f.args.raw (take (f.next_unit-next.result - f.loop-raw.from) (drop f.loop-raw.from f.args.section.now))

-- The result is no longer than any slice of words.
out_fits : (s : Start) → (length s.args.out.now < 18446744073709551616) × (length s.args.out.now * 4 < 9223372036854775808)
out_fits s = s.well_formed.1.1.1.1.0

pub loop-raw-init : goal.loop-raw-init
loop-raw-init c = (c.requires, going_start _ _)

pub slice_bounds-encode_unit-count : goal.slice_bounds-encode_unit-count
slice_bounds-encode_unit-count c = (here c).starts

pub slice_bounds-encode_unit-start : goal.slice_bounds-encode_unit-start
slice_bounds-encode_unit-start c = (here c).starts

pub slice_bounds-encode_unit-end : goal.slice_bounds-encode_unit-end
slice_bounds-encode_unit-end c = (here c).ends

pub offset_bounds-out-written : goal.offset_bounds-out-written
offset_bounds-out-written c =
    omega (arith, (out_fits (goal.at.offset_bounds-out-written c).Start).1, c.loop-raw.invariant.1.within, c.loop-raw.invariant.1.long)

pub slice_bounds-encode_unit-count-in-loop-raw : goal.slice_bounds-encode_unit-count-in-loop-raw
slice_bounds-encode_unit-count-in-loop-raw c = c.loop-raw.invariant.1.within

pub slice_bounds-encode_unit-start-in-loop-raw : goal.slice_bounds-encode_unit-start-in-loop-raw
slice_bounds-encode_unit-start-in-loop-raw c = c.loop-raw.invariant.1.within

pub slice_bounds-encode_unit-end-in-loop-raw : goal.slice_bounds-encode_unit-end-in-loop-raw
slice_bounds-encode_unit-end-in-loop-raw c = omega arith

pub overflow_add-written : goal.overflow_add-written
overflow_add-written c =
    let f = (goal.at.overflow_add-written c).After-next_unit-next in
    let s = (goal.at.overflow_add-written c).Start in
    omega
    (arith, (out_fits s).0, going_fits f.loop-raw.invariant.1 (unit_writer (row_of s) (own_of s) (fallback_of s) (chars_of f)) (keeps_unit (row_of s) (own_of s) (fallback_of s) (chars_of f)) c.encode_unit-written.ensures)

pub loop-raw-smaller : goal.loop-raw-smaller
loop-raw-smaller c =
    let h = here (goal.at.loop-raw-smaller c).After-next_unit-next in
    omega (arith, h.above c.if-section-next.false, h.ends)

pub loop-raw-preserved : goal.loop-raw-preserved
loop-raw-preserved c =
    let f = (goal.at.loop-raw-preserved c).After-next_unit-next in
    let s = (goal.at.loop-raw-preserved c).Start in
    let h = here f in (
      h.ends,
      going_next f.loop-raw.invariant.1 (unit_writer (row_of s) (own_of s) (fallback_of s) (chars_of f)) _
          (first_writer (row_of s) (own_of s) (fallback_of s) false s.args.raw s.args.section.now f.loop-raw.from f.next_unit-next.result _ _ (h.more c.if-section-next.false))
          (keeps_unit (row_of s) (own_of s) (fallback_of s) (chars_of f)) c.encode_unit-written.ensures,
    )

pub returns-then-section-next : goal.returns-then-section-next
unfolding unit_writers with_virtual_mark
returns-then-section-next c =
    let f = (goal.at.returns-then-section-next c).After-next_unit-next in
    let s = (goal.at.returns-then-section-next c).Start in
    let h = here f in
    going_ended
    (going_next f.loop-raw.invariant.1 (unit_writer (row_of s) (own_of s) (fallback_of s) (chars_of f)) []
    (first_writer (row_of s) (own_of s) (fallback_of s) false s.args.raw s.args.section.now f.loop-raw.from f.next_unit-next.result _ [] (h.last c.if-section-next.true))
    (keeps_unit (row_of s) (own_of s) (fallback_of s) (chars_of f)) c.encode_unit-written.ensures)

pub shape_of-out-then-section-next : goal.shape_of-out-then-section-next
shape_of-out-then-section-next c =
    let f = (goal.at.shape_of-out-then-section-next c).After-next_unit-next in
    let s = (goal.at.shape_of-out-then-section-next c).Start in
    let h = here f in
    (going_next f.loop-raw.invariant.1 (unit_writer (row_of s) (own_of s) (fallback_of s) (chars_of f)) (unit_writers (row_of s) (own_of s) (fallback_of s) false s.args.raw [])
    (first_writer (row_of s) (own_of s) (fallback_of s) false s.args.raw s.args.section.now f.loop-raw.from f.next_unit-next.result _ [] (h.last c.if-section-next.true))
    (keeps_unit (row_of s) (own_of s) (fallback_of s) (chars_of f)) c.encode_unit-written.ensures).long
