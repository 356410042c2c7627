use Rattle.std.specs.Prelude.{Option}
use Prim.Native.Nat.{ℕ, ◌-◌, ◌≤◌, ◌<◌, ◌*◌}
use mathlib.Core.Path.{◌≡◌, refl, sym, ◌∙◌}
use mathlib.Core.Bool.{Bool, false}
use mathlib.Core.List.{List, [], ◌∷◌}
use native.Mathlib.Omega.{arith}
use lib.ListN.{length, take, drop, get_or}
use Rattle.model.specs.Model.{Row}
use Rattle.units.specs.inner.Next.{units_from}
use Rattle.merge.specs.Start.{with_virtual_mark}
use Rattle.merge.specs.inner.Laid.{marked_chars}
use Rattle.merge.specs.inner.Turns.{row_by}
use Rattle.stretches.specs.declared.repeats.Seen.{Seen}
use Rattle.stretches.specs.inner.Encoders.{own_with, cuts_by, units_by}
use Rattle.stretches.specs.inner.Writers.{Writer, unit_writer, unit_writers}
use Rattle.stretches.proofs.WriterLaws.{Keeps, Going, going_start, going_fits, going_next, going_ended, keeps_unit}
use Rattle.stretches.proofs.StretchLaws.{NextUnit, next-unit, first_writer}
use Rattle.stretches.proofs.RepeatLaws.{Table, Kept, kept_new, Again, again, going_repeated, table-start, table_on, table-put, table_repeated}
use Rattle.stretches.proofs.Encoder.encode_repeats.Goals as goal
use Rattle.stretches.proofs.Encoder.encode_repeats.Goals.{After-next_unit-next, After-slot_of-slot, Start, Then-is_repeat, Joined-is_repeat, then-is_repeat, else-is_repeat}

-- The rows, own ids and cuts by what is lent.
abbrev row_of : Start → ℕ → ℕ → Option Row
row_of s = row_by s.args.self.now.rows

abbrev own_of : Start → List ℕ → Option ℕ
own_of s = own_with s.args.self.now.speller

abbrev fallback_of : Start → List ℕ
fallback_of s = s.args.self.now.speller.fallback.now

abbrev cuts_of : Start → ℕ → Bool
cuts_of s = cuts_by s.args.self.now s.args.raw s.args.section.now

-- The unit that is written next.
here : (f : After-next_unit-next) → NextUnit (cuts_of (goal.at.After-next_unit-next f).Start) f.args.section.now f.loop-out.from f.next_unit-next.result
here f =
    let s = (goal.at.After-next_unit-next f).Start in
    next-unit (cuts_of s) s.args.section.now f.loop-out.from f.next_unit-next.result f.loop-out.invariant.0 f.next_unit-next.ensures

-- Its characters, and its writer.
abbrev chars_of : After-next_unit-next → List (List ℕ)
chars_of f = marked_chars false f.args.raw (take (f.next_unit-next.result - f.loop-out.from) (drop f.loop-out.from f.args.section.now))

abbrev writer_of : After-next_unit-next → Writer
writer_of f = let s = (goal.at.After-next_unit-next f).Start in unit_writer (row_of s) (own_of s) (fallback_of s) (chars_of f)

keeps : (f : After-next_unit-next) → Keeps (writer_of f)
keeps f = let s = (goal.at.After-next_unit-next f).Start in keeps_unit (row_of s) (own_of s) (fallback_of s) (chars_of f)

-- What its slot remembers.
abbrev old_of : After-slot_of-slot → Seen
old_of f = get_or f.loop-out.seen f.slot_of-slot.result (record { start = 0; end = 0; at = 0; starts = 0; count = 0 })

abbrev KeptAt : After-slot_of-slot → Type 0
KeptAt f =
    let s = (goal.at.After-slot_of-slot f).Start in
    Kept (row_of s) (own_of s) (fallback_of s) s.args.raw s.args.section.now f.loop-out.out f.loop-out.written (old_of f)

kept : (f : After-slot_of-slot) → KeptAt f
kept f = f.loop-out.invariant.2.each f.slot_of-slot.result _ f.slot_of-slot.ensures

-- The writers from here on, where others follow and where none do.
writers_more : (f : After-next_unit-next) → f.next_unit-next.result < length f.args.section.now
    → let s = (goal.at.After-next_unit-next f).Start in
    unit_writers (row_of s) (own_of s) (fallback_of s) false s.args.raw (units_from (cuts_of s) s.args.section.now f.loop-out.from)
    ≡ writer_of f ∷ unit_writers (row_of s) (own_of s) (fallback_of s) false s.args.raw (units_from (cuts_of s) s.args.section.now f.next_unit-next.result)
writers_more f h =
    let s = (goal.at.After-next_unit-next f).Start in
    first_writer (row_of s) (own_of s) (fallback_of s) false s.args.raw s.args.section.now f.loop-out.from f.next_unit-next.result _ _ ((here f).more h)

writers_last : (f : After-next_unit-next) → length f.args.section.now ≤ f.next_unit-next.result
    → let s = (goal.at.After-next_unit-next f).Start in
    unit_writers (row_of s) (own_of s) (fallback_of s) false s.args.raw (units_from (cuts_of s) s.args.section.now f.loop-out.from) ≡ writer_of f ∷ []
unfolding unit_writers with_virtual_mark
writers_last f h =
    let s = (goal.at.After-next_unit-next f).Start in
    first_writer (row_of s) (own_of s) (fallback_of s) false s.args.raw s.args.section.now f.loop-out.from f.next_unit-next.result _ [] ((here f).last h)

-- It comes again.
repeats : (t : Then-is_repeat) → let f = (goal.at.Then-is_repeat t).After-slot_of-slot in Again f.args.section.now f.loop-out.out f.loop-out.written (old_of f) f.loop-out.from f.next_unit-next.result
repeats t =
    again t.loop-out.from t.next_unit-next.result (kept (goal.at.Then-is_repeat t).After-slot_of-slot) t.is_repeat.ensures t.if-is_repeat.true

-- The result is no longer than any slice of words.
out_fits : (s : Start) → (length s.args.out.now < 18446744073709551616) × (length s.args.out.now * 4 < 9223372036854775808)
out_fits s = s.well_formed.1.1.1.1.0

-- What is written up to the next unit, and what is remembered then.
done : (c : Joined-is_repeat) (rest : List Writer)
    → let f = (goal.at.Joined-is_repeat c).After-next_unit-next in
    let s = (goal.at.Joined-is_repeat c).Start in
    units_by s.args.self.now s.args.raw (units_from (cuts_of s) s.args.section.now f.loop-out.from) ≡ writer_of f ∷ rest
    → Going (units_by s.args.self.now s.args.raw (units_from (cuts_of s) s.args.section.now s.args.start)) rest s.args.out.now c.if-is_repeat.out c.if-is_repeat.written
    × Table (row_of s) (own_of s) (fallback_of s) s.args.raw s.args.section.now c.if-is_repeat.out c.if-is_repeat.written 8192 c.if-is_repeat.seen
done c rest e =
    let f = (goal.at.Joined-is_repeat c).After-next_unit-next in
    let q = (goal.at.Joined-is_repeat c).After-slot_of-slot in
    let l = f.loop-out in
    let h = here f in
    elim c.if-is_repeat.branch [
      | then-is_repeat w ↦
          let g = going_repeated l.invariant.1 (kept q) (again l.from f.next_unit-next.result (kept q) c.is_repeat.ensures w.if-is_repeat.true) e w.repeat_ids.ensures in
          rw (w.out-is, w.seen-is, w.written-is) (g, table_repeated (old_of q) l.invariant.2 l.invariant.1 g w.repeat_ids.ensures)
      | else-is_repeat w ↦
          let g = going_next l.invariant.1 (writer_of f) rest e (keeps f) w.encode_started-one.ensures.0 in
          rw (w.out-is, w.seen-is, w.written-is) (
            g,
            table-put c.slot_of-slot.result _
                (table_on l.invariant.2 l.invariant.1.within _ refl (g.long ∙ sym l.invariant.1.long) (omega arith))
                c.slot_of-slot.ensures
                (kept_new l.from f.next_unit-next.result l.out h.starts h.ends l.invariant.1.within w.encode_started-one.ensures.0 w.encode_started-one.ensures.1),
          )
    ]

pub loop-out-init : goal.loop-out-init
loop-out-init c = (c.requires.start_in_bounds, going_start _ _, table-start c.args.out.now)

pub slice_bounds-slot_of-count : goal.slice_bounds-slot_of-count
slice_bounds-slot_of-count c = (here c).starts

pub slice_bounds-slot_of-start : goal.slice_bounds-slot_of-start
slice_bounds-slot_of-start c = (here c).starts

pub slice_bounds-slot_of-end : goal.slice_bounds-slot_of-end
slice_bounds-slot_of-end c = (here c).ends

pub is_repeat-requires : goal.is_repeat-requires
is_repeat-requires c =
    let f = (goal.at.is_repeat-requires c).After-next_unit-next in
    let k = kept (goal.at.is_repeat-requires c).After-slot_of-slot in
    (k.starts, k.ends, (here f).starts, (here f).ends)

pub repeat_ids-requires : goal.repeat_ids-requires
repeat_ids-requires c =
    let k = kept (goal.at.repeat_ids-requires c).After-slot_of-slot in
    let a = repeats (goal.at.repeat_ids-requires c).Then-is_repeat in
    (k.before, a.few, omega (arith, a.room))

pub slice_bounds-encode_started-count : goal.slice_bounds-encode_started-count
slice_bounds-encode_started-count c = (here (goal.at.slice_bounds-encode_started-count c).After-next_unit-next).starts

pub slice_bounds-encode_started-start : goal.slice_bounds-encode_started-start
slice_bounds-encode_started-start c = (here (goal.at.slice_bounds-encode_started-start c).After-next_unit-next).starts

pub overflow_cast-seen-else-is_repeat-4 : goal.overflow_cast-seen-else-is_repeat-4
overflow_cast-seen-else-is_repeat-4 c =
    let f = (goal.at.overflow_cast-seen-else-is_repeat-4 c).After-next_unit-next in
    omega (arith, going_fits f.loop-out.invariant.1 (writer_of f) (keeps f) c.encode_started-one.ensures.0, f.requires.section_len_bound.1)

pub overflow_add-written-else-is_repeat : goal.overflow_add-written-else-is_repeat
overflow_add-written-else-is_repeat c =
    let f = (goal.at.overflow_add-written-else-is_repeat c).After-next_unit-next in
    omega (arith, (out_fits (goal.at.overflow_add-written-else-is_repeat c).Start).0, going_fits f.loop-out.invariant.1 (writer_of f) (keeps f) c.encode_started-one.ensures.0)

pub returns-then-section-next : goal.returns-then-section-next
returns-then-section-next c =
    let j = (goal.at.returns-then-section-next c).Joined-is_repeat in
    going_ended (done j [] (writers_last (goal.at.returns-then-section-next c).After-next_unit-next c.if-section-next.true)).0

pub loop-out-smaller : goal.loop-out-smaller
loop-out-smaller c =
    let h = here (goal.at.loop-out-smaller c).After-next_unit-next in
    omega (arith, h.above c.if-section-next.false, h.ends)

pub loop-out-preserved : goal.loop-out-preserved
loop-out-preserved c =
    let f = (goal.at.loop-out-preserved c).After-next_unit-next in
    let d = done (goal.at.loop-out-preserved c).Joined-is_repeat _ (writers_more f c.if-section-next.false) in
    ((here f).ends, d.0, d.1)
