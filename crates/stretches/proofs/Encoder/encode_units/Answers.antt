-- `stretches::Encoder::encode_units` meets its contract: the first unit, and then the others behind it.
use Rattle.std.specs.Prelude.{Option}
use Prim.Native.Nat.{ℕ, ◌-◌, ◌≤◌, ◌*◌, ◌<◌}
use mathlib.Core.Bool.{Bool}
use mathlib.Core.Path.{◌≡◌, ap, ◌∙◌}
use mathlib.Core.List.{List}
use native.Mathlib.Omega.{arith}
use lib.ListN.{length, take, drop, length-take}
use Rattle.model.specs.Model.{Row}
use Rattle.units.specs.inner.Next.{units_from}
use Rattle.merge.specs.inner.Laid.{marked_chars}
use Rattle.merge.specs.inner.Turns.{row_by, Merged}
use Rattle.stretches.specs.inner.Encoders.{own_with, cuts_by}
use Rattle.stretches.specs.inner.Writers.{Writer, unit_writer}
use Rattle.stretches.proofs.WriterLaws.{Keeps, keeps_unit}
use Rattle.stretches.proofs.StretchLaws.{NextUnit, next-unit, keeps_units, keeps_stretch_by, one_unit, more_units}
use Rattle.stretches.proofs.Encoder.encode_units.Goals as goal
use Rattle.stretches.proofs.Encoder.encode_units.Goals.{After-encode_unit-written, After-next_unit-next, Start}

-- The rows, own ids and cuts by what is lent.
abbrev row_of : Start → ℕ → ℕ → Option Row
row_of s = row_by s.args.self.now.rows

abbrev own_of : Start → List ℕ → Option ℕ
own_of s = own_with s.args.self.now.speller

abbrev fallback_of : Start → List ℕ
fallback_of s = s.args.self.now.speller.fallback.now

abbrev cuts_of : Start → ℕ → Bool
cuts_of s = cuts_by s.args.self.now s.args.raw s.args.section.now

-- The result is no longer than any slice of words.
out_fits : (s : Start) → (length s.args.out.now < 18446744073709551616) × (length s.args.out.now * 4 < 9223372036854775808)
out_fits s = s.well_formed.1.1.1.1.0

-- The first unit, and its writer.
here : (f : After-next_unit-next) → NextUnit (cuts_of (goal.at.After-next_unit-next f).Start) f.args.section.now 0 f.next_unit-next.result
here f = let s = (goal.at.After-next_unit-next f).Start in next-unit (cuts_of s) s.args.section.now 0 f.next_unit-next.result (omega arith) f.next_unit-next.ensures

abbrev first_of : After-next_unit-next → Writer
first_of f = let s = (goal.at.After-next_unit-next f).Start in unit_writer (row_of s) (own_of s) (fallback_of s) (marked_chars s.args.virtual_mark s.args.raw (take (f.next_unit-next.result - 0) (drop 0 s.args.section.now)))

keeps_first : (f : After-next_unit-next) → Keeps (first_of f)
keeps_first f = let s = (goal.at.After-next_unit-next f).Start in keeps_unit (row_of s) (own_of s) (fallback_of s) _

-- The buffer after the first call; what that wrote lies in it.
abbrev first_left : After-encode_unit-written → List ℕ
first_left w = w.encode_unit-written.new.out

inside : (w : After-encode_unit-written) → (w.encode_unit-written.result ≤ length (first_left w)) × (length (first_left w) ≡ length w.args.out.now)
inside w =
    let f = (goal.at.After-encode_unit-written w).After-next_unit-next in
    let out = f.args.out.now in
    let long : length (first_left w) ≡ length out = ap (λ (d : Merged). length d.ids) w.encode_unit-written.ensures ∙ (keeps_first f).long out in
    (omega (arith, ap (λ (d : Merged). d.count) w.encode_unit-written.ensures, (keeps_first f).inside out, long), long)

pub slice_bounds-encode_unit-end : goal.slice_bounds-encode_unit-end
slice_bounds-encode_unit-end c = (here c).ends

pub shape_of-out-then-section-next : goal.shape_of-out-then-section-next
shape_of-out-then-section-next c = (inside (goal.at.shape_of-out-then-section-next c).After-encode_unit-written).1

pub returns-then-section-next : goal.returns-then-section-next
returns-then-section-next c =
    let f = (goal.at.returns-then-section-next c).After-next_unit-next in
    let s = (goal.at.returns-then-section-next c).Start in
    one_unit (row_of s) (own_of s) (fallback_of s) s.args.raw s.args.virtual_mark (cuts_of s) s.args.section.now f.next_unit-next.result (here f) s.args.out.now c.encode_unit-written.ensures c.if-section-next.true

pub offset_bounds-out-written : goal.offset_bounds-out-written
offset_bounds-out-written c = let w = (goal.at.offset_bounds-out-written c).After-encode_unit-written in omega (arith, (out_fits (goal.at.offset_bounds-out-written c).Start).1, (inside w).0, (inside w).1)

pub slice_bounds-encode_rest-count : goal.slice_bounds-encode_rest-count
slice_bounds-encode_rest-count c = (inside (goal.at.slice_bounds-encode_rest-count c).After-encode_unit-written).0

pub slice_bounds-encode_rest-start : goal.slice_bounds-encode_rest-start
slice_bounds-encode_rest-start c = (inside (goal.at.slice_bounds-encode_rest-start c).After-encode_unit-written).0

pub slice_bounds-encode_rest-end : goal.slice_bounds-encode_rest-end
slice_bounds-encode_rest-end c = omega arith

pub encode_rest-requires : goal.encode_rest-requires
encode_rest-requires c = (here (goal.at.encode_rest-requires c).After-next_unit-next).ends

pub overflow_add-result : goal.overflow_add-result
overflow_add-result c =
    let w = (goal.at.overflow_add-result c).After-encode_unit-written in
    let s = (goal.at.overflow_add-result c).Start in
    let tail = take (length (first_left w) - w.encode_unit-written.result) (drop w.encode_unit-written.result (first_left w)) in
    omega (arith, (out_fits s).0, (inside w).0, (inside w).1, ap (λ (d : Merged). d.count) c.encode_rest.ensures, (keeps_units (row_of s) (own_of s) (fallback_of s) s.args.raw (units_from (cuts_of s) s.args.section.now w.next_unit-next.result)).inside tail, length-take (length (first_left w) - w.encode_unit-written.result) (drop w.encode_unit-written.result (first_left w)))

pub returns : goal.returns
returns c =
    let f = (goal.at.returns c).After-next_unit-next in
    let s = (goal.at.returns c).Start in
    more_units (row_of s) (own_of s) (fallback_of s) s.args.raw s.args.virtual_mark (cuts_of s) s.args.section.now f.next_unit-next.result (here f) s.args.out.now c.encode_unit-written.ensures c.if-section-next.false c.encode_rest.ensures

pub shape_of-out : goal.shape_of-out
shape_of-out c =
    let s = (goal.at.shape_of-out c).Start in
    ap (λ (d : Merged). length d.ids) (returns c) ∙ (keeps_stretch_by (row_of s) (own_of s) (fallback_of s) s.args.raw s.args.virtual_mark (cuts_of s) s.args.section.now).long s.args.out.now
