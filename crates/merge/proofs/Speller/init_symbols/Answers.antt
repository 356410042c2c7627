use Prim.Native.Nat.{◌+◌, ◌-◌, ◌<◌, ◌*◌}
use native.Mathlib.Omega.{arith}
use borrow.Author.Rules.{rules}
use lib.ListN.{length, take, drop, length-take}
use Rattle.merge.specs.Start.{as_mark, unit_chars}
use Rattle.merge.specs.inner.Laid.{own_by, marked_chars}
use Rattle.merge.proofs.WalkLaws.{Stepped, stepped, unit-at, unit_over, Walked, walked_start, walked_ended, given, given-one, mark-one, onward_start, onward_next, onward_one, onward_full}
use Rattle.merge.proofs.ByteLaws.{Alone, alone}
use Rattle.merge.proofs.Speller.init_symbols.Goals as goal
use Rattle.merge.proofs.Speller.init_symbols.Goals.{After-char_step, At-loop-i, Start, Then-id, then-count-out, else-count-out}

-- The walk as it stands at the loop's test.
walked : (a : At-loop-i)
    → Walked (own_by a.args.self.now.index) a.args.self.now.fallback.now
    (marked_chars a.args.virtual_mark a.args.raw a.args.unit.now)
    (unit_chars a.args.raw (drop a.loop-i.i a.args.unit.now))
    a.args.out.now a.loop-i.out a.loop-i.count a.loop-i.drops
walked a =
    let st = a.args in
    a.loop-i.invariant.2.goes (walked_start (own_by st.self.now.index) st.self.now.fallback.now st.virtual_mark st.raw st.unit.now st.out.now a.spell_mark-first.ensures)

inside : (f : After-char_step) → f.loop-i.i < length f.args.unit.now
inside f = f.loop-i-test.true

here : (f : After-char_step) → Stepped f.args.unit.now f.loop-i.i f.char_step.result
here f = stepped f.args.unit.now f.loop-i.i f.char_step.result (inside f) f.char_step.ensures

-- where the byte is a character by itself
lone : (t : Then-id) → (let st = t.args in
    Alone st.self.now.index.pieces.bytes.now st.self.now.index.pieces.offsets.now st.self.now.index.lookup.now st.self.now.index.words.now st.self.now.index.mark_id st.raw st.unit.now t.loop-i.i t.own_byte-id.result)
lone t =
    let st = t.args in
    alone st.self.now.index.pieces.bytes.now st.self.now.index.pieces.offsets.now st.self.now.index.lookup.now st.self.now.index.words.now st.self.now.index.mark_id st.raw st.unit.now t.loop-i.i t.loop-i-test.true t.own_byte-id.ensures t.if-id.true

-- The result is no longer than any slice of words.
out_fits : (s : Start) → (length s.args.out.now < 18446744073709551616) × (length s.args.out.now * 4 < 9223372036854775808)
out_fits s = s.well_formed.1.1.1.1.0

pub loop-i-init : goal.loop-i-init
loop-i-init c = (search rules, search rules, onward_start _ _ _ _ _ _)

pub offset_bounds-out-count : goal.offset_bounds-out-count
offset_bounds-out-count c =
    let a = (goal.at.offset_bounds-out-count c).At-loop-i in
    omega (arith, (out_fits (goal.at.offset_bounds-out-count c).Start).1, (walked a).laying.count.within)

pub overflow_add-count : goal.overflow_add-count
overflow_add-count c =
    let a = (goal.at.overflow_add-count c).At-loop-i in
    omega (arith, (out_fits (goal.at.overflow_add-count c).Start).1, (walked a).laying.count.within)

pub loop-i-preserved-then-id : goal.loop-i-preserved-then-id
loop-i-preserved-then-id c =
    let l = c.loop-i in
    let one = lone (goal.at.loop-i-preserved-then-id c).Then-id in
    elim c.if-count-out.branch [
      | then-count-out w ↦ rw (w.out-is, w.count-is) (omega (arith, c.loop-i-test.true), omega (arith, l.invariant.1), onward_one l.invariant.2 one.is one.has w.if-count-out.true)
      | else-count-out w ↦ rw (w.out-is, w.count-is) (omega (arith, c.loop-i-test.true), omega (arith, l.invariant.1), onward_full l.invariant.2 one.is one.has w.if-count-out.false)
    ]

pub overflow_add-next : goal.overflow_add-next
overflow_add-next c = omega (arith, (here c).ends)

pub slice_bounds-spell_as-end : goal.slice_bounds-spell_as-end
slice_bounds-spell_as-end c = (here c).ends

pub offset_bounds-out-count-else-id : goal.offset_bounds-out-count-else-id
offset_bounds-out-count-else-id c =
    let a = (goal.at.offset_bounds-out-count-else-id c).At-loop-i in
    omega (arith, (out_fits (goal.at.offset_bounds-out-count-else-id c).Start).1, (walked a).laying.count.within)

pub slice_bounds-spell_as-count-else-id : goal.slice_bounds-spell_as-count-else-id
slice_bounds-spell_as-count-else-id c =
    let w = walked (goal.at.slice_bounds-spell_as-count-else-id c).At-loop-i in
    omega (arith, w.laying.count.within, w.laying.long)

pub slice_bounds-spell_as-start-else-id : goal.slice_bounds-spell_as-start-else-id
slice_bounds-spell_as-start-else-id c =
    let w = walked (goal.at.slice_bounds-spell_as-start-else-id c).At-loop-i in
    omega (arith, w.laying.count.within, w.laying.long)

pub overflow_add-count-else-id : goal.overflow_add-count-else-id
overflow_add-count-else-id c =
    let a = (goal.at.overflow_add-count-else-id c).At-loop-i in
    let st = a.args in
    let char = as_mark st.raw (take (a.loop-i.i + c.char_step.result - a.loop-i.i) (drop a.loop-i.i st.unit.now)) in
    let g = given (own_by st.self.now.index) st.self.now.fallback.now char (take (length a.loop-i.out - a.loop-i.count) (drop a.loop-i.count a.loop-i.out)) c.spell_as-given.ensures in
    let w = walked a in
    omega (arith, (out_fits (goal.at.overflow_add-count-else-id c).Start).0, g.count, length-take (length a.loop-i.out - a.loop-i.count) (drop a.loop-i.count a.loop-i.out), w.laying.count.within, w.laying.long)

pub overflow_add-drops : goal.overflow_add-drops
overflow_add-drops c =
    let st = c.args in
    let char = as_mark st.raw (take (c.loop-i.i + c.char_step.result - c.loop-i.i) (drop c.loop-i.i st.unit.now)) in
    let g = given (own_by st.self.now.index) st.self.now.fallback.now char (take (length c.loop-i.out - c.loop-i.count) (drop c.loop-i.count c.loop-i.out)) c.spell_as-given.ensures in
    let first = mark-one (own_by st.self.now.index) st.self.now.fallback.now st.virtual_mark st.out.now c.spell_mark-first.ensures in
    omega (arith, given-one g, first, c.loop-i.invariant.1, c.loop-i.invariant.0)

pub loop-i-smaller : goal.loop-i-smaller
loop-i-smaller c =
    let h = here (goal.at.loop-i-smaller c).After-char_step in
    omega (arith, h.some, h.ends)

pub loop-i-preserved : goal.loop-i-preserved
loop-i-preserved c =
    let st = c.args in
    let char = as_mark st.raw (take (c.loop-i.i + c.char_step.result - c.loop-i.i) (drop c.loop-i.i st.unit.now)) in
    let g = given (own_by st.self.now.index) st.self.now.fallback.now char (take (length c.loop-i.out - c.loop-i.count) (drop c.loop-i.count c.loop-i.out)) c.spell_as-given.ensures in
    let h = here (goal.at.loop-i-preserved c).After-char_step in
    (h.ends, omega (arith, given-one g, c.loop-i.invariant.1, h.some), onward_next c.loop-i.invariant.2 (unit-at st.raw st.unit.now c.loop-i.i h (inside (goal.at.loop-i-preserved c).After-char_step)) g)

pub shape_of-out : goal.shape_of-out
shape_of-out c = (walked (goal.at.shape_of-out c).At-loop-i).laying.long

pub returns : goal.returns
returns c =
    let st = c.args in
    walked_ended (walked (goal.at.returns c).At-loop-i) (unit_over st.raw st.unit.now c.loop-i.i c.loop-i-test.false)
