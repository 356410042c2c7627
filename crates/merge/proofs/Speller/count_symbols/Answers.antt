use Prim.Native.Nat.{◌+◌, ◌-◌, ◌<◌}
use native.Mathlib.Omega.{arith}
use mathlib.Core.Path.{sym, ◌∙◌}
use lib.ListN.{length, take, drop, replicate}
use Rattle.merge.specs.Start.{as_mark}
use Rattle.merge.specs.inner.Laid.{own_by}
use Rattle.merge.proofs.WalkLaws.{Stepped, stepped, unit-at, unit_over, unit_narrow, given, given-one, mark-one, tallied_start, tallied_next, tallied_one, tallied_full, tallied_ended}
use Rattle.merge.proofs.ByteLaws.{Alone, alone}
use Rattle.merge.proofs.Speller.count_symbols.Goals as goal
use Rattle.merge.proofs.Speller.count_symbols.Goals.{After-char_step, Then-id, then-count-room, else-count-room}

inside : (f : After-char_step) → f.loop-i.i < length f.args.unit.now
inside f = f.loop-i-test.true

here : (f : After-char_step) → Stepped f.args.unit.now f.loop-i.i f.char_step.result
here f = stepped f.args.unit.now f.loop-i.i f.char_step.result (inside f) f.char_step.ensures

-- where the byte is a character by itself
lone : (t : Then-id) → (let st = t.args in
    Alone st.self.now.index.pieces.bytes.now st.self.now.index.pieces.offsets.now st.self.now.index.lookup.now st.self.now.index.words.now st.self.now.index.mark_id st.raw st.unit.now t.loop-i.i t.own_byte-id.result)
lone t =
    let st = t.args in
    alone st.self.now.index.pieces.bytes.now st.self.now.index.pieces.offsets.now st.self.now.index.lookup.now st.self.now.index.words.now st.self.now.index.mark_id st.raw st.unit.now t.loop-i.i t.loop-i-test.true t.own_byte-id.ensures t.if-id.true

pub loop-i-init : goal.loop-i-init
loop-i-init c =
    let st = c.args in
    let own = own_by st.self.now.index in
    let first = mark-one own st.self.now.fallback.now st.virtual_mark (replicate 4 0) c.spell_mark-first.ensures in
    (omega arith, omega (arith, first), c.spell_mark-first.auto.out, tallied_start own st.self.now.fallback.now st.virtual_mark st.raw st.unit.now (replicate 4 0) st.room (omega arith) c.spell_mark-first.ensures c.min-count.ensures)

pub loop-i-preserved-then-id : goal.loop-i-preserved-then-id
loop-i-preserved-then-id c =
    let l = c.loop-i in
    let one = lone (goal.at.loop-i-preserved-then-id c).Then-id in
    elim c.if-count-room.branch [
      | then-count-room w ↦ rw w.count-is (omega (arith, c.loop-i-test.true), omega (arith, l.invariant.1), l.invariant.2, tallied_one l.invariant.3 one.is one.has w.if-count-room.true)
      | else-count-room w ↦ rw w.count-is (omega (arith, c.loop-i-test.true), omega (arith, l.invariant.1), l.invariant.2, tallied_full l.invariant.3 one.is one.has w.if-count-room.false)
    ]

pub overflow_add-next : goal.overflow_add-next
overflow_add-next c = omega (arith, (here c).ends)

pub slice_bounds-spell_as-end : goal.slice_bounds-spell_as-end
slice_bounds-spell_as-end c = (here c).ends

pub slice_bounds-spell_as-end-else-id : goal.slice_bounds-spell_as-end-else-id
slice_bounds-spell_as-end-else-id c = sym c.loop-i.invariant.2

pub overflow_sub-room : goal.overflow_sub-room
overflow_sub-room c = c.loop-i.invariant.3.count.within

pub overflow_add-count-else-id : goal.overflow_add-count-else-id
overflow_add-count-else-id c =
    omega (arith, c.min-count-else-id.ensures, c.loop-i.invariant.3.count.within, c.ranges.room)

pub overflow_add-drops : goal.overflow_add-drops
overflow_add-drops c =
    let st = c.args in
    let char = as_mark st.raw (take (c.loop-i.i + c.char_step.result - c.loop-i.i) (drop c.loop-i.i st.unit.now)) in
    let g = given (own_by st.self.now.index) st.self.now.fallback.now char c.loop-i.ids c.spell_as-given.ensures in
    omega (arith, given-one g, c.loop-i.invariant.1, c.loop-i.invariant.0)

pub loop-i-smaller : goal.loop-i-smaller
loop-i-smaller c =
    let h = here (goal.at.loop-i-smaller c).After-char_step in
    omega (arith, h.some, h.ends)

pub loop-i-preserved : goal.loop-i-preserved
loop-i-preserved c =
    let st = c.args in
    let char = as_mark st.raw (take (c.loop-i.i + c.char_step.result - c.loop-i.i) (drop c.loop-i.i st.unit.now)) in
    let g = given (own_by st.self.now.index) st.self.now.fallback.now char c.loop-i.ids c.spell_as-given.ensures in
    let h = here (goal.at.loop-i-preserved c).After-char_step in (
      h.ends,
      omega (arith, given-one g, c.loop-i.invariant.1, h.some),
      c.spell_as-given.auto.out ∙ c.loop-i.invariant.2,
      tallied_next g c.loop-i.invariant.3 (unit-at st.raw st.unit.now c.loop-i.i h (inside (goal.at.loop-i-preserved c).After-char_step))
          (rw c.loop-i.invariant.2 (unit_narrow st.raw st.unit.now c.loop-i.i h)) c.min-count-else-id.ensures,
    )

pub returns : goal.returns
returns c =
    let st = c.args in
    tallied_ended c.loop-i.invariant.3 (unit_over st.raw st.unit.now c.loop-i.i c.loop-i-test.false)
