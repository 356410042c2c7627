use Rattle.merge.proofs.StartLaws.{bytes-start, bytes-put, bytes_full, bytes_lacking, bytes-ended}
use Rattle.merge.proofs.start.spell_bytes.Goals as goal
use Rattle.merge.proofs.start.spell_bytes.Goals.{in-Some+then-count-out, in-Some+else-count-out, in-None}

pub loop-b-init : goal.loop-b-init
loop-b-init c =
    let st = c.args in
    bytes-start st.fallback.now st.char.now st.out.now

pub loop-b-preserved : goal.loop-b-preserved
loop-b-preserved c =
    elim c.match-fallback_id.branch [
      | in-Some+then-count-out w ↦ rw (w.out-is, w.count-is, w.drops-is) (bytes-put c.loop-b.invariant c.loop-b-test.true c.fallback_id.ensures w.in-Some.is w.if-count-out.true)
      | in-Some+else-count-out w ↦ rw (w.out-is, w.count-is, w.drops-is) (bytes_full c.loop-b.invariant c.loop-b-test.true c.fallback_id.ensures w.in-Some.is w.if-count-out.false)
      | in-None w ↦ rw (w.out-is, w.count-is, w.drops-is) (bytes_lacking c.loop-b.invariant c.loop-b-test.true c.fallback_id.ensures w.in-None.is)
    ]

pub shape_of-out : goal.shape_of-out
shape_of-out c = c.loop-b.invariant.laying.long

pub returns : goal.returns
returns c = bytes-ended c.loop-b.invariant c.loop-b-test.false
