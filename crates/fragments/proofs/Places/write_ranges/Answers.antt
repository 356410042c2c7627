use native.Mathlib.Omega.{arith}
use Prim.Native.Nat.{max}
use Rattle.fragments.proofs.CutLaws.{over}
use Rattle.fragments.proofs.PassLaws.{some_step, ranging_start, ranging_room, ranging_next, ranging_count, ranging_done, cut_beyond}
use Rattle.fragments.proofs.Places.write_ranges.Goals as goal

pub loop-cut-init : goal.loop-cut-init
loop-cut-init c = ranging_start _ (max c.args.target 1) (some_step c.args.target) c.args.out.now c.args.self.now.text_valid c.requires

pub put_range-requires-clause-at_in_bounds : goal.put_range-requires-clause-at_in_bounds
put_range-requires-clause-at_in_bounds c =
    let a = c.args in
    ranging_room (over a.self.now) (max a.target 1) (some_step a.target) c.loop-cut.invariant

pub loop-cut-smaller : goal.loop-cut-smaller
loop-cut-smaller c =
    let a = c.args in
    let next = c.in-Some.ensures in
    omega (arith, cut_beyond (over a.self.now) (max a.target 1) (some_step a.target) c.loop-cut.last.place next, next.0)

pub loop-cut-preserved : goal.loop-cut-preserved
loop-cut-preserved c =
    let a = c.args in
    ranging_next (over a.self.now) (max a.target 1) (some_step a.target) c.loop-cut.invariant c.in-Some.ensures c.put_range.ensures

pub put_range-requires-2-clause-at_in_bounds : goal.put_range-requires-2-clause-at_in_bounds
put_range-requires-2-clause-at_in_bounds c =
    let a = c.args in
    ranging_room (over a.self.now) (max a.target 1) (some_step a.target) c.loop-cut.invariant

pub returns-clause-value : goal.returns-clause-value
returns-clause-value c =
    let a = c.args in
    ranging_count (over a.self.now) (max a.target 1) (some_step a.target) c.loop-cut.invariant c.in_default.ensures c.put_range-2.ensures

pub returns-clause-out_after : goal.returns-clause-out_after
returns-clause-out_after c =
    let a = c.args in
    ranging_done (over a.self.now) (max a.target 1) (some_step a.target) c.loop-cut.invariant c.in_default.ensures c.put_range-2.ensures
