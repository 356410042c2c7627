use native.Mathlib.Omega.{arith}
use Prim.Native.Nat.{max}
use Rattle.fragments.proofs.CutLaws.{over}
use Rattle.fragments.proofs.PassLaws.{some_step, counting_start, counting_next, counting_done, cut_beyond}
use Rattle.fragments.proofs.Places.count_cuts.Goals as goal

pub loop-cut-init : goal.loop-cut-init
loop-cut-init c = counting_start _ (max c.args.target 1) (some_step c.args.target) c.args.self.now.text_valid

pub loop-cut-smaller : goal.loop-cut-smaller
loop-cut-smaller c =
    let a = c.args in
    let next = c.in-Some.ensures in
    omega (arith, cut_beyond (over a.self.now) (max a.target 1) (some_step a.target) c.loop-cut.last.place next, next.0)

pub loop-cut-preserved : goal.loop-cut-preserved
loop-cut-preserved c =
    let a = c.args in
    counting_next (over a.self.now) (max a.target 1) (some_step a.target) c.loop-cut.invariant c.in-Some.ensures

pub returns : goal.returns
returns c =
    let a = c.args in
    counting_done (over a.self.now) (max a.target 1) (some_step a.target) c.loop-cut.invariant c.in_default.ensures
