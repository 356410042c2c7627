use mathlib.Core.Path.{sym, ◌∙◌}
use mathlib.Core.Bool.{Bool, true}
use Prim.Native.Nat.{ℕ}
use lib.ListN.{length}
use Rattle.units.specs.Units.{mark_cuts}
use Rattle.units.specs.inner.Read.{crossings_in}
use Rattle.fragments.proofs.FirstLaws.{sought_here, sought_next, sought_ended, no_mark}
use Rattle.fragments.proofs.Places.next_mark.Goals as goal
use Rattle.fragments.proofs.Places.next_mark.Goals.{Start, else-may_cut-via-then-may_cut+else-mark_cuts, else-may_cut-via-else-may_cut}

abbrev cuts : Start → ℕ → Bool
cuts c = mark_cuts c.args.self.now.cutter.kind (crossings_in c.args.self.now.cutter) true c.args.self.now.text.now

pub returns-then-mark_cuts : goal.returns-then-mark_cuts
returns-then-mark_cuts c =
    let s = (goal.at.returns-then-mark_cuts c).Start in
    sym (c.loop-p.invariant ∙ sought_here (cuts s) (length s.args.self.now.text.now) c.loop-p.p c.loop-p-test.true (sym c.mark_cuts.ensures ∙ c.if-mark_cuts.true))

pub loop-p-preserved : goal.loop-p-preserved
loop-p-preserved c =
    let s = (goal.at.loop-p-preserved c).Start in
    let a = s.args in
    let next = sought_next (cuts s) (length a.self.now.text.now) c.loop-p.p c.loop-p-test.true in
    c.loop-p.invariant
    ∙ elim c.else-may_cut.branch [
      | else-may_cut-via-then-may_cut+else-mark_cuts w ↦ next (sym w.mark_cuts.ensures ∙ w.if-mark_cuts.false)
      | else-may_cut-via-else-may_cut w ↦ next (no_mark a.self.now.cutter.kind (crossings_in a.self.now.cutter) a.self.now.text.now c.loop-p.p c.loop-p-test.true (sym c.may_cut.ensures ∙ w.if-may_cut.false))
    ]

pub returns : goal.returns
returns c =
    let s = (goal.at.returns c).Start in
    sym (c.loop-p.invariant ∙ sought_ended (cuts s) (length s.args.self.now.text.now) c.loop-p.p c.loop-p-test.false)
