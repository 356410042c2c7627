use mathlib.Core.Path.{sym, ◌∙◌}
use native.Mathlib.Omega.{arith}
use Rattle.utf8.proofs.Lists.{part_to_end}
use Rattle.units.proofs.CrossingLaws.{any-below_found, any-below-next, any-below-ended, marks, holds_start, marks_here, marks_not}
use lib.ListN.{length}
use Rattle.units.proofs.crossings.holds_mark.Goals as goal

pub loop-p-init : goal.loop-p-init
loop-p-init c = holds_start c.args.bytes.now

pub returns-then-mark_width-ne0 : goal.returns-then-mark_width-ne0
returns-then-mark_width-ne0 c =
    let l = c.loop-p in
    let st = c.args in
    sym (l.invariant ∙ any-below_found (marks st.bytes.now) (length st.bytes.now) l.p (omega arith) (marks_here st.bytes.now l.p _ _ (part_to_end st.bytes.now l.p) c.mark_width.ensures c.if-mark_width-ne0.true))

pub loop-p-preserved : goal.loop-p-preserved
loop-p-preserved c =
    let l = c.loop-p in
    let st = c.args in
    l.invariant ∙ any-below-next (marks st.bytes.now) (length st.bytes.now) l.p (omega arith) (marks_not st.bytes.now l.p _ _ (part_to_end st.bytes.now l.p) c.mark_width.ensures c.if-mark_width-ne0.false)

pub returns : goal.returns
returns c =
    let l = c.loop-p in
    let st = c.args in
    sym (l.invariant ∙ any-below-ended (marks st.bytes.now) (length st.bytes.now) l.p (omega arith))
