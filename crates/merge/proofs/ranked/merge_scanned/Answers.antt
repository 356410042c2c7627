use native.Mathlib.Omega.{arith}
use mathlib.Core.Path.{sym}
use lib.ListN.{take}
use lib.Seq.{length-take-le}
use Rattle.merge.specs.Merge.{next_merge}
use Rattle.merge.specs.inner.Turns.{row_by}
use Rattle.merge.proofs.FrontLaws.{Picked, picked, stopped, merging_start, merging_fits, merging_inside, merging-some, merging-next, merging-ended}
use Rattle.merge.proofs.ranked.merge_scanned.Goals as goal
use Rattle.merge.proofs.ranked.merge_scanned.Goals.{In-Some}

-- The pair that is merged next.
pick : (p : In-Some)
    → Picked (next_merge (row_by p.args.rows.now) (take p.loop-joining.n p.loop-joining.ids))
    p.in-Some.joining.place p.in-Some.joining.result
pick p = picked _ p.next_merge.ensures p.in-Some.is

pub loop-joining-init : goal.loop-joining-init
loop-joining-init c =
    let st = c.args in
    merging_start (row_by st.rows.now) c.min-n.result st.ids.now (omega (arith, c.min-n.ensures))

pub slice_bounds-next_merge-end : goal.slice_bounds-next_merge-end
slice_bounds-next_merge-end c = merging_fits c.loop-joining.invariant

pub slice_bounds-next_merge-end-in-loop-joining : goal.slice_bounds-next_merge-end-in-loop-joining
slice_bounds-next_merge-end-in-loop-joining c =
    sym (length-take-le c.loop-joining.n c.loop-joining.ids (merging_fits c.loop-joining.invariant))

pub shape_of-ids-in-None : goal.shape_of-ids-in-None
shape_of-ids-in-None c = c.loop-joining.invariant.size

pub returns-in-None : goal.returns-in-None
returns-in-None c =
    merging-ended c.loop-joining.invariant c.args.count c.min-n.ensures (stopped _ c.next_merge.ensures c.in-None.is)

pub slice_bounds-merge_at-end : goal.slice_bounds-merge_at-end
slice_bounds-merge_at-end c = merging_fits c.loop-joining.invariant

pub slice_bounds-merge_at-end-in-Some : goal.slice_bounds-merge_at-end-in-Some
slice_bounds-merge_at-end-in-Some c =
    sym (length-take-le c.loop-joining.n c.loop-joining.ids (merging_fits c.loop-joining.invariant))

pub merge_at-requires : goal.merge_at-requires
merge_at-requires c = merging_inside c.loop-joining.invariant (pick (goal.at.merge_at-requires c).In-Some)

pub overflow_sub-n : goal.overflow_sub-n
overflow_sub-n c =
    let p = (goal.at.overflow_sub-n c).In-Some in
    omega (arith, merging-some p.loop-joining.invariant (pick p))

pub loop-joining-smaller : goal.loop-joining-smaller
loop-joining-smaller c =
    let p = (goal.at.loop-joining-smaller c).In-Some in
    omega (arith, merging-some p.loop-joining.invariant (pick p))

pub loop-joining-preserved : goal.loop-joining-preserved
loop-joining-preserved c =
    let p = (goal.at.loop-joining-preserved c).In-Some in
    merging-next p.loop-joining.invariant (pick p) (rw c.merge_at.ensures)
