use Prim.Native.Nat.{◌+◌, ◌≤◌}
use native.Mathlib.Omega.{arith}
use mathlib.Core.Path.{refl}
use lib.ListN.{length}
use Rattle.merge.specs.inner.Turns.{row_by}
use Rattle.merge.proofs.TurnLaws.{best_start, best_missing, best_lower, best_kept, best_none, best_merge}
use Rattle.merge.proofs.ranked.next_merge.Goals as goal
use Rattle.merge.proofs.ranked.next_merge.Goals.{in-Some+then-this-best, in-Some+else-this-best, in_default}

pub loop-place-init : goal.loop-place-init
loop-place-init c = best_start (row_by c.args.rows.now) c.args.ids.now c.args.rows.now.rows.result.now 0 0

pub loop-place-preserved : goal.loop-place-preserved
loop-place-preserved c =
    let x = c.args.rows.now in
    let l = c.loop-place in
    elim c.match-find.branch [
      | in-Some+then-this-best w ↦ rw (w.best-is, w.best_place-is, w.best_row-is) (best_lower x.rows.left.now x.rows.right.now x.rows.result.now x.rows.rank.now x.words.now x.shift c.args.ids.now l.invariant refl (omega arith) c.find.ensures w.in-Some.is w.number_at-this.ensures w.number_at-this.type_inv w.if-this-best.true)
      | in-Some+else-this-best w ↦ rw (w.best-is, w.best_place-is, w.best_row-is) (best_kept x.rows.left.now x.rows.right.now x.rows.result.now x.rows.rank.now x.words.now x.shift c.args.ids.now l.invariant refl (omega arith) c.find.ensures w.in-Some.is w.number_at-this.ensures w.number_at-this.type_inv w.if-this-best.false)
      | in_default w ↦ rw (w.best-is, w.best_place-is, w.best_row-is) (best_missing x.rows.left.now x.rows.right.now x.rows.result.now x.rows.rank.now x.words.now x.shift c.args.ids.now l.invariant refl (omega arith) c.find.ensures w.in_default.is)
    ]

pub returns-then-best-ge-NO_RANK : goal.returns-then-best-ge-NO_RANK
returns-then-best-ge-NO_RANK c =
    let last : length c.args.ids.now ≤ c.loop-place.place + 1 = omega arith in
    best_none (row_by c.args.rows.now) c.args.ids.now c.args.rows.now.rows.result.now c.loop-place.invariant last c.if-best-ge-NO_RANK.true

pub returns : goal.returns
returns c =
    let last : length c.args.ids.now ≤ c.loop-place.place + 1 = omega arith in
    best_merge (row_by c.args.rows.now) c.args.ids.now c.args.rows.now.rows.result.now c.loop-place.invariant last c.if-best-ge-NO_RANK.false c.number_at.ensures
