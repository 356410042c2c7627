use Rattle.merge.proofs.KeyLaws.{lowest_start, lowest_lower, lowest-kept, lowest-none, lowest-some}
use Rattle.merge.proofs.kept.next_kept.Goals as goal
use Rattle.merge.proofs.kept.next_kept.Goals.{then-this-lowest, else-this-lowest}

pub loop-i-init : goal.loop-i-init
loop-i-init c =
    let s = c.args in
    lowest_start s.res.now s.keys.now 0 0

pub loop-i-preserved : goal.loop-i-preserved
loop-i-preserved c =
    elim c.if-this-lowest.branch [
      | then-this-lowest w ↦ rw (w.lowest-is, w.best_place-is, w.best_key-is) (lowest_lower c.args.res.now c.args.keys.now c.loop-i.invariant c.loop-i-test.true w.if-this-lowest.true)
      | else-this-lowest w ↦ rw (w.lowest-is, w.best_place-is, w.best_key-is) (lowest-kept c.args.res.now c.args.keys.now c.loop-i.invariant c.loop-i-test.true w.if-this-lowest.false)
    ]

pub returns-then-lowest-ge-NO_RANK : goal.returns-then-lowest-ge-NO_RANK
returns-then-lowest-ge-NO_RANK c =
    lowest-none c.args.res.now c.args.keys.now c.loop-i.invariant c.loop-i-test.false c.if-lowest-ge-NO_RANK.true

pub returns : goal.returns
returns c =
    lowest-some c.args.res.now c.args.keys.now c.loop-i.invariant c.loop-i-test.false c.if-lowest-ge-NO_RANK.false c.number_at.ensures
