use mathlib.Core.Path.{ap, ◌∙◌}
use Prim.Native.Nat.{◌+◌}
use native.Mathlib.Omega.{arith}
use borrow.Author.Rules.{rules}
use lib.ListN.{length, get_or}
use Rattle.utf8.specs.Lists.{below}
use Rattle.index.specs.Index.{pair_slot}
use Rattle.index.proofs.PairLaws.{length-table}
use Rattle.prepare.proofs.PairLaws.{first_cleared, first_next, first_ended}
use Rattle.prepare.proofs.pairs.fill_first.Goals as goal

pub loop-i-init : goal.loop-i-init
loop-i-init c =
    let cleared = c.clear in
    let table = first_cleared c.args.rows.now.left.now c.args.rows.now.right.now c.args.rows.now.rank.now 131072 c.args.words.now cleared.new.out c.requires.words_len cleared.ensures in
    (search rules, ap length table ∙ length-table pair_slot 131072 c.args.rows.now.left.now c.args.rows.now.right.now c.args.rows.now.rank.now (below 0), table)

pub loop-i-preserved : goal.loop-i-preserved
loop-i-preserved c =
    let l = c.loop-i in
    let next =
    first_next c.args.rows.now.left.now c.args.rows.now.right.now c.args.rows.now.rank.now 131072 l.i l.words c.pair_slot-slot.result c.word_with.result l.invariant.2 (omega (arith, c.requires.left_len_bound, c.loop-i-test.true))
    c.pair_slot-slot.ensures.1 (c.pair_slot-slot.ensures.0 ∙ ap (pair_slot (get_or c.args.rows.now.left.now l.i 0)) c.number_at.ensures) c.word_with.ensures in
    (search rules, ap length next ∙ length-table pair_slot 131072 c.args.rows.now.left.now c.args.rows.now.right.now c.args.rows.now.rank.now (below (l.i + 1)), next)

pub returns : goal.returns
returns c =
    c.loop-i.invariant.2 ∙ first_ended c.args.rows.now.left.now c.args.rows.now.right.now c.args.rows.now.rank.now c.loop-i.i (omega (arith, c.loop-i.invariant.0, c.loop-i-test.false))
