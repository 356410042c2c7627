use Rattle.std.proofs.Common.{sym, ap, ◌∙◌, arith}
use Rattle.model.specs.ByteOrder.{is_less}
use Rattle.model.proofs.OrderLaws.{is_lt-is_less}
use Rattle.model.proofs.RowLaws.{ascend_start, ascend_next, ascend_broken, ascend_ended}
use Rattle.model.proofs.rows.rows_ascend.Goals as goal

pub loop-i-init : goal.loop-i-init
loop-i-init c = ascend_start c.args.left.now c.args.right.now

pub returns-then-not-is_lt : goal.returns-then-not-is_lt
returns-then-not-is_lt c =
    let l = c.loop-i in
    sym (l.invariant ∙ ascend_broken c.args.left.now c.args.right.now l.i (omega arith) (omega arith) (ap is_less (sym c.pair_order.ensures) ∙ sym (is_lt-is_less c.pair_order.result) ∙ sym c.is_lt.ensures ∙ c.if-not-is_lt.true))

pub loop-i-preserved : goal.loop-i-preserved
loop-i-preserved c =
    let l = c.loop-i in
    l.invariant ∙ ascend_next c.args.left.now c.args.right.now l.i (omega arith) (omega arith) (ap is_less (sym c.pair_order.ensures) ∙ sym (is_lt-is_less c.pair_order.result) ∙ sym c.is_lt.ensures ∙ c.if-not-is_lt.false)

pub returns : goal.returns
returns c = let l = c.loop-i in sym (l.invariant ∙ ascend_ended c.args.left.now c.args.right.now l.i (omega arith))
