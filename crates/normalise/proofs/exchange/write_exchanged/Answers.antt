-- `normalise::exchange::write_exchanged` meets its contract.
use Rattle.std.proofs.Common.{◌∙◌, ap, drop_of_length-le, rules, arith}
use Rattle.utf8.proofs.Writing.{written_byte, written_fits, written-part, written-ended}
use Rattle.normalise.proofs.HeadLaws.{kept_byte, found_part, found_within}
use Rattle.normalise.proofs.exchange.write_exchanged.Goals as goal

pub loop-i-preserved-in-None : goal.loop-i-preserved-in-None
loop-i-preserved-in-None g c = (
  search rules,
  written_byte c.requires c.loop-i.invariant.1 (kept_byte (g.E.Exchange.exchanged c.args.exchange.now) (g.E.Exchange.content c.args.exchange.now) c.args.text.now c.loop-i.i c.loop-i-test.true c.in-None.ensures),
)

pub copy_at-requires-in-Some : goal.copy_at-requires-in-Some
copy_at-requires-in-Some g c =
    written_fits c.requires c.loop-i.invariant.1 (found_part (g.E.Exchange.exchanged c.args.exchange.now) (g.E.Exchange.content c.args.exchange.now) c.args.text.now c.loop-i.i c.content-content.ensures c.in-Some.ensures)

pub loop-i-preserved : goal.loop-i-preserved
loop-i-preserved g c = (
  (found_within (g.E.Exchange.exchanged c.args.exchange.now) (g.E.Exchange.content c.args.exchange.now) c.args.text.now c.loop-i.i c.loop-i-test.true c.in-Some.ensures).1,
  rw c.copy_at-in-Some.ensures (written-part c.requires c.loop-i.invariant.1 (found_part (g.E.Exchange.exchanged c.args.exchange.now) (g.E.Exchange.content c.args.exchange.now) c.args.text.now c.loop-i.i c.content-content.ensures c.in-Some.ensures)),
)

pub returns : goal.returns
returns g c =
    let e = c.args.exchange.now in
    written-ended c.requires c.loop-i.invariant.1 (ap (g.E.Exchange.exchanged e) (drop_of_length-le c.args.text.now (omega arith)) ∙ g.met.E.Exchange.ends e)
