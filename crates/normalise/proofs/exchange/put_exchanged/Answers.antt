-- `normalise::exchange::put_exchanged` meets its contract.
use Rattle.std.proofs.Common.{◌++◌}
use Rattle.normalise.proofs.FitLaws.{Answered, answered, put-within, put_fits, put_too_long}
use Rattle.normalise.proofs.exchange.put_exchanged.Given.{Over}
use Rattle.normalise.proofs.exchange.put_exchanged.Goals.{After-exchanged_length}
use Rattle.normalise.proofs.exchange.put_exchanged.Goals as goal

measured : (g : Over) (c : After-exchanged_length g) → Answered (c.args.lead.now ++ g.E.Exchange.exchanged c.args.exchange.now c.args.text.now) c.args.room c.args.out.now c.exchanged_length.result
measured g c = answered c.min.result c.min.ensures c.exchanged_length.ensures

pub returns-in_err-n : goal.returns-in_err-n
returns-in_err-n g c = put_too_long (measured g (goal.at.returns-in_err-n g c).After-exchanged_length) c.from_residual.ensures c.in_err-n.was

pub write_exchanged-requires : goal.write_exchanged-requires
write_exchanged-requires g c = put-within (measured g (goal.at.write_exchanged-requires g c).After-exchanged_length) c.in_ok-n.was

pub returns : goal.returns
returns g c = put_fits (measured g (goal.at.returns g c).After-exchanged_length) c.in_ok-n.was c.write_exchanged.ensures
