-- `normalise::finish::finish` meets its contract: the result is copied, and what is behind it filled.
use Rattle.std.proofs.Common.{zero-add, rules}
use Rattle.normalise.proofs.FinishLaws.{finished_short, finished_fits}
use Rattle.normalise.proofs.finish.finish.Goals as goal

pub returns-then-out-res : goal.returns-then-out-res
returns-then-out-res c = finished_short c.args.res.now c.args.out.now c.if-out-res.true

pub returns : goal.returns
returns c = rw (c.copy_at.ensures, zero-add) (finished_fits c.args.res.now c.args.out.now c.if-out-res.false (c.fill.ensures.after (search rules)) (search rules))
