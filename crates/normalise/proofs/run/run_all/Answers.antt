-- `normalise::run::run_all` meets its contract: what the steps leave, and then metaspace.
use Rattle.std.proofs.Common.{sym}
use Rattle.normalise.specs.inner.Run.{normal_run, metaspace_run}
use Rattle.normalise.proofs.RunLaws.{metaspace_too_long}
use Rattle.normalise.proofs.run.run_all.Goals as goal

pub returns-in_err-stepped : goal.returns-in_err-stepped
unfolding normal_run
returns-in_err-stepped c = rw (c.from_residual.ensures, ← c.in_err-stepped.ensures) (sym (metaspace_too_long c.args.metaspace c.args.first c.args.text.now c.args.room c.run_steps.new.a c.run_steps.new.b))

pub returns-in-None : goal.returns-in-None
unfolding normal_run metaspace_run
returns-in-None c = rw c.in-None.is c.in_ok-stepped.ensures

pub returns-in-Some : goal.returns-in-Some
unfolding normal_run metaspace_run
returns-in-Some c = rw (c.in-Some.is, ← c.in_ok-stepped.ensures) c.turn.ensures
