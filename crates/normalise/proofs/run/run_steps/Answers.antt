-- `normalise::run::run_steps` meets its contract.
use Rattle.normalise.proofs.RunLaws.{steps_stop}
use Rattle.normalise.proofs.run.run_steps.Goals as goal

pub returns-in_err-ran : goal.returns-in_err-ran
returns-in_err-ran c = rw c.from_residual.ensures (steps_stop c.args.steps.now.bytes.now _ c.loop-step.step-index _ c.args.text.now c.args.room c.turn.new.a c.turn.new.b _ c.loop-step-test.true c.loop-step.invariant c.in_err-ran.ensures)
