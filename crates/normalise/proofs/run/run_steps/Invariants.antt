-- `normalise::run::run_steps` meets its contract. The loop's invariant: the steps that are left take the run to its end.
use Rattle.std.proofs.Common.{◌≡◌, drop, take}
use Rattle.std.specs.Prelude.{Some}
use Rattle.normalise.specs.Steps.{applied}
use Rattle.normalise.specs.inner.Run.{steps_run}
use Rattle.normalise.specs.declared.Ran.TheVariants.{Given}
use Rattle.normalise.proofs.run.run_steps.Given as goal

abbrev pub ghost-turn : goal.ghost-turn
ghost-turn a = applied a.apply.0.now a.apply.1.now

abbrev pub invariant-loop-step : goal.invariant-loop-step
invariant-loop-step l =
    steps_run l.steps.bytes.now (take l.steps.count l.steps.list) l.text l.room (record { ran = Some Given; a = l.initial.a; b = l.initial.b })
    ≡ steps_run l.steps.bytes.now (drop l.step-index l.step-items) l.text l.room (record { ran = Some l.ran; a = l.a; b = l.b })
