-- `encode::normal::stepped` meets its contract, by where the text stands.
use native.Mathlib.Omega.{arith}
use mathlib.Core.Path.{ap, ◌∙◌}
use Rattle.std.specs.Prelude.{Some}
use Rattle.encode.proofs.SteppedLaws.{steps-long, stepped-given, stepped-a, stepped-b}
use Rattle.encode.proofs.normal.stepped.Goals as goal

pub returns-in_err-run_steps : goal.returns-in_err-run_steps
returns-in_err-run_steps c =
    rw c.from_residual.ensures (steps-long _ _ c.args.section.now c.args.room c.args.a.now c.args.b.now c.requires.0 c.requires.1 c.run_steps.ensures c.in_err-run_steps.was)

pub returns-in-Given : goal.returns-in-Given
returns-in-Given c = (
  stepped-given _ _ c.args.section.now c.args.room c.args.a.now c.args.b.now c.requires.0 c.requires.1 c.run_steps.ensures (c.in_ok-run_steps.was ∙ ap Some c.in-Given.is),
  omega (arith, c.requires.0),
)

pub returns-in-InA : goal.returns-in-InA
returns-in-InA c = (
  stepped-a _ _ c.args.section.now c.args.room c.args.a.now c.args.b.now c.requires.0 c.requires.1 c.run_steps.ensures (c.in_ok-run_steps.was ∙ ap Some c.in-InA.is) c.part.ensures,
  omega (arith, c.requires.1),
)

pub returns-in-InB : goal.returns-in-InB
returns-in-InB c = (
  stepped-b _ _ c.args.section.now c.args.room c.args.a.now c.args.b.now c.requires.0 c.requires.1 c.run_steps.ensures (c.in_ok-run_steps.was ∙ ap Some c.in-InB.is) c.part-in-InB.ensures,
  omega (arith, c.requires.0),
)
