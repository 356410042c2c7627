-- `normalise::collapse::SpaceRunsExchange::found` meets its contract.
use Rattle.std.proofs.Common.{◌∙◌, arith}
use Rattle.normalise.proofs.SpaceRunLaws.{space_run-counted}
use Rattle.normalise.proofs.StepLaws.{collapsed-run, collapsed_byte}
use Rattle.normalise.proofs.collapse.SpaceRunsExchange.found.Goals as goal

pub returns-then-run-lt2 : goal.returns-then-run-lt2
returns-then-run-lt2 c = collapsed_byte c.args.self.now.content.now c.args.rest.now c.requires (omega (arith, c.space_run-run.ensures, space_run-counted c.args.rest.now))

pub returns-else-run-lt2 : goal.returns-else-run-lt2
returns-else-run-lt2 c = collapsed-run c.args.self.now.content.now c.args.rest.now c.requires _ (c.space_run-run.ensures ∙ space_run-counted c.args.rest.now) (omega arith)
