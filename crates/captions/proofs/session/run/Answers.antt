use Rattle.std.proofs.Common.{sym}
use Rattle.model.specs.Model.{columns}
use Rattle.model.proofs.AnswerLaws.{number-checked}
use Rattle.captions.proofs.session.run.Goals as goal

pub run_accepted-requires : goal.run_accepted-requires
run_accepted-requires c = sym (number-checked (columns c.args.model.now) _ c.in-Ok.ensures)
