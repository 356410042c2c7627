-- `normalise::prepend::prepend` meets its contract.
use Rattle.std.proofs.Common.{rules}
use Rattle.normalise.proofs.StepLaws.{prepended-empty, prepended-some}
use Rattle.normalise.proofs.prepend.prepend.Goals as goal

pub returns-then-is_empty : goal.returns-then-is_empty
returns-then-is_empty c = rw (prepended-empty c.args.content.now c.args.text.now (search rules)) c.put.ensures

pub returns : goal.returns
returns c = rw (prepended-some c.args.content.now c.args.text.now (search rules)) c.put-2.ensures
