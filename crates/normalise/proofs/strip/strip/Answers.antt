-- `normalise::strip::strip` meets its contract.
use Rattle.std.proofs.Common.{rules}
use Rattle.normalise.specs.Steps.{stripped}
use Rattle.normalise.proofs.strip.strip.Goals.{then-left, else-left, then-right, else-right}
use Rattle.normalise.proofs.strip.strip.Goals as goal

pub returns : goal.returns
unfolding stripped
returns c = search rules
