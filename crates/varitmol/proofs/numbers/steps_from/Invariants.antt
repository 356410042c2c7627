-- `varitmol::numbers::steps_from` meets its contract: the first `i` steps stand in the array.
use Rattle.std.proofs.Common.{◌≡◌, length, take}
use Rattle.varitmol.specs.Numbers.{steps_from}
use Rattle.varitmol.proofs.numbers.steps_from.Given as goal

abbrev pub invariant-loop-i : goal.invariant-loop-i
invariant-loop-i l = (length l.steps ≡ 16) × (take l.i l.steps ≡ take l.i (steps_from l.kinds l.spans))
