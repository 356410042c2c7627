-- `index::second_slot` meets its contract.
use mathlib.Core.Path.{refl}
use native.Mathlib.Omega.{arith}
use Rattle.index.specs.Index.{second_slot}
use Rattle.index.proofs.second_slot.Goals as goal

pub returns : goal.returns
unfolding second_slot
returns c = (refl, omega arith)
