-- `index::pair_slot` meets its contract.
use mathlib.Core.Path.{refl}
use native.Mathlib.Omega.{arith}
use Rattle.index.specs.Index.{pair_slot}
use Rattle.index.proofs.pair_slot.Goals as goal

pub returns : goal.returns
unfolding pair_slot
returns c = (refl, omega arith)
