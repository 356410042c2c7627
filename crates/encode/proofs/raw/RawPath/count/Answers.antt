-- `encode::raw::RawPath::count` meets its contract.
use mathlib.Core.Path.{ap}
use Rattle.std.specs.Prelude.{Some}
use Rattle.normalise.specs.Normalise.{outgrows}
use Rattle.encode.proofs.PassLaws.{counted_marked}
use Rattle.encode.proofs.raw.RawPath.count.Goals as goal

pub returns : goal.returns
unfolding outgrows
returns c = ap Some (counted_marked _ _ _ _ _ _ c.count_stretch.ensures c.virtual_mark-mark.ensures)
