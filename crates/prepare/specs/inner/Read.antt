-- The kind of split and the raw path that numbers stand for.
use Rattle.std.specs.Prelude.{ℕ, cond, eqb, Option, None, Some}
use Rattle.units.specs.declared.WordSplit.{WordSplit}
use Rattle.units.specs.declared.WordSplit.TheVariants as kind
use Rattle.units.specs.declared.RawPrepend.{RawPrepend}
use Rattle.units.specs.declared.RawPrepend.TheVariants as prepend

-- The kind of a number; from 2 on none.
unfoldable pub kind_from : ℕ → WordSplit
kind_from number = cond (eqb number 0) kind.SpaceRuns (cond (eqb number 1) kind.EveryMark kind.None)

-- The raw path of a number; above 4 there is none.
unfoldable pub raw_path_from : ℕ → Option RawPrepend
raw_path_from number =
    cond (eqb number 1) (Some prepend.Never)
    (cond (eqb number 2) (Some prepend.Unguarded)
    (cond (eqb number 3) (Some prepend.GuardedAlways) (cond (eqb number 4) (Some prepend.GuardedFirst) None)))
