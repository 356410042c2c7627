-- The kind of split and the raw path as numbers (rule 15.3).
use Rattle.std.specs.Prelude.{ℕ, Option, None, Some}
use Rattle.units.specs.declared.WordSplit.{WordSplit}
use Rattle.units.specs.declared.WordSplit.TheVariants as kind
use Rattle.units.specs.declared.RawPrepend.{RawPrepend}
use Rattle.units.specs.declared.RawPrepend.TheVariants as prepend

unfoldable pub kind_number : WordSplit → ℕ
kind_number kind.SpaceRuns = 0
kind_number kind.EveryMark = 1
kind_number kind.None = 2

unfoldable pub raw_path_number : Option RawPrepend → ℕ
raw_path_number None = 0
raw_path_number (Some prepend.Never) = 1
raw_path_number (Some prepend.Unguarded) = 2
raw_path_number (Some prepend.GuardedAlways) = 3
raw_path_number (Some prepend.GuardedFirst) = 4
