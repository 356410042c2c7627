-- The raw path by what its tests look at.
use Rattle.std.specs.Prelude.{ℕ, Bool, not, cond, ◌||◌, List, Option, None}
use Rattle.model.specs.declared.Step.{Step}
use Rattle.model.specs.declared.Metaspace.{Metaspace}
use Rattle.units.specs.Kinds.{is_none, raw_path_of}
use Rattle.units.specs.declared.RawPrepend.{RawPrepend}
use Rattle.units.specs.declared.WordSplit.{WordSplit}

-- The raw path by the kind, and whether the second token list is empty.
unfoldable pub raw_path_by : WordSplit → Bool → List ℕ → List Step → Option Metaspace → Option RawPrepend
raw_path_by kind empty bytes steps metaspace = cond (is_none kind || not empty) None (raw_path_of bytes steps metaspace)
