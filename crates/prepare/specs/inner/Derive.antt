-- The index by the tables that it is derived of.
use Rattle.std.specs.Prelude.{List, ℕ, Option}
use Rattle.utf8.specs.Lists.{is_empty}
use Rattle.model.specs.declared.Step.{Step}
use Rattle.model.specs.declared.Metaspace.{Metaspace}
use Rattle.units.specs.Kinds.{crossings, word_split}
use Rattle.units.specs.Derived.{noting}
use Rattle.units.specs.inner.Path.{raw_path_by}
use Rattle.prepare.specs.Layout.{index_row}
use Rattle.prepare.specs.Numbers.{kind_number, raw_path_number}

unfoldable pub index_of : List (List ℕ) → List ℕ → List ℕ → List ℕ → List ℕ → List (List ℕ) → List (List ℕ) → List ℕ → List Step → Option Metaspace → List ℕ
index_of pieces lookup left right rank first second step_bytes steps metaspace =
    let kind = word_split (crossings pieces) metaspace in
    let noted = noting pieces kind in
    index_row (kind_number kind) (raw_path_number (raw_path_by kind (is_empty second) step_bytes steps metaspace)) noted.count noted.noted pieces lookup left right rank first second
