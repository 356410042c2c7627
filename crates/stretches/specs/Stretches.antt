-- Stretches of bytes, which are cut into units, and the tokens beside them: their ids, drops and starting ids.
use Rattle.std.specs.Prelude.{ℕ, min, Bool, cond, List, [], ◌∷◌, map, length}
use Rattle.utf8.specs.Lists.{is_empty, join, join_map, count}
use Rattle.model.specs.Model.{Model, row_of, merge_rows}
use Rattle.units.specs.Units.{units}
use Rattle.merge.specs.Start.{vocabulary_of, starting_ids, is_dropped, unit_chars, with_virtual_mark}
use Rattle.merge.specs.Merge.{merged}
use Rattle.sections.specs.Sections.{Item, token, plain}

-- A stretch of bytes: on the raw path a section of the text, off it a normalized part.
pub record Stretch : Type 0 where
  pub bytes : List ℕ
  pub virtual : Bool
  pub raw : Bool

-- Nothing stands for no bytes.
unfoldable pub stretch : List ℕ → Bool → Bool → List (Item Stretch)
stretch bytes virtual raw = cond (is_empty bytes) [] (plain (record { bytes = bytes; virtual = virtual; raw = raw }) ∷ [])

-- The units of a stretch, each as its characters.
unfoldable pub stretch_units : Model → Stretch → List (List (List ℕ))
stretch_units m s = with_virtual_mark s.virtual (map (unit_chars s.raw) (units m s.raw s.bytes))

-- The starting ids of a unit, merged.
unfoldable pub unit_ids : Model → List (List ℕ) → List ℕ
unit_ids m unit = merged (row_of (merge_rows m)) (join_map (starting_ids (vocabulary_of m)) unit)

unfoldable pub ids_of : Model → Item Stretch → List ℕ
ids_of m (token id) = id ∷ []
ids_of m (plain s) = join_map (unit_ids m) (stretch_units m s)

-- Rule 9.4: the drops of a stretch.
unfoldable pub drops_of : Model → Item Stretch → ℕ
drops_of m (token id) = 0
drops_of m (plain s) = count (is_dropped (vocabulary_of m)) (join (stretch_units m s))

-- Rule 3.5: the cells that a part needs before any merge.
unfoldable pub starts_of : Model → Item Stretch → ℕ
starts_of m (token id) = 1
starts_of m (plain s) = length (join_map (starting_ids (vocabulary_of m)) (join (stretch_units m s)))

-- A count as an answer holds it: its fields end at 2^64 - 1 (rule 3.6).
abbrev pub held : ℕ → ℕ
held count = min count 18446744073709551615
