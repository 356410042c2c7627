-- What an encoder writes, by the tables in it.
use Rattle.std.specs.Prelude.{ℕ, Bool, false, List, Option}
use Rattle.utf8.specs.Lists.{join_map}
use Rattle.units.specs.Units.{begins_unit}
use Rattle.units.specs.inner.Read.{pair_noted, crossings_in}
use Rattle.units.specs.inner.Next.{units_from}
use Rattle.merge.specs.Start.{starting_ids_by}
use Rattle.merge.specs.inner.Laid.{own_by}
use Rattle.merge.specs.inner.Turns.{row_by}
use Rattle.merge.specs.declared.Speller.{Speller}
use Rattle.stretches.specs.declared.Encoder.{Encoder}
use Rattle.stretches.specs.inner.Writers.{Writer, in_turn, unit_writer, unit_writers, stretch_writer}

-- The id of a character.
abbrev pub own_with : Speller → List ℕ → Option ℕ
own_with s = own_by s.index

-- Where a unit starts.
abbrev pub cuts_by : Encoder → Bool → List ℕ → ℕ → Bool
cuts_by e raw bytes = begins_unit e.cutter.kind (crossings_in e.cutter) (pair_noted e.cutter.adjacency.now) raw bytes

-- The starting ids of a unit, given as its characters.
abbrev pub spelled_by : Encoder → List (List ℕ) → List ℕ
spelled_by e chars = join_map (starting_ids_by (own_with e.speller) e.speller.fallback.now) chars

-- Its ids.
abbrev pub unit_by : Encoder → List (List ℕ) → Writer
unit_by e = unit_writer (row_by e.rows) (own_with e.speller) e.speller.fallback.now

-- Units that have no virtual mark,
abbrev pub units_by : Encoder → Bool → List (List ℕ) → List Writer
units_by e raw units = unit_writers (row_by e.rows) (own_with e.speller) e.speller.fallback.now false raw units

-- those from a place on,
abbrev pub rest_by : Encoder → Bool → List ℕ → ℕ → Writer
rest_by e raw bytes start = in_turn (units_by e raw (units_from (cuts_by e raw bytes) bytes start))

-- and a stretch.
abbrev pub stretch_by : Encoder → Bool → Bool → List ℕ → Writer
stretch_by e virtual raw bytes = stretch_writer (row_by e.rows) (own_with e.speller) e.speller.fallback.now (cuts_by e raw bytes) virtual raw bytes
