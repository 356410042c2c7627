-- Starting ids as a search finds them, laid into a buffer that may be too short for them.
use Rattle.std.specs.Prelude.{ℕ, min, Bool, cond, ◌&&◌, List, [], ◌∷◌, ltb, eqb, length, Option}
use Rattle.utf8.specs.Lists.{join_map}
use Rattle.utf8.specs.Lists as lists
use Rattle.model.specs.Model.{strings, no_id}
use Rattle.model.specs.Mark.{mark}
use Rattle.index.specs.inner.Find.{byte_word, id_from}
use Rattle.merge.specs.Start.{starting_ids_by, is_dropped_by, unit_chars}
use Rattle.index.specs.declared.PieceIndex.{PieceIndex}
use Rattle.merge.specs.declared.Symbols.{Symbols}

-- The id at which a search for a character's piece ends, on any tables.
unfoldable pub own_found : List ℕ → List ℕ → List ℕ → List ℕ → ℕ → List ℕ → Option ℕ
own_found piece_bytes piece_offsets lookup first_bytes mark_id char = id_from (strings piece_bytes piece_offsets) lookup first_bytes mark_id char

-- The same by the tables of an index.
abbrev pub own_by : PieceIndex → List ℕ → Option ℕ
own_by p = own_found p.pieces.bytes.now p.pieces.offsets.now p.lookup.now p.words.now p.mark_id

-- The id of a byte that is a character by itself, as a number; a raw space has the mark's. None for any other byte.
unfoldable pub byte_own : List ℕ → ℕ → Bool → ℕ → ℕ
byte_own first_bytes mark_id raw b = cond (ltb b 0x80) (cond (raw && eqb b 0x20) mark_id (byte_word first_bytes b)) no_id

-- The characters of a unit with its virtual mark, where it has one.
unfoldable pub marked_chars : Bool → Bool → List ℕ → List (List ℕ)
marked_chars virtual raw unit = cond virtual (mark ∷ unit_chars raw unit) (unit_chars raw unit)

-- Ids over the front of a buffer, as far as it goes.
abbrev pub laid : List ℕ → List ℕ → List ℕ
laid [] out = out
laid (id ∷ ids) [] = []
laid (id ∷ ids) (cell ∷ out) = id ∷ laid ids out

-- What a walk gives, and the buffer after it.
pub record Laid : Type 0 where
  pub symbols : Symbols
  pub out : List ℕ

-- How many of the ids there is room for, and the drops.
abbrev pub symbols_in : List ℕ → ℕ → ℕ → Symbols
symbols_in ids drops room = record { count = min (length ids) room; drops = drops }

abbrev pub laid_in : List ℕ → ℕ → List ℕ → Laid
laid_in ids drops out = record { symbols = symbols_in ids drops (length out); out = laid ids out }

-- One character.
unfoldable pub char_laid : (List ℕ → Option ℕ) → List ℕ → List ℕ → List ℕ → Laid
char_laid own fallback char out = laid_in (starting_ids_by own fallback char) (cond (is_dropped_by own fallback char) 1 0) out

-- The characters of a unit: their ids and drops in a buffer, and as a count alone.
unfoldable pub unit_laid : (List ℕ → Option ℕ) → List ℕ → List (List ℕ) → List ℕ → Laid
unit_laid own fallback chars out = laid_in (join_map (starting_ids_by own fallback) chars) (lists.count (is_dropped_by own fallback) chars) out

unfoldable pub unit_symbols : (List ℕ → Option ℕ) → List ℕ → List (List ℕ) → ℕ → Symbols
unit_symbols own fallback chars room = symbols_in (join_map (starting_ids_by own fallback) chars) (lists.count (is_dropped_by own fallback) chars) room
