-- Parts, tokens and stretches, one after the other: what is counted of them, and how they are written.
use Rattle.std.specs.Prelude.{ℕ, min, List, [], ◌∷◌, map, length, Option}
use Rattle.utf8.specs.Lists.{join_map, sum}
use Rattle.utf8.specs.Lists as lists
use Rattle.merge.specs.Start.{starting_ids_by, is_dropped_by}
use Rattle.merge.specs.inner.Laid.{laid, marked_chars}
use Rattle.merge.specs.declared.Symbols.{Symbols}
use Rattle.sections.specs.Sections.{Item, token, plain}
use Rattle.stretches.specs.Stretches.{Stretch, held}
use Rattle.stretches.specs.inner.Writers.{Writer, in_turn}
use Rattle.stretches.specs.inner.Tables.{Tables, stretch_in}

-- The starting ids of a part, and its drops; a token is one id.
unfoldable pub part_starts : (List ℕ → Option ℕ) → List ℕ → Item Stretch → ℕ
part_starts own fallback (token id) = 1
part_starts own fallback (plain s) = length (join_map (starting_ids_by own fallback) (marked_chars s.virtual s.raw s.bytes))

unfoldable pub part_drops : (List ℕ → Option ℕ) → List ℕ → Item Stretch → ℕ
part_drops own fallback (token id) = 0
part_drops own fallback (plain s) = lists.count (is_dropped_by own fallback) (marked_chars s.virtual s.raw s.bytes)

-- How many starting ids there are, counted up to a room, and how many drops, as far as an answer can tell.
unfoldable pub parts_symbols : (List ℕ → Option ℕ) → List ℕ → List (Item Stretch) → ℕ → Symbols
parts_symbols own fallback parts room =
    record { count = min (sum (map (part_starts own fallback) parts)) room; drops = held (sum (map (part_drops own fallback) parts)) }

-- One id, where there is a cell for it.
unfoldable pub id_writer : ℕ → Writer
id_writer id out = record { count = min 1 (length out); ids = laid (id ∷ []) out }

unfoldable pub part_writer : Tables → Item Stretch → Writer
part_writer t (token id) = id_writer id
part_writer t (plain s) = stretch_in t s.virtual s.raw s.bytes

-- All of them, each behind what the ones before left.
unfoldable pub parts_writer : Tables → List (Item Stretch) → Writer
parts_writer t parts = in_turn (map (part_writer t) parts)
