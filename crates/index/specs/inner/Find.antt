-- Where searches that begin from derived tables end, on any tables.
use Rattle.std.specs.Prelude.{ℕ, ◌+◌, ◌/◌, ◌^◌, min, Bool, cond, ◌&&◌, List, eqb, ltb, length, get_or, Option, None, Some}
use Rattle.utf8.specs.Lists.{same}
use Rattle.model.specs.Model.{no_id}
use Rattle.model.specs.Mark.{mark}
use Rattle.model.specs.inner.Search.{searched, piece_order, row_order, id_at}
use Rattle.index.specs.Index.{first_byte_words, bucket_words, slot_count, pair_slot, second_slot, shared, named_row}
use Rattle.index.specs.declared.Told.{Told}
use Rattle.index.specs.declared.Told.TheVariants.{Row, NoRow, Elsewhere}

-- The id that a number gives, where it does not stand for none.
unfoldable pub id_of : ℕ → Option ℕ
id_of id = cond (eqb id no_id) None (Some id)

-- Where the entries begin that a key's first byte has, and where they end: where the next byte's begin.
unfoldable pub key_start : List ℕ → List ℕ → ℕ
key_start first_bytes key = get_or first_bytes (get_or key 0 0) 0

unfoldable pub key_end : List ℕ → List ℕ → ℕ
key_end first_bytes key = get_or first_bytes (get_or key 0 0 + 1) 0

-- The id of a byte as a number, behind where first bytes begin.
unfoldable pub byte_word : List ℕ → ℕ → ℕ
byte_word first_bytes b = get_or first_bytes (first_byte_words + b) 0

-- The id of a key, by where first bytes begin, the ids of single bytes behind that, and the mark's id.
unfoldable pub id_from : List (List ℕ) → List ℕ → List ℕ → ℕ → List ℕ → Option ℕ
id_from pieces lookup first_bytes mark_id key =
    cond (eqb (length key) 1) (id_of (byte_word first_bytes (get_or key 0 0)))
    (cond (same key mark) (id_of mark_id)
    (id_at lookup (searched (piece_order pieces lookup key) (key_start first_bytes key) (min (key_end first_bytes key) (length lookup)))))

-- The place of a pair's row, by where the bucket of its left id begins and ends. A left id past the buckets has no row.
unfoldable pub row_between : List ℕ → List ℕ → List ℕ → ℕ → ℕ → ℕ → Option ℕ
row_between left right row_index shift l r =
    let b = l / 2 ^ shift in
    cond (ltb (b + 1) bucket_words) (searched (row_order left right l r) (get_or row_index b 0) (min (get_or row_index (b + 1) 0) (length left))) None

-- The words of a pair in the two pair tables, behind the buckets.
unfoldable pub pair_word : List ℕ → ℕ → ℕ → ℕ
pair_word row_index l r = get_or row_index (bucket_words + pair_slot l r) 0

unfoldable pub second_word : List ℕ → ℕ → ℕ → ℕ
second_word row_index l r = get_or row_index (bucket_words + slot_count + second_slot l r) 0

-- Whether there is a row at a place, and it is the pair's.
abbrev pub row_has : List ℕ → List ℕ → ℕ → ℕ → ℕ → Bool
row_has left right row l r = ltb row (length left) && (eqb (get_or left row 0) l && eqb (get_or right row 0) r)

-- What a word tells of its pair: the row which it names, where this is the pair's; nothing of it, where other rows share the slot.
unfoldable pub told : List ℕ → List ℕ → ℕ → ℕ → ℕ → Told
told left right word l r =
    cond (eqb word 0) NoRow
    (cond (row_has left right (named_row word) l r) (Row (named_row word))
    (cond (ltb word shared) NoRow Elsewhere))

-- What was told, or else what is found elsewhere.
abbrev pub told_or : Told → Option ℕ → Option ℕ
told_or (Row row) found = Some row
told_or NoRow found = None
told_or Elsewhere found = found

-- The place of a pair's row by the pair's word in the second table, or else by the search.
unfoldable pub row_beyond : List ℕ → List ℕ → List ℕ → ℕ → ℕ → ℕ → Option ℕ
row_beyond left right row_index shift l r = told_or (told left right (second_word row_index l r) l r) (row_between left right row_index shift l r)

-- The same by the word in the first table, or else by what is beyond it.
unfoldable pub row_from : List ℕ → List ℕ → List ℕ → ℕ → ℕ → ℕ → Option ℕ
row_from left right row_index shift l r = told_or (told left right (pair_word row_index l r) l r) (row_beyond left right row_index shift l r)
