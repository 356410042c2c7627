-- What is derived of the two sorted tables once (rule 15.3), so that a search in them begins near its end: where each first byte begins in
-- the lookup list, the ids of the mark and of single bytes, where each bucket of left ids begins in the merge rows, and two tables that
-- name the row of nearly every pair.
use Rattle.std.specs.Prelude.{ℕ, ◌+◌, ◌-◌, ◌*◌, ◌/◌, ◌%◌, ◌^◌, Bool, cond, not, List, [], ◌∷◌, ◌++◌, map, ltb, eqb, length, get_or, Option, None, Some}
use Rattle.utf8.specs.Lists.{filter, take_while, below}
use Rattle.model.specs.Model.{piece, lookup_id, no_id}
use Rattle.model.specs.Mark.{mark}

-- How many entries at the front of the lookup list have pieces whose first byte is below b.
unfoldable pub first_byte_start : List (List ℕ) → List ℕ → ℕ → ℕ
first_byte_start pieces lookup b = length (take_while (λ (id : ℕ). ltb (get_or (piece pieces id) 0 0) b) lookup)

-- Where the entries of each byte begin, and at last where they end.
abbrev pub first_byte_words : ℕ
first_byte_words = 257

unfoldable pub first_bytes : List (List ℕ) → List ℕ → List ℕ
first_bytes pieces lookup = map (first_byte_start pieces lookup) (below first_byte_words)

-- An id as a number, 4,294,967,295 for none.
abbrev pub id_or : Option ℕ → ℕ
id_or None = no_id
id_or (Some id) = id

-- The id that the lookup list gives a key.
unfoldable pub key_id : List (List ℕ) → List ℕ → List ℕ → ℕ
key_id pieces lookup key = id_or (lookup_id pieces lookup key)

unfoldable pub mark_id : List (List ℕ) → List ℕ → ℕ
mark_id pieces lookup = key_id pieces lookup mark

unfoldable pub byte_id : List (List ℕ) → List ℕ → ℕ → ℕ
byte_id pieces lookup b = key_id pieces lookup (b ∷ [])

-- The ids of the pieces that are one byte alone.
unfoldable pub byte_ids : List (List ℕ) → List ℕ → List ℕ
byte_ids pieces lookup = map (byte_id pieces lookup) (below 256)

-- All that is derived of the lookup list, but for the mark's id.
unfoldable pub piece_index : List (List ℕ) → List ℕ → List ℕ
piece_index pieces lookup = first_bytes pieces lookup ++ byte_ids pieces lookup

-- A bucket holds 2^shift left ids. The least shift, up to 7, that makes the piece count fit into 4,096 buckets.
unfoldable pub bucket_shift : ℕ → ℕ
bucket_shift piece_count = length (take_while (λ (shift : ℕ). ltb (4096 * 2 ^ shift) piece_count) (below 7))

-- How many rows at the front have a left id below those of the bucket b.
unfoldable pub bucket_start : List ℕ → ℕ → ℕ → ℕ
bucket_start left shift b = length (take_while (λ (l : ℕ). ltb l (b * 2 ^ shift)) left)

-- Where the rows of each bucket begin, and at last where they end.
abbrev pub bucket_words : ℕ
bucket_words = 4097

unfoldable pub buckets : List ℕ → ℕ → List ℕ
buckets left shift = map (bucket_start left shift) (below bucket_words)

-- Rule 15.4: the pair tables. A pair of ids belongs to one of 131,072 slots of the first, and to one of 32,768 of the second, by odd numbers below
-- 2^31 that spread the pairs.
abbrev pub slot_count : ℕ
slot_count = 131072

unfoldable pub pair_slot : ℕ → ℕ → ℕ
pair_slot l r = ((l * 1327217885 + r * 1123411259) / 32768) % slot_count

abbrev pub second_slot_count : ℕ
second_slot_count = 32768

unfoldable pub second_slot : ℕ → ℕ → ℕ
second_slot l r = ((l * 1123411259 + r * 1640531527) / 131072) % second_slot_count

-- The slot of a row's pair, in a table that spreads the pairs so.
abbrev pub row_slot : (ℕ → ℕ → ℕ) → List ℕ → List ℕ → ℕ → ℕ
row_slot spread left right i = spread (get_or left i 0) (get_or right i 0)

-- Those of the rows whose pairs belong to a slot, in their order.
unfoldable pub slot_rows : (ℕ → ℕ → ℕ) → List ℕ → List ℕ → List ℕ → ℕ → List ℕ
slot_rows spread left right rows slot = filter (λ (i : ℕ). eqb (row_slot spread left right i) slot) rows

-- The row of lowest rank, the first of equals: of i and those that follow it.
abbrev pub lowest_row : List ℕ → ℕ → List ℕ → ℕ
lowest_row rank i [] = i
lowest_row rank i (j ∷ rows) = lowest_row rank (cond (ltb (get_or rank j 0) (get_or rank i 0)) j i) rows

-- What a word has more where several rows share its slot.
abbrev pub shared : ℕ
shared = 2147483648

-- The word of a slot with these rows: 0 for none, or one more than the place of the row; where there are several, of that with the lowest rank.
unfoldable pub slot_word : List ℕ → List ℕ → ℕ
slot_word rank [] = 0
slot_word rank (i ∷ []) = i + 1
slot_word rank (i ∷ j ∷ rows) = lowest_row rank i (j ∷ rows) + 1 + shared

-- The row that a word names.
abbrev pub named_row : ℕ → ℕ
named_row word = word % shared - 1

-- The words of a table with so many slots, over some of the rows.
unfoldable pub table_words : (ℕ → ℕ → ℕ) → ℕ → List ℕ → List ℕ → List ℕ → List ℕ → List ℕ
table_words spread count left right rank rows = map (λ (slot : ℕ). slot_word rank (slot_rows spread left right rows slot)) (below count)

-- The first table is over all rows.
unfoldable pub pair_words : List ℕ → List ℕ → List ℕ → List ℕ
pair_words left right rank = table_words pair_slot slot_count left right rank (below (length left))

-- The second is over the rows that the words of the first do not name.
abbrev pub is_unnamed : List ℕ → List ℕ → List ℕ → ℕ → Bool
is_unnamed left right words i = not (eqb (named_row (get_or words (row_slot pair_slot left right i) 0)) i)

unfoldable pub unnamed : List ℕ → List ℕ → List ℕ → List ℕ
unnamed left right words = filter (is_unnamed left right words) (below (length left))

unfoldable pub second_words : List ℕ → List ℕ → List ℕ → List ℕ → List ℕ
second_words left right rank words = table_words second_slot second_slot_count left right rank (unnamed left right words)

unfoldable pub pair_tables : List ℕ → List ℕ → List ℕ → List ℕ
pair_tables left right rank = let words = pair_words left right rank in words ++ second_words left right rank words

-- All that is derived of the merge rows.
unfoldable pub row_index : List ℕ → List ℕ → List ℕ → ℕ → List ℕ
row_index left right rank shift = buckets left shift ++ pair_tables left right rank
