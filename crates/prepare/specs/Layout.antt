-- How what is derived of a model is laid out as words (rule 15.3).
use Rattle.std.specs.Prelude.{ℕ, List, [], ◌∷◌, ◌++◌, length}
use Rattle.index.specs.Index.{mark_id, piece_index, bucket_shift, row_index}
use Rattle.sections.specs.Beginnings.{beginnings, longest_content}

-- The lengths of the two rows.
abbrev pub adjacency_length : ℕ
adjacency_length = 1024

abbrev pub index_length : ℕ
index_length = 169032

-- Where the parts of the index begin.
abbrev pub kind_at : ℕ
kind_at = 0

abbrev pub raw_path_at : ℕ
raw_path_at = 1

abbrev pub crossing_count_at : ℕ
crossing_count_at = 2

abbrev pub crossings_at : ℕ
crossings_at = 3

abbrev pub mark_id_at : ℕ
mark_id_at = 67

abbrev pub shift_at : ℕ
shift_at = 68

abbrev pub first_bytes_at : ℕ
first_bytes_at = 69

abbrev pub byte_ids_at : ℕ
byte_ids_at = 326

abbrev pub buckets_at : ℕ
buckets_at = 582

abbrev pub pairs_at : ℕ
pairs_at = 4679

abbrev pub second_pairs_at : ℕ
second_pairs_at = 135751

abbrev pub first_tokens_at : ℕ
first_tokens_at = 168519

abbrev pub second_tokens_at : ℕ
second_tokens_at = 168775

abbrev pub longest_content_at : ℕ
longest_content_at = 169031

-- The kind, the raw path, how many crossings are noted and 64 words of them, the mark's id, the shift of the buckets, where first bytes
-- begin, the ids of single bytes, where buckets begin, and the two pair tables.
unfoldable pub piece_words : ℕ → ℕ → ℕ → List ℕ → List (List ℕ) → List ℕ → List ℕ → List ℕ → List ℕ → List ℕ
piece_words kind raw_path count noted pieces lookup left right rank =
    let shift = bucket_shift (length pieces) in
    kind ∷ raw_path ∷ count ∷ noted ++ (mark_id pieces lookup ∷ shift ∷ piece_index pieces lookup ++ row_index left right rank shift)

-- The bytes that contents of the two token lists begin with, and the length of the longest of the first.
unfoldable pub token_words : List (List ℕ) → List (List ℕ) → List ℕ
token_words first second = beginnings first 256 ++ (beginnings second 256 ++ (longest_content first ∷ []))

-- The index.
unfoldable pub index_row : ℕ → ℕ → ℕ → List ℕ → List (List ℕ) → List ℕ → List ℕ → List ℕ → List ℕ → List (List ℕ) → List (List ℕ) → List ℕ
index_row kind raw_path count noted pieces lookup left right rank first second =
    piece_words kind raw_path count noted pieces lookup left right rank ++ token_words first second
