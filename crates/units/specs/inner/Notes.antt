-- Pairs of bytes noted one by one in the byte-adjacency rows.
use Rattle.std.specs.Prelude.{ℕ, ◌+◌, ◌*◌, ◌/◌, ◌%◌, ◌^◌, List, [], ◌∷◌, get_or, set}
use Rattle.std.specs.Int.Bits.{bit_or}
use Rattle.model.specs.Answers.{zeros}

-- Rows in which no pair is noted.
unfoldable pub no_rows : List ℕ
no_rows = zeros 1024

-- The rows with the bit of one pair set.
unfoldable pub note : ℕ × ℕ → List ℕ → List ℕ
note pair rows =
    let at = pair.0 * 4 + pair.1 / 64 in set rows at (bit_or (get_or rows at 0) (2 ^ (pair.1 % 64)))

-- The same for all of a list.
unfoldable pub note_all : List (ℕ × ℕ) → List ℕ → List ℕ
note_all [] rows = rows
note_all (pair ∷ pairs) rows = note_all pairs (note pair rows)
