-- The word of a slot of a pair table, row by row.
use Rattle.std.specs.Prelude.{ℕ, ◌+◌, ◌-◌, ◌%◌, cond, List, ltb, eqb, get_or}
use Rattle.index.specs.Index.{shared}

-- The word of a slot to which the row at a place is added, behind those that it had.
unfoldable pub word_with : List ℕ → ℕ → ℕ → ℕ
word_with rank word i =
    let named = word % shared in
    let row = named - 1 in
    cond (eqb named 0) (i + 1) (cond (ltb (get_or rank i 0) (get_or rank row 0)) i row + 1 + shared)
