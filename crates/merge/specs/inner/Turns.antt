-- The merge in place on the front of a buffer, turn by turn, with rows as a search finds them.
use Rattle.std.specs.Prelude.{ℕ, ◌+◌, ◌-◌, List, [], ◌∷◌, ◌++◌, length, take, drop, Option, None, Some}
use Rattle.model.specs.Model.{Row, rows_of}
use Rattle.model.specs.inner.Search.{row_found}
use Rattle.model.specs.Answers.{zeros}
use Rattle.index.specs.inner.Find.{row_from}
use Rattle.merge.specs.Merge.{Candidate, merged}
use Rattle.index.specs.declared.RowIndex.{RowIndex}
use Rattle.merge.specs.declared.Joining.{Joining}

-- The row at which a search for a pair ends, on any tables.
unfoldable pub row_in : List ℕ → List ℕ → List ℕ → List ℕ → List ℕ → ℕ → ℕ → ℕ → Option Row
row_in left right result rank row_index shift l r = row_found (rows_of left right result rank) (row_from left right row_index shift l r)

-- The same by the tables of an index.
abbrev pub row_by : RowIndex → ℕ → ℕ → Option Row
row_by x = row_in x.rows.left.now x.rows.right.now x.rows.result.now x.rows.rank.now x.words.now x.shift

abbrev pub joining : ℕ → ℕ → ℕ → Option Joining
joining place result rank = Some (record { place = place; result = result; rank = rank })

-- What a turn does, by the next merge: none where there is none.
abbrev pub turn_of : Option Candidate → Option Joining
turn_of None = None
turn_of (Some c) = joining c.place c.row.result c.row.rank

-- A result in the place of a pair, and a zero in the cell that comes free.
unfoldable pub joined_at : ℕ → ℕ → List ℕ → List ℕ
joined_at place result ids = (take place ids ++ result ∷ drop (place + 2) ids) ++ (0 ∷ [])

-- What stands behind a place taken out, and the cell at the end that this frees.
unfoldable pub closed_at : {A : Type 0} → ℕ → A → List A → List A
closed_at place blank cells = (take (place + 1) cells ++ drop (place + 2) cells) ++ (blank ∷ [])

-- How many ids are left, and the buffer.
pub record Merged : Type 0 where
  pub count : ℕ
  pub ids : List ℕ

-- The first ids of a buffer merged: the merged ids, zeros in the cells that come free, and what was behind.
unfoldable pub merged_front : (ℕ → ℕ → Option Row) → ℕ → List ℕ → Merged
merged_front row count ids =
    let front = take count ids in
    let done = merged row front in
    record { count = length done; ids = done ++ zeros (length front - length done) ++ drop count ids }
