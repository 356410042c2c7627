-- The merge of a unit (rule 10.1).
-- The rows are given as any function from a pair of ids to its row.
use Rattle.std.specs.Prelude.{ℕ, zero, suc, ◌+◌, cond, List, [], ◌∷◌, ◌++◌, leb, length, take, drop, Option, None, Some}
use Rattle.utf8.specs.Lists.{neighbours}
use Rattle.model.specs.Model.{Row}

-- An adjacent pair that has a row: the place of its left id, and the row.
pub record Candidate : Type 0 where
  pub place : ℕ
  pub row : Row

abbrev pub candidate_at : ℕ → Option Row → List Candidate
candidate_at place None = []
candidate_at place (Some row) = record { place = place; row = row } ∷ []

-- The candidates among adjacent pairs, from left to right; place is that of the first pair.
abbrev pub candidates_from : (ℕ → ℕ → Option Row) → ℕ → List (ℕ × ℕ) → List Candidate
candidates_from row place [] = []
candidates_from row place (pair ∷ pairs) = candidate_at place (row pair.0 pair.1) ++ candidates_from row (suc place) pairs

unfoldable pub candidates : (ℕ → ℕ → Option Row) → List ℕ → List Candidate
candidates row ids = candidates_from row 0 (neighbours ids)

-- The candidate of lower rank, of equals the first.
abbrev pub lower_rank : Candidate → Option Candidate → Candidate
lower_rank c None = c
lower_rank c (Some d) = cond (leb c.row.rank d.row.rank) c d

abbrev pub lowest_rank : List Candidate → Option Candidate
lowest_rank [] = None
lowest_rank (c ∷ cs) = Some (lower_rank c (lowest_rank cs))

-- The next merge.
unfoldable pub next_merge : (ℕ → ℕ → Option Row) → List ℕ → Option Candidate
next_merge row ids = lowest_rank (candidates row ids)

-- The ids after a merge: the row's result in the place of the pair.
unfoldable pub merged_at : Candidate → List ℕ → List ℕ
merged_at c ids = take c.place ids ++ c.row.result ∷ drop (c.place + 2) ids

-- go on after the next merge, or stop where there is none
abbrev pub merge_then : Option Candidate → (List ℕ → List ℕ) → List ℕ → List ℕ
merge_then None go_on ids = ids
merge_then (Some c) go_on ids = go_on (merged_at c ids)

-- Each merge makes the list shorter by one, so as many turns as there are ids are enough.
abbrev pub merged_for : ℕ → (ℕ → ℕ → Option Row) → List ℕ → List ℕ
merged_for zero row ids = ids
merged_for (suc turns) row ids = merge_then (next_merge row ids) (merged_for turns row) ids

unfoldable pub merged : (ℕ → ℕ → Option Row) → List ℕ → List ℕ
merged row ids = merged_for (length ids) row ids
