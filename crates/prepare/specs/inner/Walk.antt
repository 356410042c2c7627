-- A walk along a table that ascends, which goes on from where the last ended.
use Rattle.std.specs.Prelude.{ℕ, ◌+◌, List, ltb, length, get_or, drop}
use Rattle.utf8.specs.Lists.{take_while}
use Rattle.model.specs.Model.{piece}

-- Where the numbers of a column end that are below a bound, from a place on.
unfoldable pub below_from : List ℕ → ℕ → ℕ → ℕ
below_from column from bound = from + length (take_while (λ (n : ℕ). ltb n bound) (drop from column))

-- Where the entries end whose pieces have a first byte below a bound, from a place on.
unfoldable pub first_below_from : List (List ℕ) → List ℕ → ℕ → ℕ → ℕ
first_below_from pieces lookup from bound = from + length (take_while (λ (id : ℕ). ltb (get_or (piece pieces id) 0 0) bound) (drop from lookup))
