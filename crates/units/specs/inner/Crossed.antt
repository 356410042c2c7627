-- How one piece crosses, and how its place is noted.
use Rattle.std.specs.Prelude.{ℕ, ◌+◌, ◌*◌, ◌%◌, cond, List, [], ◌∷◌, set}
use Rattle.model.specs.Answers.{zeros}
use Rattle.units.specs.Kinds.{crossing_at, is_tangled}
use Rattle.units.specs.Derived.{places_within}
use Rattle.units.specs.declared.Crossed.{Crossed}
use Rattle.units.specs.declared.Crossed.TheVariants.{Nowhere, At, Tangled}

-- By the first of a piece's places.
unfoldable pub crossed_by : List ℕ → List ℕ → Crossed
crossed_by bytes [] = Nowhere
crossed_by bytes (p ∷ ps) = cond (is_tangled (crossing_at bytes p)) Tangled (At p)

unfoldable pub crossed : List ℕ → Crossed
crossed bytes = crossed_by bytes (places_within bytes)

-- Words in which nothing is noted.
unfoldable pub no_words : List ℕ
no_words = zeros 64

-- The words with the place of the crossing number n.
unfoldable pub noted_at : List ℕ → ℕ → ℕ → ℕ → List ℕ
noted_at words n id place = set (set words (n * 2) (id % 4294967296)) (n * 2 + 1) (place % 4294967296)
