-- The greatest of numbers.
use Rattle.std.specs.Prelude.{ℕ, max, List, [], ◌∷◌}

-- The greatest number that f gives for elements of a list, 0 where there are none.
abbrev pub most : (ℕ → ℕ) → List ℕ → ℕ
most f [] = 0
most f (x ∷ xs) = max (f x) (most f xs)
