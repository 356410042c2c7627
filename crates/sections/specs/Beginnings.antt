-- What is derived of the contents of a token list once (rule 15.3): the bytes that they begin with, and how long the longest is.
use Rattle.std.specs.Prelude.{ℕ, max, Bool, false, cond, List, [], ◌∷◌, map, eqb, length}
use Rattle.utf8.specs.Lists.{any, below}

abbrev pub begins_with : ℕ → List ℕ → Bool
begins_with b [] = false
begins_with b (x ∷ xs) = eqb x b

-- For each byte below n: 1 if some content begins with it, else 0.
unfoldable pub beginnings : List (List ℕ) → ℕ → List ℕ
beginnings contents n = map (λ (b : ℕ). cond (any (begins_with b) contents) 1 0) (below n)

-- The length of the longest content, 0 without contents.
unfoldable pub longest_content : List (List ℕ) → ℕ
longest_content [] = 0
longest_content (c ∷ contents) = max (length c) (longest_content contents)
