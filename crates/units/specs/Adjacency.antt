-- The byte-adjacency rows: which bytes stand side by side in some piece, as bits (rule 15.2).
use Rattle.std.specs.Prelude.{ℕ, zero, suc, ◌+◌, ◌*◌, ◌/◌, ◌%◌, ◌^◌, Bool, cond, List, map}
use Rattle.utf8.specs.Lists.{below}
use Rattle.units.specs.Units.{holds_pair}

-- The number whose lowest bits, as many as are asked for, are set where the test holds.
unfoldable pub bits : (ℕ → Bool) → ℕ → ℕ
bits test zero = 0
bits test (suc n) = cond (test n) 1 0 * 2 ^ n + bits test n

-- 256 rows of four words: the bit y of the row x says that some piece holds the byte x directly followed by y. This is the word at i.
unfoldable pub adjacency_word : List (List ℕ) → ℕ → ℕ
adjacency_word pieces i = bits (λ (b : ℕ). holds_pair pieces (i / 4) (i % 4 * 64 + b)) 64

unfoldable pub adjacency : List (List ℕ) → List ℕ
adjacency pieces = map (adjacency_word pieces) (below 1024)
