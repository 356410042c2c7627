-- What is derived from a model once, as numbers (rule 15.3): the kind of split with the crossings that it needs.
use Rattle.std.specs.Prelude.{ℕ, ◌-◌, ◌%◌, cond, List, [], ◌∷◌, ◌++◌, map, length}
use Rattle.utf8.specs.Lists.{filter, join_map, numbered, below}
use Rattle.utf8.specs.Chars.{valid}
use Rattle.model.specs.Answers.{zeros}
use Rattle.units.specs.Kinds.{crosses_at}
use Rattle.units.specs.declared.WordSplit.{WordSplit}
use Rattle.units.specs.declared.WordSplit.TheVariants.{SpaceRuns, EveryMark, None}

-- A crossing by the id of its piece and the place of its mark there.
abbrev pub Place : Type 0
Place = ℕ × ℕ

-- Where the marks of a piece's crossings stand in it; only a piece that is UTF-8 has any.
unfoldable pub places_within : List ℕ → List ℕ
places_within bytes = cond (valid bytes) (filter (crosses_at bytes) (below (length bytes))) []

unfoldable pub places_in : ℕ × List ℕ → List Place
places_in p = map (λ (place : ℕ). (p.0, place)) (places_within p.1)

-- Where the crossings of all pieces are, in their order.
unfoldable pub crossing_places : List (List ℕ) → List Place
crossing_places pieces = join_map places_in (numbered pieces)

-- The crossings that a kind of split looks at.
unfoldable pub noted_of : WordSplit → List (List ℕ) → List Place
noted_of SpaceRuns pieces = crossing_places pieces
noted_of EveryMark pieces = []
noted_of None pieces = []

-- A place as two 32-bit words.
unfoldable pub place_words : Place → List ℕ
place_words place = place.0 % 4294967296 ∷ place.1 % 4294967296 ∷ []

-- The words of at most 32 places, then zeros.
unfoldable pub noted_words : List Place → List ℕ
noted_words places = let words = join_map place_words places in words ++ zeros (64 - length words)

-- A kind of split with what it needs, as numbers.
pub record Noting : Type 0 where
  pub kind : WordSplit
  pub count : ℕ
  pub noted : List ℕ

unfoldable pub noting : List (List ℕ) → WordSplit → Noting
noting pieces kind = record { kind = kind; count = length (noted_of kind pieces); noted = noted_words (noted_of kind pieces) }
