-- What derived numbers tell: which bytes stand side by side, and the crossings that are noted.
use Rattle.std.specs.Prelude.{ℕ, ◌+◌, ◌*◌, ◌/◌, ◌%◌, ◌^◌, Bool, List, [], ◌∷◌, map, eqb, get_or, take}
use Rattle.units.specs.declared.Cutter.{Cutter}
use Rattle.model.specs.Model.{strings_of, piece}
use Rattle.units.specs.Kinds.{Crossing, crossing_at}
use Rattle.units.specs.Derived.{Place}

-- What byte-adjacency rows say of the bytes x and y; words that are missing are 0.
unfoldable pub pair_noted : List ℕ → ℕ → ℕ → Bool
pair_noted rows x y = eqb (get_or rows (x * 4 + y / 64) 0 / 2 ^ (y % 64) % 2) 1

-- The crossing at a place.
unfoldable pub crossing_of : List (List ℕ) → Place → Crossing
crossing_of pieces place = crossing_at (piece pieces place.0) place.1

-- The places that words name, two words a place.
unfoldable pub places_of : List ℕ → List Place
places_of [] = []
places_of (id ∷ []) = []
places_of (id ∷ place ∷ words) = (id, place) ∷ places_of words

-- The crossings that the first words name, as many as count says.
unfoldable pub named_crossings : List (List ℕ) → List ℕ → ℕ → List Crossing
named_crossings pieces words count = map (crossing_of pieces) (take count (places_of words))

-- Those that a cutter has.
abbrev pub crossings_in : Cutter → List Crossing
crossings_in c = named_crossings (strings_of c.pieces) c.noted.now c.count
