-- Starting ids, and what is dropped.
use Rattle.std.specs.Prelude.{ℕ, Bool, true, false, cond, ◌&&◌, List, [], ◌∷◌, map, Option, None, Some}
use Rattle.utf8.specs.Lists.{any, join_map, same}
use Rattle.utf8.specs.Chars.{chars}
use Rattle.model.specs.Model.{Model, pieces_of, lookup_id, fallback_id}
use Rattle.model.specs.Mark.{mark, space}

-- The id where there is one.
abbrev pub if_any : Option ℕ → List ℕ
if_any None = []
if_any (Some id) = id ∷ []

abbrev pub is_missing : Option ℕ → Bool
is_missing None = true
is_missing (Some id) = false

-- The tables that starting ids are found by.
pub record Vocabulary : Type 0 where
  pub pieces : List (List ℕ)
  pub lookup : List ℕ
  pub fallback : List ℕ

unfoldable pub vocabulary_of : Model → Vocabulary
vocabulary_of m = record { pieces = pieces_of m; lookup = m.lookup; fallback = m.fallback }

-- Rule 9.2: the id of the piece that spells the character.
unfoldable pub own_id : Vocabulary → List ℕ → Option ℕ
own_id v char = lookup_id v.pieces v.lookup char

-- Rule 9.3: the fallback ids of those bytes that have one.
unfoldable pub fallback_ids : List ℕ → List ℕ → List ℕ
fallback_ids fallback char = join_map (λ (b : ℕ). if_any (fallback_id fallback b)) char

-- Some byte has no fallback id.
unfoldable pub lacks_byte : List ℕ → List ℕ → Bool
lacks_byte fallback char = any (λ (b : ℕ). is_missing (fallback_id fallback b)) char

-- The ids that a character starts as; own gives a character's own id.
unfoldable pub starting_ids_by : (List ℕ → Option ℕ) → List ℕ → List ℕ → List ℕ
starting_ids_by own fallback char = cond (is_missing (own char)) (fallback_ids fallback char) (if_any (own char))

unfoldable pub starting_ids : Vocabulary → List ℕ → List ℕ
starting_ids v char = starting_ids_by (own_id v) v.fallback char

-- Rule 9.4: the character has no piece, and some byte of it no fallback id.
unfoldable pub is_dropped_by : (List ℕ → Option ℕ) → List ℕ → List ℕ → Bool
is_dropped_by own fallback char = is_missing (own char) && lacks_byte fallback char

unfoldable pub is_dropped : Vocabulary → List ℕ → Bool
is_dropped v char = is_dropped_by (own_id v) v.fallback char

-- A space that is read raw is spelled as the mark.
unfoldable pub as_mark : Bool → List ℕ → List ℕ
as_mark raw char = cond (raw && same char space) mark char

-- The characters of a unit as they are to be spelled.
unfoldable pub unit_chars : Bool → List ℕ → List (List ℕ)
unit_chars raw unit = map (as_mark raw) (chars unit)

-- Rule 9.1: a virtual mark comes first in the first unit.
unfoldable pub with_virtual_mark : Bool → List (List (List ℕ)) → List (List (List ℕ))
with_virtual_mark virtual [] = []
with_virtual_mark virtual (unit ∷ units) = cond virtual (mark ∷ unit) unit ∷ units
