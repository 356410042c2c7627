-- A search that tests a place only where its byte begins some content, on any tables.
use Rattle.std.specs.Prelude.{ℕ, suc, Bool, not, cond, List, [], ◌∷◌, eqb, get_or, set, Option, None, Some}
use Rattle.sections.specs.declared.Match.{Match}
use Rattle.sections.specs.Matches.{longest_at}

-- The row of beginnings, content by content: each sets the number of its first byte.
abbrev pub note_first : List ℕ → List ℕ → List ℕ
note_first [] row = row
note_first (b ∷ bytes) row = set row b 1

abbrev pub note_firsts : List (List ℕ) → List ℕ → List ℕ
note_firsts [] row = row
note_firsts (c ∷ contents) row = note_firsts contents (note_first c row)

-- Such a row does not rule the byte out; of bytes past its end it says nothing.
unfoldable pub may_begin : List ℕ → ℕ → Bool
may_begin begins b = not (eqb (get_or begins b 1) 0)

abbrev pub row_in : Option (ℕ × List ℕ) → Option ℕ
row_in None = None
row_in (Some c) = Some c.0

-- The row of the longest content at the head of a text.
unfoldable pub row_at : List (List ℕ) → List ℕ → Option ℕ
row_at contents text = row_in (longest_at contents text)

-- The same where the first byte is not ruled out.
abbrev pub row_by : List ℕ → List (List ℕ) → List ℕ → Option ℕ
row_by begins contents [] = None
row_by begins contents (b ∷ bytes) = cond (may_begin begins b) (row_at contents (b ∷ bytes)) None

-- the match at the place, or else the other
abbrev pub placed : ℕ → Option ℕ → Option Match → Option Match
placed place None other = other
placed place (Some row) other = Some (record { place = place; row = row })

-- The leftmost match that begins with a byte that is not ruled out; place is that of the text's first byte.
abbrev pub match_by : List ℕ → List (List ℕ) → ℕ → List ℕ → Option Match
match_by begins contents place [] = None
match_by begins contents place (b ∷ bytes) =
    let later = match_by begins contents (suc place) bytes in placed place (row_by begins contents (b ∷ bytes)) later
