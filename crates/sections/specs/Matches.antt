-- Where added tokens stand in a text. One search serves both token lists; it is given the contents in the order of their rows.
use Rattle.std.specs.Prelude.{ℕ, zero, suc, ◌+◌, cond, List, [], ◌∷◌, leb, length, get_or, drop, Option, None, Some}
use Rattle.utf8.specs.Lists.{filter, numbered, starts_with}
use Rattle.sections.specs.declared.Match.{Match}

-- Where a match ends: behind the content of its row.
unfoldable pub end : List (List ℕ) → Match → ℕ
end contents match = match.place + length (get_or contents match.row [])

-- Of numbered contents the longer one, of equals the one with the lower row.
abbrev pub longer : ℕ × List ℕ → Option (ℕ × List ℕ) → ℕ × List ℕ
longer c None = c
longer c (Some d) = cond (leb (length d.1) (length c.1)) c d

abbrev pub longest : List (ℕ × List ℕ) → Option (ℕ × List ℕ)
longest [] = None
longest (c ∷ cs) = Some (longer c (longest cs))

-- The longest content at the head of a text, with its row.
unfoldable pub longest_at : List (List ℕ) → List ℕ → Option (ℕ × List ℕ)
longest_at contents text = longest (filter (λ (c : ℕ × List ℕ). starts_with c.1 text) (numbered contents))

-- the match at the place, or else the other
abbrev pub match_or : ℕ → Option (ℕ × List ℕ) → Option Match → Option Match
match_or place None other = other
match_or place (Some c) other = Some (record { place = place; row = c.0 })

-- The leftmost match of the text, there the longest; place is that of the text's first byte.
abbrev pub first_match : List (List ℕ) → ℕ → List ℕ → Option Match
first_match contents place [] = None
first_match contents place (b ∷ bytes) =
    let later = first_match contents (suc place) bytes in match_or place (longest_at contents (b ∷ bytes)) later

-- the match and what the search finds after it, or nothing
abbrev pub match_then : (Match → List Match) → Option Match → List Match
match_then go_on None = []
match_then go_on (Some match) = match ∷ go_on match

-- A match takes at least one byte, so as many turns as there are bytes are enough.
abbrev pub matches_for : ℕ → List (List ℕ) → List ℕ → ℕ → List Match
matches_for zero contents text start = []
matches_for (suc turns) contents text start =
    match_then (λ (match : Match). matches_for turns contents text (end contents match)) (first_match contents start (drop start text))

-- Rule 7.1: the matches of the first list, over the whole text.
unfoldable pub matches : List (List ℕ) → List ℕ → List Match
matches contents text = matches_for (length text) contents text 0
