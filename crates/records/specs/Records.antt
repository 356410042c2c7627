-- A list of added tokens as records over lent bytes: the columns that it stands for, and what the answers of a search in it mean.
use Rattle.std.specs.Prelude.{ℕ, ◌+◌, ◌-◌, false, cond, ◌||◌, not, List, [], ◌∷◌, map, length, get_or, drop, Option, None, Some}
use Rattle.utf8.specs.Lists.{is_empty, join, below, starts_with}
use Rattle.model.specs.Model.{TokenList, token_list, Token, token_at, step_string}
use Rattle.sections.specs.declared.Match.{Match}
use Rattle.sections.specs.Sections.{stop_before, start_after}
use Rattle.records.specs.declared.AddedToken.{AddedToken}
use Rattle.records.specs.declared.Longest.{Longest}
use Rattle.records.specs.declared.Standing.{Standing}

-- What stands past the end of a list.
abbrev pub no_token : AddedToken
no_token = record { content = record { place = 0; len = 0 }; id = 0; lstrip = false; rstrip = false }

-- The content of a record: the bytes that its span names.
unfoldable pub content_of : List ℕ → AddedToken → List ℕ
content_of bytes token = step_string bytes token.content

-- The token that a record stands for.
unfoldable pub token_of : List ℕ → AddedToken → Token
token_of bytes token = record { content = content_of bytes token; id = token.id; lstrip = token.lstrip; rstrip = token.rstrip }

-- Where strings that lie end to end from a place on end.
abbrev pub ends_from : ℕ → List (List ℕ) → List ℕ
ends_from place [] = []
ends_from place (s ∷ strings) = (place + length s) ∷ ends_from (place + length s) strings

-- Rule 7.10: the columns that a list of records stands for, the contents end to end, and a column of each other field.
unfoldable pub columns_of : List ℕ → List AddedToken → TokenList
columns_of bytes tokens =
    let contents = map (content_of bytes) tokens in
    token_list (join contents) (0 ∷ ends_from 0 contents) (map (λ (t : AddedToken). t.id) tokens) (map (λ (t : AddedToken). t.lstrip) tokens) (map (λ (t : AddedToken). t.rstrip) tokens)

-- The records of a list of columns, over the columns' own bytes.
unfoldable pub records_of : TokenList → List AddedToken
records_of t =
    map (λ (row : ℕ). record {
      content = record { place = get_or t.offsets row 0; len = get_or t.offsets (row + 1) 0 - get_or t.offsets row 0 };
      id = get_or t.ids row 0;
      lstrip = get_or t.lstrip row false;
      rstrip = get_or t.rstrip row false;
    }) (below (length t.offsets - 1))

-- The longest content at the head of a text, as an answer.
abbrev pub longest_of : Option (ℕ × List ℕ) → Option Longest
longest_of None = None
longest_of (Some c) = Some (record { row = c.0; len = length c.1 })

-- The row of such an answer.
abbrev pub longest_row : Option Longest → Option ℕ
longest_row None = None
longest_row (Some best) = Some best.row

-- What the token of a match does with the section that begins at start, if its content stands at the match's place. An empty content
-- stands nowhere, and so a row past the end of the list does not either.
unfoldable pub standing : TokenList → List ℕ → ℕ → Match → Option Standing
standing t text start match =
    let token = token_at t match.row in
    cond (is_empty token.content || not (starts_with token.content (drop match.place text))) None
    (Some (record { stop = stop_before t text start match; next = start_after t text match; id = token.id }))
