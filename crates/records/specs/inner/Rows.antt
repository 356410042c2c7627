-- What one record adds to a search, and what it does at a place.
use Rattle.std.specs.Prelude.{ℕ, ◌+◌, cond, ◌||◌, not, List, leb, length, drop, Option, None, Some}
use Rattle.utf8.specs.Lists.{is_empty, starts_with}
use Rattle.model.specs.Model.{Token}
use Rattle.sections.specs.inner.Strips.{stop_at, start_at}
use Rattle.records.specs.declared.Longest.{Longest}
use Rattle.records.specs.declared.Standing.{Standing}

-- of a content and the longest so far the one that is not shorter, of equals the content
abbrev pub longer_than : List ℕ → ℕ → Option Longest → Option Longest
longer_than content row None = Some (record { row = row; len = length content })
longer_than content row (Some other) = cond (leb other.len (length content)) (Some (record { row = row; len = length content })) (Some other)

-- The longest so far, with one content more, which lies before the others.
unfoldable pub longer_of : List ℕ → List ℕ → ℕ → Option Longest → Option Longest
longer_of content text row best = cond (starts_with content text) (longer_than content row best) best

-- What a token does at a place.
unfoldable pub standing_of : Token → List ℕ → ℕ → ℕ → Option Standing
standing_of token text start place =
    cond (is_empty token.content || not (starts_with token.content (drop place text))) None
    (Some (record { stop = stop_at token.lstrip text start place; next = start_at token.rstrip text (place + length token.content); id = token.id }))
