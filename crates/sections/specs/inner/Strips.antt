-- What strips take, by a token's flag, and where a token ends, on any tables.
use Rattle.std.specs.Prelude.{ℕ, ◌+◌, min, Bool, cond, List, length, drop}
use Rattle.std.proofs.Math.Seq.{slice}
use Rattle.utf8.specs.WhiteSpace.{trim_end}
use Rattle.sections.specs.declared.Match.{Match}
use Rattle.sections.specs.Matches.{end}
use Rattle.sections.specs.Sections.{white_length}

-- Where the section that begins at start ends before a token at the place.
unfoldable pub stop_at : Bool → List ℕ → ℕ → ℕ → ℕ
stop_at strip text start place = cond strip (start + length (trim_end (slice start place text))) place

-- Where the section begins after a token that ends at the place.
unfoldable pub start_at : Bool → List ℕ → ℕ → ℕ
start_at strip text place = cond strip (place + white_length (drop place text)) place

-- Where a token ends, within the text.
unfoldable pub end_within : List (List ℕ) → List ℕ → Match → ℕ
end_within contents text match = min (end contents match) (length text)
