-- Sections: the text between tokens of the first list.
use Rattle.std.specs.Prelude.{ℕ, ◌+◌, ◌-◌, Bool, true, false, cond, List, [], ◌∷◌, ◌++◌, ltb, length, drop}
use Rattle.std.proofs.Math.Seq.{slice}
use Rattle.utf8.specs.Lists.{is_empty}
use Rattle.utf8.specs.WhiteSpace.{trim_start, trim_end}
use Rattle.model.specs.Model.{TokenList, contents, token_at}
use Rattle.sections.specs.declared.Match.{Match}
use Rattle.sections.specs.Matches.{end, matches}

-- What a text comes to: tokens by their ids, and what stands between them.
pub data Item (A : Type 0) : Type 0 where
  token : ℕ → Item A
  plain : A → Item A

-- The tokens as they are, and what stands between them taken apart further.
abbrev pub taken_apart : {A B : Type 0} → (A → List (Item B)) → List (Item A) → List (Item B)
taken_apart f [] = []
taken_apart f (token id ∷ items) = token id ∷ taken_apart f items
taken_apart f (plain a ∷ items) = f a ++ taken_apart f items

-- Rule 7.3: where the section that begins at start ends before the match; lstrip trims it.
unfoldable pub stop_before : TokenList → List ℕ → ℕ → Match → ℕ
stop_before t text start match =
    cond (token_at t match.row).lstrip (start + length (trim_end (slice start match.place text))) match.place

-- The length of the White_Space at the left end.
unfoldable pub white_length : List ℕ → ℕ
white_length text = length text - length (trim_start text)

-- Rule 7.3: where the section after the match begins; rstrip passes over white space.
unfoldable pub start_after : TokenList → List ℕ → Match → ℕ
start_after t text match =
    let e = end (contents t) match in cond (token_at t match.row).rstrip (e + white_length (drop e text)) e

-- A section of the text, as its place in it. It is the opening one if no token was taken before it.
pub record Section : Type 0 where
  pub start : ℕ
  pub stop : ℕ
  pub opening : Bool

unfoldable pub bytes_of : List ℕ → Section → List ℕ
bytes_of text section = slice section.start section.stop text

-- An empty section is nothing.
unfoldable pub section_of : ℕ → ℕ → Bool → List (Item Section)
section_of start stop opening = cond (ltb start stop) (plain (record { start = start; stop = stop; opening = opening }) ∷ []) []

-- Rule 7.2: the match begins before the place where the current section begins.
unfoldable pub is_swallowed : ℕ → Match → Bool
is_swallowed start match = ltb match.place start

-- The sections from start on, and the tokens of the matches between them.
abbrev pub sections_from : TokenList → List ℕ → ℕ → Bool → List Match → List (Item Section)
sections_from t text start opening [] = section_of start (length text) opening
sections_from t text start opening (match ∷ later) =
    let skipped = sections_from t text start opening later in
    let taken =
    section_of start (stop_before t text start match) opening
    ++ token (token_at t match.row).id ∷ sections_from t text (start_after t text match) false later in
    cond (is_swallowed start match) skipped taken

-- Rule 7.4: without tokens the whole text is the one section, empty or not.
unfoldable pub sections : TokenList → List ℕ → List (Item Section)
sections t text =
    cond (is_empty (contents t)) (plain (record { start = 0; stop = length text; opening = true }) ∷ [])
    (sections_from t text 0 true (matches (contents t) text))
