-- Parts of a normalized section: what stands between tokens of the second list.
use Rattle.std.specs.Prelude.{ℕ, zero, suc, Bool, false, cond, List, [], ◌∷◌, ◌++◌, length, take, drop, Option, None, Some}
use Rattle.utf8.specs.Lists.{is_empty}
use Rattle.model.specs.Model.{TokenList, contents, token_at}
use Rattle.sections.specs.declared.Match.{Match}
use Rattle.sections.specs.Matches.{first_match}
use Rattle.sections.specs.Sections.{Item, token, plain, stop_before, start_after}

-- A part, and the first flag that metaspace is run with on it.
pub record NormalPart : Type 0 where
  pub bytes : List ℕ
  pub first : Bool

unfoldable pub normal_part_of : List ℕ → Bool → List (Item NormalPart)
normal_part_of bytes first = cond (is_empty bytes) [] (plain (record { bytes = bytes; first = first }) ∷ [])

-- the part before the match, its token, and the parts of what the token and its rstrip leave; without a match the text is a part
abbrev pub normal_parts_around : TokenList → (List ℕ → List (Item NormalPart)) → Bool → List ℕ → Option Match → List (Item NormalPart)
normal_parts_around t go_on first text None = normal_part_of text first
normal_parts_around t go_on first text (Some match) =
    normal_part_of (take (stop_before t text 0 match) text) first ++ token (token_at t match.row).id ∷ go_on (drop (start_after t text match) text)

-- A token takes at least one byte, so as many turns as there are bytes are enough.
abbrev pub normal_parts_for : ℕ → TokenList → Bool → List ℕ → List (Item NormalPart)
normal_parts_for zero t first text = []
normal_parts_for (suc turns) t first text = normal_parts_around t (normal_parts_for turns t false) first text (first_match (contents t) 0 text)

-- Rules 7.7 and 7.8: the tokens of the second list and the parts between them, each search in what the last token left. The first flag
-- is given for the section; behind a token it is false.
unfoldable pub normal_parts : TokenList → Bool → List ℕ → List (Item NormalPart)
normal_parts t first text = normal_parts_for (length text) t first text
