-- The call decode.
use Rattle.std.specs.Prelude.{ℕ, Bool, true, false, not, cond, ◌&&◌, ◌||◌, List, [], ◌∷◌, ◌++◌, ltb, length, drop, Option, None, Some}
use Rattle.utf8.specs.Lists.{any, count, filter, join_map, same, starts_with}
use Rattle.utf8.specs.Chars.{chars, is_char}
use Rattle.model.specs.Model.{Model, piece, pieces_of, steps_of}
use Rattle.model.specs.Mark.{mark, space}
use Rattle.model.specs.Answers.{lowest, done, outcome, Outcome}
use Rattle.model.specs.Check.{model_tests}
use Rattle.model.specs.declared.Step.{Step}
use Rattle.model.specs.declared.Step.TheVariants.{Prepend, Replace, CollapseSpaces, Strip}
use Rattle.model.specs.declared.Metaspace.{Metaspace}
use Rattle.model.specs.declared.PrependScheme.{PrependScheme}
use Rattle.model.specs.declared.PrependScheme.TheVariants.{Never, Always, First}

unfoldable pub has_piece : List (List ℕ) → ℕ → Bool
has_piece pieces id = ltb id (length pieces)

-- Rule 12.1: the pieces joined, ids without one passed over.
unfoldable pub joined_bytes : List (List ℕ) → List ℕ → List ℕ
joined_bytes pieces ids = join_map (piece pieces) (filter (has_piece pieces) ids)

-- How many ids were passed over.
unfoldable pub skips : List (List ℕ) → List ℕ → ℕ
skips pieces ids = count (λ (id : ℕ). not (has_piece pieces id)) ids

-- U+FFFD, EF BF BD.
unfoldable pub replacement : List ℕ
replacement = 0xEF ∷ 0xBF ∷ 0xBD ∷ []

-- Rule 12.2: U+FFFD for every stray byte.
unfoldable pub strays_replaced : List ℕ → List ℕ
strays_replaced bytes = join_map (λ (c : List ℕ). cond (is_char c) c replacement) (chars bytes)

-- Rule 12.3: a space for every mark.
unfoldable pub marks_spaced : List ℕ → List ℕ
marks_spaced bytes = join_map (λ (c : List ℕ). cond (same c mark) space c) (chars bytes)

-- The scheme puts a mark in front, of some sections or of all.
abbrev pub puts_mark : PrependScheme → Bool
puts_mark Never = false
puts_mark Always = true
puts_mark First = true

unfoldable pub scheme_prepends : Option Metaspace → Bool
scheme_prepends None = false
scheme_prepends (Some metaspace) = puts_mark metaspace.prepend

unfoldable pub is_prepend : Step → Bool
is_prepend (Prepend content) = true
is_prepend (Replace pattern content) = false
is_prepend (CollapseSpaces content) = false
is_prepend (Strip left right) = false

-- Rule 12.4: the model puts something in front of texts.
unfoldable pub prepends_space : Option Metaspace → List Step → Bool
prepends_space metaspace steps = scheme_prepends metaspace || any is_prepend steps

-- Without the space in front, where it is to go.
unfoldable pub leading_space_gone : Bool → List ℕ → List ℕ
leading_space_gone wanted bytes = cond (wanted && starts_with space bytes) (drop 1 bytes) bytes

unfoldable pub decoded_bytes : Model → List ℕ → List ℕ
decoded_bytes m ids = leading_space_gone (prepends_space m.metaspace (steps_of m)) (marks_spaced (strays_replaced (joined_bytes (pieces_of m) ids)))

-- Of the numbers beyond the model's only 12 is tested (rule 3.3); out is the result buffer's length.
unfoldable pub decode_number : Model → List ℕ → ℕ → ℕ
decode_number m ids out = lowest (model_tests m (length ids) ++ ((12, ltb out (length (decoded_bytes m ids))) ∷ []))

unfoldable pub decode_outcome : Model → List ℕ → List ℕ → Outcome
decode_outcome m ids out =
    let number = decode_number m ids (length out) in
    let result = decoded_bytes m ids in
    outcome number 0 (done (length result) 0 (skips (pieces_of m) ids)) result out
