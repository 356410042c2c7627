-- The call encode. Ids, drops and the count that 12 looks at are sums over the parts of the text.
use Rattle.std.specs.Prelude.{ℕ, min, Bool, not, ◌&&◌, List, [], ◌∷◌, ◌++◌, map, ltb, length, Option, None, Some}
use Rattle.utf8.specs.Lists.{join_map, sum}
use Rattle.utf8.specs.Chars.{valid}
use Rattle.model.specs.Model.{Model}
use Rattle.model.specs.Answers.{lowest, done, place_of, outcome, ScratchOutcome, with_scratch}
use Rattle.model.specs.Check.{model_tests}
use Rattle.normalise.specs.Steps.{step_outputs}
use Rattle.normalise.specs.Spaces.{metaspace_output}
use Rattle.normalise.specs.Normalise.{outgrows}
use Rattle.units.specs.Kinds.{raw_path, has_raw_path}
use Rattle.units.specs.declared.RawPrepend.{RawPrepend}
use Rattle.sections.specs.Sections.{Item, token, plain, Section, bytes_of, sections}
use Rattle.sections.specs.SecondList.{NormalPart}
use Rattle.stretches.specs.Stretches.{ids_of, drops_of, starts_of, held}
use Rattle.encode.specs.Parts.{normal_parts_of, parts}

unfoldable pub encoded_ids : Model → Bool → List ℕ → List ℕ
encoded_ids m continuation text = join_map (ids_of m) (parts m continuation text)

unfoldable pub drops : Model → Bool → List ℕ → ℕ
drops m continuation text = sum (map (drops_of m) (parts m continuation text))

unfoldable pub starting_count : Model → Bool → List ℕ → ℕ
starting_count m continuation text = sum (map (starts_of m) (parts m continuation text))

unfoldable pub metaspace_output_of : Model → Item NormalPart → List (List ℕ)
metaspace_output_of m (token id) = []
metaspace_output_of m (plain part) = metaspace_output m.metaspace part.first part.bytes

-- The outputs of the steps on a section and of metaspace on its parts.
unfoldable pub section_outputs : Model → List ℕ → Item Section → List (List ℕ)
section_outputs m text (token id) = []
section_outputs m text (plain section) =
    step_outputs m (bytes_of text section) ++ join_map (metaspace_output_of m) (normal_parts_of m text section)

-- The outputs that 11 looks at (rule 3.4): none on the raw path.
unfoldable pub encode_outputs : Model → Option RawPrepend → List ℕ → List (List ℕ)
encode_outputs m (Some prepend) text = []
encode_outputs m None text = join_map (section_outputs m text) (sections m.first text)

-- out is the result buffer's length, room that of the shorter scratch buffer.
unfoldable pub encode_number : Model → Bool → List ℕ → ℕ → ℕ → ℕ
encode_number m continuation text out room =
    lowest
    (model_tests m (length text)
    ++ ((9, not (valid text))
    ∷ (10, continuation && not (has_raw_path (raw_path m)))
    ∷ (11, outgrows (encode_outputs m (raw_path m) text) room)
    ∷ (12, ltb out (starting_count m continuation text))
    ∷ []))

unfoldable pub encode_outcome : Model → List ℕ → Bool → List ℕ → List ℕ → List ℕ → ScratchOutcome
encode_outcome m text continuation out a b =
    let number = encode_number m continuation text (length out) (min (length a) (length b)) in
    let ids = encoded_ids m continuation text in
    with_scratch number (outcome number (place_of number text) (done (length ids) (held (drops m continuation text)) 0) ids out) a b
