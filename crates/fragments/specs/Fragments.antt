-- The call fragments.
use Rattle.std.specs.Prelude.{ℕ, ◌+◌, max, not, cond, List, [], ◌∷◌, ◌++◌, leb, ltb, length}
use Rattle.utf8.specs.Lists.{filter, neighbours, join_map, below}
use Rattle.utf8.specs.Chars.{valid}
use Rattle.model.specs.Model.{Model}
use Rattle.model.specs.Answers.{lowest, done, place_of, outcome, Outcome}
use Rattle.model.specs.Check.{model_tests}
use Rattle.units.specs.Kinds.{raw_path, has_raw_path}
use Rattle.fragments.specs.Safe.{is_safe}

-- Of places in ascending order, each that is the first at least step past the last one taken.
abbrev pub cuts_from : ℕ → ℕ → List ℕ → List ℕ
cuts_from step last [] = []
cuts_from step last (p ∷ places) =
    let here = p ∷ cuts_from step p places in
    let later = cuts_from step last places in
    cond (leb (last + step) p) here later

-- Rule 11.2: the places where the text is cut.
unfoldable pub cuts : Model → List ℕ → ℕ → List ℕ
cuts m text target = cuts_from (max target 1) 0 (filter (is_safe m text) (below (length text)))

-- From cut to cut; the empty text has the range 0..0.
unfoldable pub ranges : Model → List ℕ → ℕ → List (ℕ × ℕ)
ranges m text target = neighbours (0 ∷ cuts m text target ++ (length text ∷ []))

unfoldable pub range_numbers : Model → List ℕ → ℕ → List ℕ
range_numbers m text target = join_map (λ (r : ℕ × ℕ). r.0 ∷ r.1 ∷ []) (ranges m text target)

-- out is the result buffer's length.
unfoldable pub fragments_number : Model → List ℕ → ℕ → ℕ → ℕ
fragments_number m text target out =
    lowest
    (model_tests m (length text)
    ++ ((9, not (valid text)) ∷ (10, not (has_raw_path (raw_path m))) ∷ (12, ltb out (length (range_numbers m text target))) ∷ []))

unfoldable pub fragments_outcome : Model → List ℕ → ℕ → List ℕ → Outcome
fragments_outcome m text target out =
    let number = fragments_number m text target (length out) in
    let result = range_numbers m text target in
    outcome number (place_of number text) (done (length result) 0 0) result out
