-- The call normalise (rule 4.7).
use Rattle.std.specs.Prelude.{ℕ, min, Bool, not, List, [], ◌∷◌, ◌++◌, ltb, length}
use Rattle.utf8.specs.Lists.{any}
use Rattle.utf8.specs.Chars.{valid}
use Rattle.model.specs.Model.{Model}
use Rattle.model.specs.Answers.{lowest, done, place_of, outcome, ScratchOutcome, with_scratch}
use Rattle.model.specs.Check.{model_tests}
use Rattle.normalise.specs.Steps.{step_outputs, stepped}
use Rattle.normalise.specs.Spaces.{metaspace_output, metaspaced}

unfoldable pub normalised : Model → Bool → List ℕ → List ℕ
normalised m first text = metaspaced m.metaspace first (stepped m text)

-- Rule 3.4: some output does not fit; room is the length of the shorter scratch buffer.
unfoldable pub outgrows : List (List ℕ) → ℕ → Bool
outgrows outputs room = any (λ (output : List ℕ). ltb room (length output)) outputs

-- The outputs that 11 looks at.
unfoldable pub normalise_outputs : Model → Bool → List ℕ → List (List ℕ)
normalise_outputs m first text = step_outputs m text ++ metaspace_output m.metaspace first (stepped m text)

-- out is the result buffer's length, room that of the shorter scratch buffer.
unfoldable pub normalise_number : Model → Bool → List ℕ → ℕ → ℕ → ℕ
normalise_number m first text out room =
    lowest
    (model_tests m (length text)
    ++ ((9, not (valid text)) ∷ (11, outgrows (normalise_outputs m first text) room) ∷ (12, ltb out (length (normalised m first text))) ∷ []))

unfoldable pub normalise_outcome : Model → List ℕ → Bool → List ℕ → List ℕ → List ℕ → ScratchOutcome
normalise_outcome m text first out a b =
    let number = normalise_number m first text (length out) (min (length a) (length b)) in
    let result = normalised m first text in
    with_scratch number (outcome number (place_of number text) (done (length result) 0 0) result out) a b
