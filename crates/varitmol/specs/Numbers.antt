-- Steps and metaspace as a caller in C gives them (rules 13.1 to 13.3). An exported function takes no enum, so they come as numbers: a kind and four
-- numbers a step, and two numbers for metaspace.
use Rattle.std.specs.Prelude.{ℕ, ◌+◌, ◌*◌, Bool, not, cond, ◌&&◌, ◌||◌, List, map, eqb, ltb, length, get_or, Option, None, Some}
use Rattle.utf8.specs.Lists.{any, numbered, below}
use Rattle.model.specs.declared.Answer.{Answer}
use Rattle.model.specs.declared.Span.{Span}
use Rattle.model.specs.declared.Step.{Step}
use Rattle.model.specs.declared.Step.TheVariants.{Prepend, Replace, CollapseSpaces, Strip}
use Rattle.model.specs.declared.PrependScheme.{PrependScheme}
use Rattle.model.specs.declared.PrependScheme.TheVariants.{Never, Always, First}
use Rattle.model.specs.declared.Metaspace.{Metaspace}
use Rattle.model.specs.Answers.{Outcome, ScratchOutcome, refused}
use Rattle.prepare.specs.Prepare.{PrepareOutcome}

-- The number at k of the four of the step at i.
unfoldable pub step_number : List ℕ → ℕ → ℕ → ℕ
step_number spans i k = get_or spans (i * 4 + k) 0

-- The string whose place stands at k; its length is the number after it.
unfoldable pub span_at : List ℕ → ℕ → ℕ → Span
span_at spans i k = record { place = step_number spans i k; len = step_number spans i (k + 1) }

-- The step of a kind and its numbers; a kind above 2 is read as a Strip here.
unfoldable pub step_of : ℕ → List ℕ → ℕ → Step
step_of kind spans i =
    cond (eqb kind 0) (Prepend (span_at spans i 0))
    (cond (eqb kind 1) (Replace (span_at spans i 0) (span_at spans i 2))
    (cond (eqb kind 2) (CollapseSpaces (span_at spans i 0))
    (Strip (eqb (step_number spans i 0) 1) (eqb (step_number spans i 1) 1))))

-- The array of 16 steps. Only as many as there are kinds are the model's; behind them, where spans are four a
-- kind, stand Strips that strip nothing.
unfoldable pub steps_from : List ℕ → List ℕ → List Step
steps_from kinds spans = map (λ (i : ℕ). step_of (get_or kinds i 3) spans i) (below 16)

-- The scheme of a metaspace that is present.
unfoldable pub scheme_of : ℕ → PrependScheme
scheme_of number = cond (eqb number 1) Never (cond (eqb number 2) Always First)

-- Metaspace from its two numbers.
unfoldable pub metaspace_from : ℕ → ℕ → Option Metaspace
metaspace_from metaspace split =
    cond (eqb metaspace 0) None (Some (record { prepend = scheme_of metaspace; split = eqb split 1 }))

-- A kind outside these, or a flag of a Strip that is neither 0 nor 1; a step is its place and its kind.
unfoldable pub wrong_step : List ℕ → ℕ × ℕ → Bool
wrong_step spans step =
    ltb 3 step.1 || eqb step.1 3 && (ltb 1 (step_number spans step.0 0) || ltb 1 (step_number spans step.0 1))

unfoldable pub wrong_steps : List ℕ → List ℕ → Bool
wrong_steps kinds spans = any (wrong_step spans) (numbered kinds)

-- The numbers stand for no steps and metaspace.
unfoldable pub wrong_numbers : List ℕ → List ℕ → ℕ → ℕ → Bool
wrong_numbers kinds spans metaspace split =
    ltb 16 (length kinds) || not (eqb (length spans) (length kinds * 4)) || wrong_steps kinds spans || ltb 3 metaspace || ltb 1 split

-- What a call answers: 1 where the numbers are wrong, else what it answers on the model.
unfoldable pub answered : Bool → Answer → Answer
answered wrong answer = cond wrong (refused 1 0) answer

-- The same of a call with a result buffer; a 1 leaves it as it was.
unfoldable pub answered_result : Bool → List ℕ → Outcome → Outcome
answered_result wrong out outcome = cond wrong (record { answer = refused 1 0; out = out }) outcome

-- The same of a call with scratch too.
unfoldable pub answered_scratch : Bool → List ℕ → List ℕ → List ℕ → ScratchOutcome → ScratchOutcome
answered_scratch wrong out a b outcome = cond wrong (record { answer = refused 1 0; out = out; scratch_a = a; scratch_b = b }) outcome

-- The same of prepare.
unfoldable pub answered_prepare : Bool → List ℕ → List ℕ → PrepareOutcome → PrepareOutcome
answered_prepare wrong adjacency index outcome = cond wrong (record { answer = refused 1 0; adjacency = adjacency; index = index }) outcome
