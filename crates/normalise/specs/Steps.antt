-- The four steps, and their run.
use Rattle.std.specs.Prelude.{ℕ, Bool, cond, List, [], ◌∷◌, ◌++◌, eqb, leb, length}
use Rattle.utf8.specs.Lists.{is_empty, take_while, join_map, cut_by, same, starts_with, last_or}
use Rattle.utf8.specs.Chars.{chars}
use Rattle.utf8.specs.WhiteSpace.{trim_start, trim_end}
use Rattle.model.specs.Model.{Model, steps_of, step_string}
use Rattle.model.specs.declared.Step.{Step}
use Rattle.model.specs.declared.Step.TheVariants.{Prepend, Replace, CollapseSpaces, Strip}

-- Prepend (rule 4.2).
unfoldable pub prepended : List ℕ → List ℕ → List ℕ
prepended content text = cond (is_empty text) text (content ++ text)

-- The text cut from its front into occurrences of the pattern and single bytes.
unfoldable pub occurrences : List ℕ → List ℕ → List (List ℕ)
occurrences pattern text = cut_by (λ (rest : List ℕ). cond (starts_with pattern rest) (length pattern) 1) text

-- Replace (rule 4.3); the empty pattern stands in front of every character and behind the last.
unfoldable pub replaced : List ℕ → List ℕ → List ℕ → List ℕ
replaced pattern content text =
    cond (is_empty pattern) (join_map (λ (c : List ℕ). content ++ c) (chars text) ++ content)
    (join_map (λ (part : List ℕ). cond (same part pattern) content part) (occurrences pattern text))

-- The spaces at the head.
unfoldable pub space_run : List ℕ → List ℕ
space_run text = take_while (eqb 0x20) text

-- CollapseSpaces (rule 4.4).
unfoldable pub collapsed : List ℕ → List ℕ → List ℕ
collapsed content text =
    join_map (λ (part : List ℕ). cond (leb 2 (length part)) content part) (cut_by (λ (rest : List ℕ). length (space_run rest)) text)

-- Strip (rule 4.5).
unfoldable pub stripped : Bool → Bool → List ℕ → List ℕ
stripped left right text =
    let rest = cond left (trim_start text) text in
    cond right (trim_end rest) rest

unfoldable pub applied : List ℕ → Step → List ℕ → List ℕ
applied bytes (Prepend content) text = prepended (step_string bytes content) text
applied bytes (Replace pattern content) text = replaced (step_string bytes pattern) (step_string bytes content) text
applied bytes (CollapseSpaces content) text = collapsed (step_string bytes content) text
applied bytes (Strip left right) text = stripped left right text

-- Rule 4.1: the output of each step.
abbrev pub outputs_of : List ℕ → List Step → List ℕ → List (List ℕ)
outputs_of bytes [] text = []
outputs_of bytes (step ∷ steps) text = applied bytes step text ∷ outputs_of bytes steps (applied bytes step text)

unfoldable pub step_outputs : Model → List ℕ → List (List ℕ)
step_outputs m text = outputs_of m.step_bytes (steps_of m) text

-- The text after all steps.
unfoldable pub stepped : Model → List ℕ → List ℕ
stepped m text = last_or text (step_outputs m text)
