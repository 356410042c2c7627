-- Tests of the model check as its inner functions make them.
use Rattle.std.specs.Prelude.{ℕ, Bool, not, ◌&&◌, List, ltb, length}
use Rattle.utf8.specs.Lists.{any}
use Rattle.model.specs.declared.Span.{Span}
use Rattle.model.specs.declared.steps.StepTest.{StepTest}
use Rattle.model.specs.declared.steps.StepTest.TheVariants.{Short, Inside, Text}
use Rattle.model.specs.Check.{is_listed, span_too_long, lies_outside, no_text}

-- The part of `piece_missing` that is about pieces of two bytes or more. That it is false can be told by
-- counting.
unfoldable pub is_long : List ℕ → Bool
is_long bytes = ltb 1 (length bytes)

unfoldable pub long_missing : List (List ℕ) → List ℕ → Bool
long_missing pieces lookup = any (λ (bytes : List ℕ). is_long bytes && not (is_listed pieces lookup bytes)) pieces

-- What the tests 1, 2 and 8 ask of a step's string.
abbrev pub span_fails : StepTest → List ℕ → Span → Bool
span_fails Short bytes span = span_too_long span
span_fails Inside bytes span = lies_outside bytes span
span_fails Text bytes span = no_text bytes span
