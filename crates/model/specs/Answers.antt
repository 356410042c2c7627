-- Answer numbers, and what every call leaves in what it was lent.
use Rattle.std.specs.Prelude.{ℕ, ◌-◌, Bool, cond, ◌||◌, List, [], ◌∷◌, ◌++◌, eqb, length, replicate, Result, Ok, Err, ⊤}
use Rattle.utf8.specs.Chars.{longest_valid_prefix}
use Rattle.model.specs.declared.Answer.{Answer}
use Rattle.model.specs.declared.Counts.{Counts}
use Rattle.model.specs.declared.Refusal.{Refusal}
use Rattle.model.specs.declared.Refusal.TheVariants.{WrongSize, OffsetsAstray, BadPiece, BadLookup, BadFallback, BadRow, BadToken, BadStep, BadText, NoRawPath, ScratchTooShort, ResultTooShort}

-- Rule 3.1: of tests in the order of their numbers, the first that applies; 0 if none does.
abbrev pub lowest : List (ℕ × Bool) → ℕ
lowest [] = 0
lowest (test ∷ tests) = let others = lowest tests in cond test.1 test.0 others

abbrev pub done : ℕ → ℕ → ℕ → Answer
done written drops skips = record { number = 0; place = 0; written = written; drops = drops; skips = skips }

-- Rule 3.8: a refusal counts nothing.
abbrev pub refused : ℕ → ℕ → Answer
refused number place = record { number = number; place = place; written = 0; drops = 0; skips = 0 }

-- Rule 3.7: only a 9 has a place.
unfoldable pub place_of : ℕ → List ℕ → ℕ
place_of number text = cond (eqb number 9) (length (longest_valid_prefix text)) 0

-- The number of a refusal, and its place.
abbrev pub number_of : Refusal → ℕ
number_of WrongSize = 1
number_of OffsetsAstray = 2
number_of BadPiece = 3
number_of BadLookup = 4
number_of BadFallback = 5
number_of BadRow = 6
number_of BadToken = 7
number_of BadStep = 8
number_of (BadText place) = 9
number_of NoRawPath = 10
number_of ScratchTooShort = 11
number_of ResultTooShort = 12

abbrev pub place_named : Refusal → ℕ
place_named (BadText place) = place
place_named WrongSize = 0
place_named OffsetsAstray = 0
place_named BadPiece = 0
place_named BadLookup = 0
place_named BadFallback = 0
place_named BadRow = 0
place_named BadToken = 0
place_named BadStep = 0
place_named NoRawPath = 0
place_named ScratchTooShort = 0
place_named ResultTooShort = 0

-- The answer of a call that gives counts or a refusal, and of one that only checks.
abbrev pub answer_of : Result Counts Refusal → Answer
answer_of (Ok counts) = done counts.written counts.drops counts.skips
answer_of (Err refusal) = refused (number_of refusal) (place_named refusal)

abbrev pub checked : Result ⊤ Refusal → Answer
checked (Ok done_) = done 0 0 0
checked (Err refusal) = refused (number_of refusal) (place_named refusal)

abbrev pub zeros : ℕ → List ℕ
zeros n = replicate n 0

-- Rule 3.9: the result, and zeros behind it.
unfoldable pub filled : List ℕ → List ℕ → List ℕ
filled result out = result ++ zeros (length out - length result)

-- Rule 3.10: what a call leaves in a scratch buffer.
unfoldable pub scratch_after : ℕ → List ℕ → List ℕ
scratch_after number scratch = cond (eqb number 0 || eqb number 11 || eqb number 12) (zeros (length scratch)) scratch

-- What a call with a result buffer leaves: the answer and the buffer.
pub record Outcome : Type 0 where
  pub answer : Answer
  pub out : List ℕ

-- What a call with a result buffer and two scratch buffers leaves.
pub record ScratchOutcome : Type 0 where
  pub answer : Answer
  pub out : List ℕ
  pub scratch_a : List ℕ
  pub scratch_b : List ℕ

-- The outcome of a call whose number is known: the result where it was accepted, the buffer as it was where not.
unfoldable pub outcome : ℕ → ℕ → Answer → List ℕ → List ℕ → Outcome
outcome number place accepted result out =
    cond (eqb number 0) (record { answer = accepted; out = filled result out }) (record { answer = refused number place; out = out })

-- The same with what becomes of scratch.
unfoldable pub with_scratch : ℕ → Outcome → List ℕ → List ℕ → ScratchOutcome
with_scratch number o a b =
    record { answer = o.answer; out = o.out; scratch_a = scratch_after number a; scratch_b = scratch_after number b }
