-- Bytes fed one after the other to a state: which characters and stray bytes each of them settles, which bytes stay held, and what
-- is put out for what is settled.
use Rattle.std.specs.Prelude.{ℕ, ◌+◌, ◌≤◌, ◌≡◌, Bool, true, false, not, cond, ◌&&◌, ◌||◌, List, [], ◌∷◌, ◌++◌, map, eqb, ltb, length, take, Option}
use Rattle.std.specs.Bool.{then_some}
use Rattle.std.proofs.lemmas.List.Edits.{sets}
use Rattle.utf8.specs.Lists.{is_empty, join_map, same, Range, within}
use Rattle.utf8.specs.Chars.{char_forms, chars, is_char}
use Rattle.model.specs.Model.{piece}
use Rattle.model.specs.Mark.{mark, space}
use Rattle.model.specs.Answers.{done, refused, filled, Outcome}
use Rattle.decode.specs.Decode.{joined_bytes, skips, replacement}
use Rattle.decode.specs.declared.Held.{Held}
use Rattle.decode.specs.declared.Held.TheVariants.{Nothing, One, Two, Three}
use Rattle.decode.specs.declared.Decoder.{Decoder}
use Rattle.decode.specs.declared.Progress.{Progress}

-- The largest place.
abbrev pub largest : ℕ
largest = 18446744073709551615

-- ---- characters that are not whole yet

-- The first of the forms that can begin with the byte; the empty one where none can.
abbrev pub form_among : List (List Range) → ℕ → List Range
form_among [] b = []
form_among ([] ∷ forms) b = form_among forms b
form_among ((range ∷ form) ∷ forms) b = cond (within range b) (range ∷ form) (form_among forms b)

unfoldable pub form_of : ℕ → List Range
form_of b = form_among char_forms b

-- The bytes lie in the first ranges of the form, and the form goes on.
abbrev pub begins_form : List Range → List ℕ → Bool
begins_form [] bytes = false
begins_form (range ∷ form) [] = true
begins_form (range ∷ form) (b ∷ bytes) = within range b && begins_form form bytes

-- More bytes can make a character of these.
unfoldable pub is_open : List ℕ → Bool
is_open [] = true
is_open (b ∷ bytes) = begins_form (form_of b) (b ∷ bytes)

-- The bytes held and the next one can't stand in one character.
unfoldable pub is_broken : List ℕ → ℕ → Bool
is_broken held b = not (is_empty held) && not (is_open (held ++ (b ∷ [])) || is_char (held ++ (b ∷ [])))

-- The next byte, and what is held in front of it.
unfoldable pub grown : List ℕ → ℕ → List ℕ
grown held b = cond (is_broken held b) [] held ++ (b ∷ [])

abbrev pub singles : List ℕ → List (List ℕ)
singles bytes = map (λ (b : ℕ). b ∷ []) bytes

-- What one byte settles: the bytes held, as stray ones, where it breaks off their character; what it makes whole, or itself.
unfoldable pub settled_by : List ℕ → ℕ → List (List ℕ)
settled_by held b = cond (is_broken held b) (singles held) [] ++ cond (is_open (grown held b)) [] (grown held b ∷ [])

-- What is held after it.
unfoldable pub held_next : List ℕ → ℕ → List ℕ
held_next held b = cond (is_open (grown held b)) (grown held b) []

-- The same for bytes one after the other.
abbrev pub settled : List ℕ → List ℕ → List (List ℕ)
settled held [] = []
settled held (b ∷ bytes) = settled_by held b ++ settled (held_next held b) bytes

abbrev pub held_after : List ℕ → List ℕ → List ℕ
held_after held [] = held
held_after held (b ∷ bytes) = held_after (held_next held b) bytes

-- ---- what is put out

-- A character as it is shown: a mark as a space; a stray byte as U+FFFD.
unfoldable pub shown : List ℕ → List ℕ
shown c = cond (is_char c) (cond (same c mark) space c) replacement

-- The first one, where a space in front is to go.
unfoldable pub shown_first : Bool → List ℕ → List ℕ
shown_first gone c = cond (gone && same (shown c) space) [] (shown c)

-- Characters and stray bytes as they are shown.
abbrev pub shown_text : Bool → List (List ℕ) → List ℕ
shown_text gone [] = []
shown_text gone (c ∷ cs) = shown_first gone c ++ join_map shown cs

-- ---- the state

abbrev pub bytes_of : Held → List ℕ
bytes_of Nothing = []
bytes_of (One a) = a ∷ []
bytes_of (Two a b) = a ∷ b ∷ []
bytes_of (Three a b c) = a ∷ b ∷ c ∷ []

-- What holds these bytes, of which there are three at the most.
abbrev pub held_of : List ℕ → Held
held_of [] = Nothing
held_of (a ∷ []) = One a
held_of (a ∷ b ∷ []) = Two a b
held_of (a ∷ b ∷ c ∷ bytes) = Three a b c

-- One byte more, where they can still become a character.
unfoldable pub longer : List ℕ → ℕ → Option Held
longer held b = then_some (is_open (held ++ (b ∷ []))) (held_of (held ++ (b ∷ [])))

-- The bytes that a state holds.
abbrev pub held_by : Decoder → List ℕ
held_by s = bytes_of s.held

-- The state that holds these bytes.
unfoldable pub holding : List ℕ → Bool → Decoder
holding bytes begun = record { held = held_of bytes; begun = begun }

-- A state that bytes can lead to: what it holds can still become a character.
pub record Sound (s : Decoder) : Type 0 where
  pub unfinished : is_open (held_by s) ≡ true

-- Nothing is held, and the first character is settled: a character that is whole can be put out as it is.
unfoldable pub is_idle : Decoder → Bool
is_idle s = is_empty (held_by s) && s.begun

-- How far the work has come, and the buffer.
pub record Fed : Type 0 where
  pub progress : Progress
  pub out : List ℕ

-- The place that comes next, and the buffer.
pub record Put : Type 0 where
  pub at : ℕ
  pub out : List ℕ

-- Bytes over the cells from a place on, as far as there are any.
unfoldable pub put : List ℕ → ℕ → List ℕ → Put
put bytes at out = record { at = at + length bytes; out = sets out at bytes }

-- A text that ends at a place, and the buffer that holds it in front where all of it fits.
pub record Front (text : List ℕ) (at : ℕ) (out : List ℕ) : Type 0 where
  pub size : at ≡ length text
  pub cells : length text ≤ length out → take at out ≡ text

-- What bytes put out in a state.
unfoldable pub put_out : Decoder → List ℕ → List ℕ
put_out s bytes = shown_text (not s.begun) (settled (held_by s) bytes)

-- The state after them.
unfoldable pub state_after : Decoder → List ℕ → Decoder
state_after s bytes = holding (held_after (held_by s) bytes) (s.begun || not (is_empty (settled (held_by s) bytes)))

unfoldable pub fed : Decoder → List ℕ → ℕ → List ℕ → Fed
fed s bytes at out =
    record {
      progress = record { decoder = state_after s bytes; at = at + length (put_out s bytes) };
      out = sets out at (put_out s bytes);
    }

-- ---- the call on a model that is accepted

-- What ids leave whose number is small enough; gone says whether a space in front goes.
unfoldable pub ids_outcome : List (List ℕ) → Bool → List ℕ → List ℕ → Outcome
ids_outcome pieces gone ids out =
    let result = shown_text gone (chars (joined_bytes pieces ids)) in
    cond (ltb (length out) (length result))
    (record { answer = refused 12 0; out = out })
    (record { answer = done (length result) 0 (skips pieces ids); out = filled result out })

-- ---- room

-- The most bytes that a piece becomes: a byte alone may be shown as three, another piece is valid.
abbrev pub most_of : List ℕ → ℕ
most_of p = cond (eqb (length p) 1) 3 (length p)

-- The same of the pieces of all ids.
abbrev pub most_for : List (List ℕ) → List ℕ → ℕ
most_for pieces [] = 0
most_for pieces (id ∷ ids) = most_of (piece pieces id) + most_for pieces ids
