-- The outcome of decode, by the first test that applies. Assumes nothing.
use Prim.Native.Nat.{ℕ, ◌+◌, ◌*◌, ◌-◌, ◌≤◌, ◌<◌}
use native.Mathlib.Nat.{suc-ne-zero}
use native.Mathlib.Omega.{arith}
use mathlib.Core.Path.{◌≡◌, refl, sym, ap, ◌∙◌}
use mathlib.Core.Bool.{Bool, true, false, not}
use mathlib.Core.List.{List, [], ◌∷◌, ◌++◌}
use borrow.Author.Tests.{ne_eqb, lt-ltb, le-ltb, leb-true, leb-false}
use lib.Dec.{ltb, leb}
use lib.ListN.{length, take, get_or}
use Rattle.utf8.specs.Lists.{count}
use Rattle.utf8.specs.Chars.{chars}
use Rattle.model.specs.Model.{Model, strings, pieces_of, steps_of}
use Rattle.model.specs.Answers.{lowest, zeros, filled, Outcome, outcome, done, refused}
use Rattle.model.specs.Check.{model_tests, check_number, check_outcome, text_too_long}
use Rattle.model.specs.declared.Answer.{Answer}
use Rattle.model.proofs.Accepted.{accepted}
use Rattle.model.proofs.AnswerLaws.{lowest_later, lowest-first, tests_positive, tests_of_check, text_too_long_lem, check_refuses, number-checked}
use Rattle.model.proofs.StringLaws.{length-strings, string_short}
use Rattle.decode.specs.Decode.{has_piece, joined_bytes, skips, prepends_space, decoded_bytes, decode_number, decode_outcome}
use Rattle.decode.specs.inner.Feeding.{largest, shown_text, Front, ids_outcome}
use Rattle.decode.proofs.TextLaws.{shown-length, decoded_text, joined_length}

-- ---- ids whose number is small enough

module _ (pieces : List (List ℕ)) (gone : Bool) (ids out : List ℕ) where
  abbrev text : List ℕ
  text = shown_text gone (chars (joined_bytes pieces ids))

  pub ids_short : (answer : Answer) → answer ≡ refused 12 0 → leb (length text) (length out) ≡ false → ◌≡◌ {A = Outcome} (record { answer = answer; out = out }) (ids_outcome pieces gone ids out)
  unfolding ids_outcome
  ids_short answer e h = rw (lt-ltb (length out) (length text) (leb-false (length text) (length out) h), e)

  pub ids-fit : (answer : Answer) (m written : ℕ) (full last : List ℕ) → leb (length text) (length out) ≡ true
      → Front text written full → length full ≡ length out
      → last ≡ take written full ++ zeros (length full - written)
      → m ≡ skips pieces ids → answer ≡ done written 0 m
      → ◌≡◌ {A = Outcome} (record { answer = answer; out = last }) (ids_outcome pieces gone ids out)
  unfolding ids_outcome filled
  ids-fit answer m written full last room f same l counts answered =
      let fits = leb-true (length text) (length out) room in
      rw (le-ltb (length out) (length text) fits, l, answered, counts, f.cells (omega arith), f.size, same)

-- How many ids have no piece, by the number of pieces.
pub skips-counted : (bytes offsets ids : List ℕ) (n : ℕ) → n ≡ length offsets - 1 → count (λ (id : ℕ). not (ltb id n)) ids ≡ skips (strings bytes offsets) ids
unfolding skips has_piece
skips-counted bytes offsets ids n e = rw (e, length-strings bytes offsets)

-- ---- the calls

-- What a call is lent.
pub record Lent : Type 0 where
  pub model : Model
  pub ids : List ℕ
  pub out : List ℕ

module _ (g : Lent) where
  abbrev pub wanted : Outcome
  wanted = decode_outcome g.model g.ids g.out

  -- an answer that leaves the buffer as it was
  abbrev pub kept : Answer → Outcome
  kept answer = record { answer = answer; out = g.out }

  abbrev rest : List (ℕ × Bool)
  rest = (12, ltb (length g.out) (length (decoded_bytes g.model g.ids))) ∷ []

  of_check : length g.ids ≤ 1048576 → lowest (model_tests g.model (length g.ids)) ≡ check_number g.model
  unfolding text_too_long
  of_check h = tests_of_check g.model (length g.ids) (le-ltb 1048576 (length g.ids) h)

  refused-model : (n : ℕ) → lowest (model_tests g.model (length g.ids)) ≡ n → (n ≡ 0 → ⊥) → wanted ≡ kept (refused n 0)
  unfolding decode_outcome decode_number outcome
  refused-model n e h =
      let some : lowest (model_tests g.model (length g.ids)) ≡ 0 → ⊥ = λ z. h (sym e ∙ z) in
      rw (lowest-first (model_tests g.model (length g.ids)) rest some, e, ne_eqb n 0 h)

  pub long_list : (answer : Answer) → answer ≡ refused 1 0 → 1048576 < length g.ids → kept answer ≡ wanted
  unfolding text_too_long
  long_list answer e h =
      ap kept e ∙ sym (refused-model 1 (text_too_long_lem g.model (length g.ids) (lt-ltb 1048576 (length g.ids) h)) (suc-ne-zero 0))

  pub bad_model : (checked : Answer) → checked ≡ check_outcome g.model → length g.ids ≤ 1048576 → (checked.number ≡ 0 → ⊥) → kept checked ≡ wanted
  bad_model checked e h n =
      let some : check_number g.model ≡ 0 → ⊥ = λ z. n (number-checked g.model checked e ∙ z) in
      ap kept (e ∙ check_refuses g.model some) ∙ sym (refused-model (check_number g.model) (of_check h) some)

  module _ (h : length g.ids ≤ 1048576) (fine : check_number g.model ≡ 0) where
    number-left : decode_number g.model g.ids (length g.out) ≡ lowest rest
    unfolding decode_number
    number-left = lowest_later (model_tests g.model (length g.ids)) rest (tests_positive g.model (length g.ids)) (of_check h ∙ fine)

    abbrev gone : Bool
    gone = prepends_space g.model.metaspace (steps_of g.model)

    -- Nothing is left but the buffer's room.
    pub good_list : (begun : Bool) → not begun ≡ gone → ids_outcome (pieces_of g.model) (not begun) g.ids g.out ≡ wanted
    unfolding ids_outcome decode_outcome outcome
    good_list begun e = go (ltb (length g.out) (length (decoded_bytes g.model g.ids))) refl
      where
        go : (b : Bool) → ltb (length g.out) (length (decoded_bytes g.model g.ids)) ≡ b → ids_outcome (pieces_of g.model) (not begun) g.ids g.out ≡ wanted
        go true f = rw (e, ← decoded_text g.model g.ids, number-left, f)
        go false f = rw (e, ← decoded_text g.model g.ids, number-left, f)

    piece_short : (i : ℕ) → length (get_or (pieces_of g.model) i []) ≤ 8388608
    unfolding pieces_of
    piece_short i = omega (arith, string_short g.model.piece_bytes g.model.piece_offsets i, (accepted g.model fine).sizes.byte_limit)

    -- A place in the text is no larger than a place can be.
    pub list_room : (begun : Bool) → length (shown_text (not begun) (chars (joined_bytes (pieces_of g.model) g.ids))) + 13 ≤ largest
    list_room begun =
        let bytes = joined_bytes (pieces_of g.model) g.ids in
        let many : length bytes ≤ 8388608 * length g.ids = joined_length (pieces_of g.model) 8388608 piece_short g.ids in
        omega (arith, shown-length (not begun) bytes, many, h)
