-- `model::check` meets its contract: the answer is that of the first test that applies.
use mathlib.Core.Path.{◌≡◌, refl, sym, ap₂, ◌∙◌}
use mathlib.Core.Bool.{Bool, true, false, ◌||◌}
use mathlib.Core.List.{List, ◌∷◌}
use Prim.Native.Nat.{ℕ, ◌<◌}
use native.Mathlib.Omega.{arith}
use Rattle.model.specs.declared.Answer.{Answer}
use Rattle.model.specs.Answers.{refused}
use Rattle.model.specs.Model.{Model, columns, contents, pieces_of, steps_of}
use Rattle.model.specs.Check.{wrong_sizes, wrong_list_sizes, text_too_long, offsets_astray, bad_step, model_tests, check_outcome}
use Rattle.model.proofs.Accepted.{sizes_fine, DecidedBy, Undecided, nothing_decided, others_decide, first_decides, refuses, accepts}
use Rattle.model.proofs.check.Goals as goal
use Rattle.model.proofs.check.Goals.{then-bad_token-via-then-bad_token, then-bad_token-via-else-bad_token+then-bad_token-2, Else-bad_fallback, Else-bad_lookup, Else-bad_piece, Else-bad_row, Else-bad_token-2, Else-offsets_astray, Else-wrong_sizes, Start}

-- the lent columns as a model
abbrev lent : Start → Model
lent s =
    columns s.args.model.now

abbrev after_1 : Else-wrong_sizes → Model
after_1 e = lent (goal.at.Else-wrong_sizes e).Start

abbrev after_2 : Else-offsets_astray → Model
after_2 e = after_1 (goal.at.Else-offsets_astray e).Else-wrong_sizes

abbrev after_3 : Else-bad_piece → Model
after_3 e = after_2 (goal.at.Else-bad_piece e).Else-offsets_astray

abbrev after_4 : Else-bad_lookup → Model
after_4 e = after_3 (goal.at.Else-bad_lookup e).Else-bad_piece

abbrev after_5 : Else-bad_fallback → Model
after_5 e = after_4 (goal.at.Else-bad_fallback e).Else-bad_lookup

abbrev after_6 : Else-bad_row → Model
after_6 e = after_5 (goal.at.Else-bad_row e).Else-bad_fallback

abbrev after_7 : Else-bad_token-2 → Model
after_7 e = after_6 (goal.at.Else-bad_token-2 e).Else-bad_row

-- what the test of sizes said
fine_sizes : (e : Else-wrong_sizes) → wrong_sizes (after_1 e) ≡ false
unfolding wrong_sizes wrong_list_sizes steps_of
fine_sizes e = sym e.wrong_sizes.ensures ∙ e.if-wrong_sizes.false

-- which tests still decide behind each one that did not apply
left_1 : (e : Else-wrong_sizes) → Undecided 1 (after_1 e)
unfolding model_tests text_too_long
left_1 e = others_decide (nothing_decided (after_1 e)) (rw (fine_sizes e))

left_2 : (e : Else-offsets_astray) → Undecided 2 (after_2 e)
unfolding model_tests offsets_astray steps_of
left_2 e = others_decide (left_1 (goal.at.Else-offsets_astray e).Else-wrong_sizes) (sym e.offsets_astray.ensures ∙ e.if-offsets_astray.false)

left_3 : (e : Else-bad_piece) → Undecided 3 (after_3 e)
unfolding model_tests pieces_of
left_3 e = others_decide (left_2 (goal.at.Else-bad_piece e).Else-offsets_astray) (sym e.bad_piece.ensures ∙ e.if-bad_piece.false)

left_4 : (e : Else-bad_lookup) → Undecided 4 (after_4 e)
unfolding model_tests pieces_of
left_4 e = others_decide (left_3 (goal.at.Else-bad_lookup e).Else-bad_piece) (sym e.bad_lookup.ensures ∙ e.if-bad_lookup.false)

left_5 : (e : Else-bad_fallback) → Undecided 5 (after_5 e)
unfolding model_tests pieces_of
left_5 e = others_decide (left_4 (goal.at.Else-bad_fallback e).Else-bad_lookup) (sym e.bad_fallback.ensures ∙ e.if-bad_fallback.false)

left_6 : (e : Else-bad_row) → Undecided 6 (after_6 e)
unfolding model_tests pieces_of
left_6 e = others_decide (left_5 (goal.at.Else-bad_row e).Else-bad_fallback) (sym e.bad_row.ensures ∙ e.if-bad_row.false)

left_7 : (e : Else-bad_token-2) → Undecided 7 (after_7 e)
unfolding model_tests contents
left_7 e =
    others_decide (left_6 (goal.at.Else-bad_token-2 e).Else-bad_row)
    (ap₂ ◌||◌ (sym e.bad_token.ensures ∙ e.if-bad_token.false) (sym e.bad_token-else-bad_token.ensures ∙ e.if-bad_token-2.false))

-- a refusal by the first of the tests that still decide
refusal : (m : Model) (answer : Answer) {number : ℕ} {b : Bool} {tests : List (ℕ × Bool)} → 0 < number → answer ≡ refused number 0 → DecidedBy ((number, b) ∷ tests) m → b ≡ true → answer ≡ check_outcome m
refusal m answer h e decided t = e ∙ sym (refuses m _ h (first_decides decided t))

pub returns-then-wrong_sizes : goal.returns-then-wrong_sizes
unfolding model_tests wrong_sizes wrong_list_sizes text_too_long steps_of
returns-then-wrong_sizes c =
    refusal (lent (goal.at.returns-then-wrong_sizes c).Start) _ (omega arith) refl (nothing_decided (lent (goal.at.returns-then-wrong_sizes c).Start))
    (rw (sym c.wrong_sizes.ensures ∙ c.if-wrong_sizes.true))

pub offsets_astray-requires : goal.offsets_astray-requires
offsets_astray-requires c =
    let sizes = sizes_fine (after_1 c) (fine_sizes c) in
    (sizes.piece_row, sizes.first.row, sizes.second.row, sizes.steps)

pub returns-then-offsets_astray : goal.returns-then-offsets_astray
unfolding model_tests offsets_astray steps_of
returns-then-offsets_astray c =
    refusal (after_1 (goal.at.returns-then-offsets_astray c).Else-wrong_sizes) _ (omega arith) refl (left_1 (goal.at.returns-then-offsets_astray c).Else-wrong_sizes)
    (sym c.offsets_astray.ensures ∙ c.if-offsets_astray.true)

pub returns-then-bad_piece : goal.returns-then-bad_piece
unfolding model_tests pieces_of
returns-then-bad_piece c =
    refusal (after_2 (goal.at.returns-then-bad_piece c).Else-offsets_astray) _ (omega arith) refl (left_2 (goal.at.returns-then-bad_piece c).Else-offsets_astray)
    (sym c.bad_piece.ensures ∙ c.if-bad_piece.true)

pub returns-then-bad_lookup : goal.returns-then-bad_lookup
unfolding model_tests pieces_of
returns-then-bad_lookup c =
    refusal (after_3 (goal.at.returns-then-bad_lookup c).Else-bad_piece) _ (omega arith) refl (left_3 (goal.at.returns-then-bad_lookup c).Else-bad_piece)
    (sym c.bad_lookup.ensures ∙ c.if-bad_lookup.true)

pub returns-then-bad_fallback : goal.returns-then-bad_fallback
unfolding model_tests pieces_of
returns-then-bad_fallback c =
    refusal (after_4 (goal.at.returns-then-bad_fallback c).Else-bad_lookup) _ (omega arith) refl (left_4 (goal.at.returns-then-bad_fallback c).Else-bad_lookup)
    (sym c.bad_fallback.ensures ∙ c.if-bad_fallback.true)

pub returns-then-bad_row : goal.returns-then-bad_row
unfolding model_tests pieces_of
returns-then-bad_row c =
    refusal (after_5 (goal.at.returns-then-bad_row c).Else-bad_fallback) _ (omega arith) refl (left_5 (goal.at.returns-then-bad_row c).Else-bad_fallback)
    (sym c.bad_row.ensures ∙ c.if-bad_row.true)

pub returns-then-bad_token : goal.returns-then-bad_token
unfolding model_tests contents
returns-then-bad_token c =
    refusal (after_6 (goal.at.returns-then-bad_token c).Else-bad_row) _ (omega arith) refl (left_6 (goal.at.returns-then-bad_token c).Else-bad_row)
    (elim c.then-bad_token.branch [
      | then-bad_token-via-then-bad_token w ↦ ap₂ ◌||◌ (sym c.bad_token.ensures ∙ w.if-bad_token.true) refl
      | then-bad_token-via-else-bad_token+then-bad_token-2 w ↦ ap₂ ◌||◌ (sym c.bad_token.ensures ∙ w.if-bad_token.false) (sym w.bad_token-else-bad_token.ensures ∙ w.if-bad_token-2.true)
    ])

pub steps_fail-requires : goal.steps_fail-requires
steps_fail-requires c = (sizes_fine (after_1 (goal.at.steps_fail-requires c).Else-wrong_sizes) (fine_sizes (goal.at.steps_fail-requires c).Else-wrong_sizes)).steps

pub returns-then-steps_fail : goal.returns-then-steps_fail
unfolding model_tests bad_step steps_of
returns-then-steps_fail c =
    refusal (after_7 (goal.at.returns-then-steps_fail c).Else-bad_token-2) _ (omega arith) refl (left_7 (goal.at.returns-then-steps_fail c).Else-bad_token-2)
    (sym c.steps_fail.ensures ∙ c.if-steps_fail.true)

pub returns : goal.returns
unfolding model_tests bad_step steps_of
returns c =
    let b = (goal.at.returns c).Else-bad_token-2 in
    let left_8 : Undecided 8 (after_7 b) = others_decide (left_7 b) (sym c.steps_fail.ensures ∙ c.if-steps_fail.false) in
    sym (accepts (after_7 b) left_8.number)
