-- The outcome of normalise, by the first test that applies.
use mathlib.Core.Path.{◌≡◌, refl, sym, ap, ◌∙◌}
use mathlib.Core.Bool.{Bool, true, false, not}
use mathlib.Core.List.{List, [], ◌∷◌}
use Prim.Native.Nat.{ℕ, ◌≤◌, ◌<◌, min}
use native.Mathlib.Nat.{suc-ne-zero}
use native.Mathlib.Omega.{arith}
use borrow.Author.Tests.{eq-eqb, ne_eqb, lt-ltb, le-ltb}
use lib.Dec.{ltb}
use lib.ListN.{length}
use Rattle.utf8.specs.Chars.{valid, longest_valid_prefix}
use Rattle.utf8.proofs.Valid.{valid_by_prefix}
use Rattle.model.specs.Model.{Model, steps_of}
use Rattle.model.specs.Answers.{lowest, zeros, place_of, scratch_after, Outcome, ScratchOutcome, outcome, with_scratch, refused}
use Rattle.model.specs.Check.{model_tests, check_number, check_outcome, text_too_long}
use Rattle.model.proofs.AnswerLaws.{lowest_later, lowest-first, tests_positive, tests_of_check, text_too_long_lem, model_bound, check_refuses, number-checked}
use Rattle.normalise.specs.Steps.{step_outputs, stepped}
use Rattle.normalise.specs.Spaces.{metaspaced}
use Rattle.normalise.specs.Normalise.{normalised, outgrows, normalise_outputs, normalise_number, normalise_outcome}
use Rattle.normalise.specs.inner.Run.{Run, standing, finished, ended, normal_run, settled_run}
use Rattle.model.specs.declared.Answer.{Answer}
use Rattle.normalise.proofs.StandLaws.{run_too_long, run_stands}

module _ (m : Model) (text : List ℕ) (first : Bool) (out a b : List ℕ) where
  abbrev room : ℕ
  room = min (length a) (length b)

  abbrev rest : List (ℕ × Bool)
  rest = (9, not (valid text)) ∷ (11, outgrows (normalise_outputs m first text) room) ∷ (12, ltb (length out) (length (normalised m first text))) ∷ []

  abbrev run : Run
  run = normal_run m.step_bytes (steps_of m) m.metaspace first text room a b

  -- A refusal other than 11 and 12 leaves everything as it was.
  abbrev refusal : ℕ → ℕ → ScratchOutcome
  refusal number place = record { answer = refused number place; out = out; scratch_a = a; scratch_b = b }

  later : lowest (model_tests m (length text)) ≡ 0 → normalise_number m first text (length out) room ≡ lowest rest
  unfolding normalise_number
  later e = lowest_later (model_tests m (length text)) rest (tests_positive m (length text)) e

  broken_text : lowest (model_tests m (length text)) ≡ 0 → valid text ≡ false → normalise_outcome m text first out a b ≡ refusal 9 (length (longest_valid_prefix text))
  unfolding normalise_outcome with_scratch outcome place_of scratch_after
  broken_text e v = rw (later e, v)

  settle : (g s : Bool) → valid text ≡ true → outgrows (normalise_outputs m first text) room ≡ g → ltb (length out) (length (normalised m first text)) ≡ s → lowest (model_tests m (length text)) ≡ 0 → normalise_outcome m text first out a b ≡ settled_run run text out a b
  unfolding normalise_outcome with_scratch outcome place_of scratch_after settled_run ended finished normalise_outputs step_outputs stepped normalised metaspaced
  settle true s v g f e = rw (later e, v, g, run_too_long m.step_bytes (steps_of m) m.metaspace first text room a b (omega arith) (omega arith) g)
  settle false true v g f e =
      let here = run_stands m.step_bytes (steps_of m) m.metaspace first text room a b (omega arith) (omega arith) g in
      rw (later e, v, g, f, here.fine, here.there, f)
  settle false false v g f e =
      let here = run_stands m.step_bytes (steps_of m) m.metaspace first text room a b (omega arith) (omega arith) g in
      rw (later e, v, g, f, here.fine, here.there, f)

  -- A fine model and a valid text: the run decides.
  fine_text : lowest (model_tests m (length text)) ≡ 0 → valid text ≡ true → normalise_outcome m text first out a b ≡ settled_run run text out a b
  fine_text e v = settle (outgrows (normalise_outputs m first text) room) (ltb (length out) (length (normalised m first text))) v refl refl e

  refused-model : (n : ℕ) → lowest (model_tests m (length text)) ≡ n → (n ≡ 0 → ⊥) → normalise_outcome m text first out a b ≡ refusal n 0
  unfolding normalise_outcome normalise_number with_scratch outcome place_of scratch_after
  refused-model n e h =
      let small : n ≤ 8 = (rw e at (model_bound m (length text))) in
      let some : lowest (model_tests m (length text)) ≡ 0 → ⊥ = λ z. h (sym e ∙ z) in
      rw (lowest-first (model_tests m (length text)) rest some, e, ne_eqb n 0 h, ne_eqb n 9 (λ z. omega arith), ne_eqb n 11 (λ z. omega arith), ne_eqb n 12 (λ z. omega arith))

-- What a call is lent.
pub record Lent : Type 0 where
  pub model : Model
  pub text : List ℕ
  pub first : Bool
  pub out : List ℕ
  pub scratch_a : List ℕ
  pub scratch_b : List ℕ

-- The outcome by what the code has tested.
module _ (g : Lent) where
  abbrev pub wanted : ScratchOutcome
  wanted = normalise_outcome g.model g.text g.first g.out g.scratch_a g.scratch_b

  -- an answer that leaves the buffers as they were
  abbrev pub kept : Answer → ScratchOutcome
  kept answer = record { answer = answer; out = g.out; scratch_a = g.scratch_a; scratch_b = g.scratch_b }

  abbrev pub whole_run : ScratchOutcome
  whole_run =
      settled_run (run g.model g.text g.first g.out g.scratch_a g.scratch_b) g.text g.out g.scratch_a g.scratch_b

  of_check : length g.text ≤ 1048576 → lowest (model_tests g.model (length g.text)) ≡ check_number g.model
  unfolding text_too_long
  of_check h = tests_of_check g.model (length g.text) (le-ltb 1048576 (length g.text) h)

  pub long_text : (answer : Answer) → answer ≡ refused 1 0 → 1048576 < length g.text → kept answer ≡ wanted
  unfolding text_too_long
  long_text answer e h =
      ap kept e
      ∙ sym
      (refused-model g.model g.text g.first g.out g.scratch_a g.scratch_b 1
      (text_too_long_lem g.model (length g.text) (lt-ltb 1048576 (length g.text) h)) (suc-ne-zero 0))

  pub bad_model : (checked : Answer) → checked ≡ check_outcome g.model → length g.text ≤ 1048576 → (checked.number ≡ 0 → ⊥) → kept checked ≡ wanted
  bad_model checked e h n =
      let some : check_number g.model ≡ 0 → ⊥ = λ z. n (number-checked g.model checked e ∙ z) in
      ap kept (e ∙ check_refuses g.model some)
      ∙ sym (refused-model g.model g.text g.first g.out g.scratch_a g.scratch_b (check_number g.model) (of_check h) some)

  pub bad_text : (answer : Answer) (prefix : ℕ) → answer ≡ refused 9 prefix → prefix ≡ length (longest_valid_prefix g.text) → length g.text ≤ 1048576 → check_number g.model ≡ 0 → (prefix ≡ length g.text → ⊥) → kept answer ≡ wanted
  bad_text answer prefix e is h n short =
      ap kept (e ∙ ap (refused 9) is)
      ∙ sym
      (broken_text g.model g.text g.first g.out g.scratch_a g.scratch_b (of_check h ∙ n)
      (valid_by_prefix g.text ∙ ne_eqb (length (longest_valid_prefix g.text)) (length g.text) (λ z. short (is ∙ z))))

  pub good_text : (prefix : ℕ) → prefix ≡ length (longest_valid_prefix g.text) → length g.text ≤ 1048576 → check_number g.model ≡ 0 → prefix ≡ length g.text → wanted ≡ whole_run
  good_text prefix is h n whole =
      fine_text g.model g.text g.first g.out g.scratch_a g.scratch_b (of_check h ∙ n)
      (valid_by_prefix g.text ∙ eq-eqb (length (longest_valid_prefix g.text)) (length g.text) (sym is ∙ whole))

-- What the calls of a normalization leave, put together.
pub settled_by_lem : (whole_run run : Run) (text out a b : List ℕ) (o : Outcome) (za zb : List ℕ)
    → run ≡ whole_run
    → o ≡ ended run.ran (standing text run.ran run.a run.b) out
    → za ≡ zeros (length a)
    → zb ≡ zeros (length b)
    → ◌≡◌ {A = ScratchOutcome} (record { answer = o.answer; out = o.out; scratch_a = za; scratch_b = zb }) (settled_run whole_run text out a b)
unfolding settled_run
settled_by_lem whole_run run text out a b o za zb r e fa fb = rw (e, fa, fb, ← r)
