-- The outcome of encode, by the first test that applies. Assumes nothing.
use Rattle.std.specs.Prelude.{Some, None}
use mathlib.Core.Path.{◌≡◌, refl, sym, ap, fun_ext, ◌∙◌}
use mathlib.Core.Bool.{Bool, true, false, not, cond, ◌&&◌, ◌||◌, and-false}
use mathlib.Core.List.{List, [], ◌∷◌, ◌++◌}
use Prim.Native.Nat.{ℕ, ◌≤◌, ◌<◌, min}
use native.Mathlib.Nat.{suc-ne-zero}
use native.Mathlib.Omega.{arith}
use borrow.Author.Tests.{eq-eqb, ne_eqb, lt-ltb, le-ltb}
use lib.Dec.{eqb, ltb}
use lib.ListN.{length}
use Rattle.utf8.specs.Lists.{join_map}
use Rattle.utf8.specs.Chars.{valid, longest_valid_prefix}
use Rattle.utf8.proofs.Valid.{valid_by_prefix}
use Rattle.model.specs.Model.{Model, TokenList, steps_of}
use Rattle.model.specs.Answers.{lowest, zeros, done, place_of, scratch_after, Outcome, ScratchOutcome, outcome, with_scratch, refused}
use Rattle.model.specs.Check.{model_tests, check_number, check_outcome, text_too_long}
use Rattle.model.specs.declared.Answer.{Answer}
use Rattle.model.proofs.Accepted.{accepted}
use Rattle.model.proofs.AnswerLaws.{lowest_later, lowest-first, tests_positive, tests_of_check, text_too_long_lem, model_bound, check_refuses, number-checked}
use Rattle.normalise.specs.Steps.{outputs_of, step_outputs, stepped}
use Rattle.normalise.specs.Normalise.{outgrows}
use Rattle.units.specs.Kinds.{raw_path, has_raw_path}
use Rattle.units.specs.declared.RawPrepend.{RawPrepend}
use Rattle.units.proofs.AdjacencyLaws.{Small}
use Rattle.sections.specs.Sections.{Item, token, plain, taken_apart, Section, bytes_of, sections}
use Rattle.sections.specs.SecondList.{NormalPart}
use Rattle.stretches.specs.Stretches.{Stretch, stretch, held}
use Rattle.stretches.specs.inner.Tables.{Tables}
use Rattle.stretches.proofs.DerivedLaws.{tables_of}
use Rattle.encode.specs.Parts.{virtual_mark, raw_stretch, normal_stretch, normal_parts_of, stretches_of, parts}
use Rattle.encode.specs.Encode as definitions
use Rattle.encode.specs.Encode.{metaspace_output_of, encoded_ids, drops, starting_count, encode_outputs, encode_number, encode_outcome}
use Rattle.encode.specs.inner.Passes.{parts_outcome, item_outputs, part_stretch, part_outputs, Normal, parts_in, stretches_in, outputs_in, section_stretches, section_outputs, text_outcome}
use Rattle.encode.proofs.OutcomeLaws.{outcome_meant, raw_meant}
use Rattle.encode.proofs.BytesLaws.{bytes_small, valid_bytes, normal_bytes}

-- The answers that leave scratch zeroed.
abbrev clears : ℕ → Bool
clears n = eqb n 0 || eqb n 11 || eqb n 12

-- So do those that only room decides.
clears_short : (long short : Bool) → clears (cond long 11 (cond short 12 0)) ≡ true
clears_short true short = refl
clears_short false true = refl
clears_short false false = refl

-- ---- off the raw path

-- What normalizing takes of a model.
abbrev pub normal_of : Model → Normal
normal_of m = record { second = m.second; step_bytes = m.step_bytes; steps = steps_of m; metaspace = m.metaspace }

module _ (m : Model) (text : List ℕ) where
  part_outputs_lem : (item : Item NormalPart) → item_outputs (part_outputs m.metaspace) item ≡ metaspace_output_of m item
  unfolding metaspace_output_of
  part_outputs_lem (token id) = refl
  part_outputs_lem (plain part) = refl

  section_outputs_lem : (item : Item Section) → item_outputs (section_outputs (outputs_in (normal_of m)) text) item ≡ definitions.section_outputs m text item
  unfolding definitions.section_outputs outputs_in parts_in normal_parts_of stepped step_outputs
  section_outputs_lem (token id) = refl
  section_outputs_lem (plain section) =
      ap (λ (outputs : Item NormalPart → List (List ℕ)). outputs_of m.step_bytes (steps_of m) (bytes_of text section) ++ join_map outputs (normal_parts_of m text section)) (fun_ext part_outputs_lem)

  module _ (e : raw_path m ≡ None) where
    -- The outputs and the parts are those of the definitions.
    normal_outputs : join_map (item_outputs (section_outputs (outputs_in (normal_of m)) text)) (sections m.first text) ≡ encode_outputs m (raw_path m) text
    unfolding encode_outputs
    normal_outputs = rw e (ap (λ (outputs : Item Section → List (List ℕ)). join_map outputs (sections m.first text)) (fun_ext section_outputs_lem))

    normal_parts_lem : (continuation : Bool) → parts m continuation text ≡ taken_apart (section_stretches (stretches_in (normal_of m)) text) (sections m.first text)
    unfolding parts stretches_of normal_stretch normal_parts_of stepped step_outputs stretches_in parts_in part_stretch
    normal_parts_lem continuation = rw e

    -- So what encoding the parts leaves is the outcome of the text.
    normal_meant : check_number m ≡ 0 → (continuation : Bool) → Small text → (out : List ℕ)
        → let number = cond {A = ℕ} (ltb (length out) (starting_count m continuation text)) 12 0 in
        parts_outcome (tables_of m) (taken_apart (section_stretches (stretches_in (normal_of m)) text) (sections m.first text)) out
        ≡ outcome number (place_of number text) (done (length (encoded_ids m continuation text)) (held (drops m continuation text)) 0) (encoded_ids m continuation text) out
    unfolding starting_count encoded_ids drops
    normal_meant fine continuation small out =
        rw (normal_parts_lem continuation)
        (outcome_meant m fine (taken_apart (section_stretches (stretches_in (normal_of m)) text) (sections m.first text)) (normal_bytes (normal_of m) text (accepted m fine).step_texts small (sections m.first text)) text out)

-- ---- on it

-- Nothing is put out on the way, and a section is a stretch.
abbrev pub nothing : Bool → List ℕ → List (List ℕ)
nothing opening section = []

abbrev pub raw_stretches : RawPrepend → Bool → Bool → List ℕ → List (Item Stretch)
raw_stretches prepend continuation opening section = stretch section (virtual_mark prepend continuation opening section) true

none_out : (text : List ℕ) (items : List (Item Section)) → join_map (item_outputs (section_outputs nothing text)) items ≡ []
none_out text [] = refl
none_out text (token id ∷ items) = none_out text items
none_out text (plain section ∷ items) = none_out text items

raw_outcome : (t : Tables) (prepend : RawPrepend) (continuation : Bool) (first : TokenList) (text : List ℕ) (room : ℕ) (out : List ℕ)
    → text_outcome t nothing (raw_stretches prepend continuation) first text room out ≡ parts_outcome t (taken_apart (raw_stretch prepend continuation text) (sections first text)) out
unfolding text_outcome outgrows raw_stretch
raw_outcome t prepend continuation first text room out = rw (none_out text (sections first text))

-- ---- the first test that applies

module _ (m : Model) (text : List ℕ) (continuation : Bool) (out a b : List ℕ) where
  abbrev room : ℕ
  room = min (length a) (length b)

  abbrev no_path : Bool
  no_path = continuation && not (has_raw_path (raw_path m))

  abbrev too_long : Bool
  too_long = outgrows (encode_outputs m (raw_path m) text) room

  abbrev too_short : Bool
  too_short = ltb (length out) (starting_count m continuation text)

  abbrev rest : List (ℕ × Bool)
  rest = (9, not (valid text)) ∷ (10, no_path) ∷ (11, too_long) ∷ (12, too_short) ∷ []

  -- A refusal other than 11 and 12 leaves everything as it was.
  abbrev refusal : ℕ → ℕ → ScratchOutcome
  refusal number place = record { answer = refused number place; out = out; scratch_a = a; scratch_b = b }

  -- What a number leaves in the result buffer.
  abbrev left : ℕ → Outcome
  left n = outcome n (place_of n text) (done (length (encoded_ids m continuation text)) (held (drops m continuation text)) 0) (encoded_ids m continuation text) out

  -- The same with scratch zeroed.
  abbrev cleared : Outcome → ScratchOutcome
  cleared o = record { answer = o.answer; out = o.out; scratch_a = zeros (length a); scratch_b = zeros (length b) }

  left-long : left 11 ≡ record { answer = refused 11 0; out = out }
  unfolding outcome place_of
  left-long = refl

  later : lowest (model_tests m (length text)) ≡ 0 → encode_number m continuation text (length out) room ≡ lowest rest
  unfolding encode_number
  later e = lowest_later (model_tests m (length text)) rest (tests_positive m (length text)) e

  refused-model : (n : ℕ) → lowest (model_tests m (length text)) ≡ n → (n ≡ 0 → ⊥) → encode_outcome m text continuation out a b ≡ refusal n 0
  unfolding encode_outcome encode_number with_scratch outcome place_of scratch_after
  refused-model n e h =
      let small : n ≤ 8 = (rw e at (model_bound m (length text))) in
      let some : lowest (model_tests m (length text)) ≡ 0 → ⊥ = λ z. h (sym e ∙ z) in
      rw (lowest-first (model_tests m (length text)) rest some, e, ne_eqb n 0 h, ne_eqb n 9 (λ z. omega arith), ne_eqb n 11 (λ z. omega arith), ne_eqb n 12 (λ z. omega arith))

  module _ (fine : lowest (model_tests m (length text)) ≡ 0) where
    broken_text : valid text ≡ false → encode_outcome m text continuation out a b ≡ refusal 9 (length (longest_valid_prefix text))
    unfolding encode_outcome with_scratch outcome place_of scratch_after
    broken_text v = rw (later fine, v)

    module _ (v : valid text ≡ true) where
      lost_path : no_path ≡ true → encode_outcome m text continuation out a b ≡ refusal 10 0
      unfolding encode_outcome with_scratch outcome place_of scratch_after
      lost_path e = rw (later fine, v, e)

      -- With a path, where one is needed, only room can be missing.
      room_decides : no_path ≡ false → (long short : Bool) → too_long ≡ long → too_short ≡ short → cleared (left (cond long 11 (cond short 12 0))) ≡ encode_outcome m text continuation out a b
      unfolding encode_outcome with_scratch scratch_after
      room_decides e long short l s = rw (later fine, v, e, l, s, clears_short long short)

      on_raw_path : check_number m ≡ 0 → (prepend : RawPrepend) → raw_path m ≡ Some prepend → Small text → {o : Outcome} {za zb : List ℕ}
          → o ≡ text_outcome (tables_of m) nothing (raw_stretches prepend continuation) m.first text room out → za ≡ zeros (length a) → zb ≡ zeros (length b)
          → ◌≡◌ {A = ScratchOutcome} (record { answer = o.answer; out = o.out; scratch_a = za; scratch_b = zb }) (encode_outcome m text continuation out a b)
      unfolding has_raw_path encode_outputs outgrows
      on_raw_path ok prepend e small is fa fb =
          rw (is, fa, fb, raw_outcome (tables_of m) prepend continuation m.first text room out, raw_meant m ok prepend e continuation text small out)
          (room_decides (rw e (and-false continuation)) false too_short (rw e) refl)

      normal_left : check_number m ≡ 0 → raw_path m ≡ None → Small text → text_outcome (tables_of m) (outputs_in (normal_of m)) (stretches_in (normal_of m)) m.first text room out ≡ left (cond too_long 11 (cond too_short 12 0))
      unfolding text_outcome
      normal_left ok e small = rw (normal_outputs m text e, normal_meant m text e ok continuation small out) (go too_long)
        where
          go : (long : Bool) → cond long (record { answer = refused 11 0; out = out }) (left (cond too_short 12 0)) ≡ left (cond long 11 (cond too_short 12 0))
          go true = sym left-long
          go false = refl

      off_raw_path : check_number m ≡ 0 → raw_path m ≡ None → continuation ≡ false → Small text → {o : Outcome} {za zb : List ℕ}
          → o ≡ text_outcome (tables_of m) (outputs_in (normal_of m)) (stretches_in (normal_of m)) m.first text room out → za ≡ zeros (length a) → zb ≡ zeros (length b)
          → ◌≡◌ {A = ScratchOutcome} (record { answer = o.answer; out = o.out; scratch_a = za; scratch_b = zb }) (encode_outcome m text continuation out a b)
      off_raw_path ok e c small is fa fb =
          rw (is, fa, fb, normal_left ok e small)
          (room_decides (rw c) too_long too_short refl refl)

-- What a call is lent.
pub record Lent : Type 0 where
  pub model : Model
  pub text : List ℕ
  pub continuation : Bool
  pub out : List ℕ
  pub scratch_a : List ℕ
  pub scratch_b : List ℕ

-- The outcome by what the code has tested.
module _ (g : Lent) where
  abbrev pub wanted : ScratchOutcome
  wanted = encode_outcome g.model g.text g.continuation g.out g.scratch_a g.scratch_b

  -- an answer that leaves the buffers as they were
  abbrev pub kept : Answer → ScratchOutcome
  kept answer = record { answer = answer; out = g.out; scratch_a = g.scratch_a; scratch_b = g.scratch_b }

  of_check : length g.text ≤ 1048576 → lowest (model_tests g.model (length g.text)) ≡ check_number g.model
  unfolding text_too_long
  of_check h = tests_of_check g.model (length g.text) (le-ltb 1048576 (length g.text) h)

  pub long_text : (answer : Answer) → answer ≡ refused 1 0 → 1048576 < length g.text → kept answer ≡ wanted
  unfolding text_too_long
  long_text answer e h =
      ap kept e
      ∙ sym
      (refused-model g.model g.text g.continuation g.out g.scratch_a g.scratch_b 1
      (text_too_long_lem g.model (length g.text) (lt-ltb 1048576 (length g.text) h)) (suc-ne-zero 0))

  pub bad_model : (checked : Answer) → checked ≡ check_outcome g.model → length g.text ≤ 1048576 → (checked.number ≡ 0 → ⊥) → kept checked ≡ wanted
  bad_model checked e h n =
      let some : check_number g.model ≡ 0 → ⊥ = λ z. n (number-checked g.model checked e ∙ z) in
      ap kept (e ∙ check_refuses g.model some)
      ∙ sym (refused-model g.model g.text g.continuation g.out g.scratch_a g.scratch_b (check_number g.model) (of_check h) some)

  module _ (prefix : ℕ) (is : prefix ≡ length (longest_valid_prefix g.text)) (h : length g.text ≤ 1048576) (n : check_number g.model ≡ 0) where
    pub bad_text : (answer : Answer) → answer ≡ refused 9 prefix → (prefix ≡ length g.text → ⊥) → kept answer ≡ wanted
    bad_text answer e short =
        ap kept (e ∙ ap (refused 9) is)
        ∙ sym
        (broken_text g.model g.text g.continuation g.out g.scratch_a g.scratch_b (of_check h ∙ n)
        (valid_by_prefix g.text ∙ ne_eqb (length (longest_valid_prefix g.text)) (length g.text) (λ z. short (is ∙ z))))

    -- The whole text is valid.
    module _ (whole : prefix ≡ length g.text) where
      is-valid : valid g.text ≡ true
      is-valid = valid_by_prefix g.text ∙ eq-eqb (length (longest_valid_prefix g.text)) (length g.text) (sym is ∙ whole)

      small : Small g.text
      small = bytes_small (valid_bytes g.text is-valid)

      pub no_raw_path : (answer : Answer) → answer ≡ refused 10 0 → g.continuation ≡ true → raw_path g.model ≡ None → kept answer ≡ wanted
      unfolding has_raw_path
      no_raw_path answer e c p =
          ap kept e ∙ sym (lost_path g.model g.text g.continuation g.out g.scratch_a g.scratch_b (of_check h ∙ n) is-valid (rw (c, p)))

      pub raw_text : (prepend : RawPrepend) → raw_path g.model ≡ Some prepend → {o : Outcome} {za zb : List ℕ}
          → o ≡ text_outcome (tables_of g.model) nothing (raw_stretches prepend g.continuation) g.model.first g.text (min (length g.scratch_a) (length g.scratch_b)) g.out
          → za ≡ zeros (length g.scratch_a) → zb ≡ zeros (length g.scratch_b)
          → ◌≡◌ {A = ScratchOutcome} (record { answer = o.answer; out = o.out; scratch_a = za; scratch_b = zb }) wanted
      raw_text prepend p e fa fb =
          on_raw_path g.model g.text g.continuation g.out g.scratch_a g.scratch_b (of_check h ∙ n) is-valid n prepend p small e fa fb

      pub normal_text : raw_path g.model ≡ None → g.continuation ≡ false → {o : Outcome} {za zb : List ℕ}
          → o ≡ text_outcome (tables_of g.model) (outputs_in (normal_of g.model)) (stretches_in (normal_of g.model)) g.model.first g.text (min (length g.scratch_a) (length g.scratch_b)) g.out
          → za ≡ zeros (length g.scratch_a) → zb ≡ zeros (length g.scratch_b)
          → ◌≡◌ {A = ScratchOutcome} (record { answer = o.answer; out = o.out; scratch_a = za; scratch_b = zb }) wanted
      normal_text p c e fa fb =
          off_raw_path g.model g.text g.continuation g.out g.scratch_a g.scratch_b (of_check h ∙ n) is-valid n p c small e fa fb
