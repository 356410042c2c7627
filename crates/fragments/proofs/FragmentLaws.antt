-- The outcome of fragments, by the first test that applies; and by the index of an accepted model. Assumes nothing.
use Prim.Native.Nat.{ℕ, ◌≤◌, ◌<◌, max}
use native.Mathlib.Nat.{suc-ne-zero}
use native.Mathlib.Omega.{arith}
use mathlib.Core.Path.{◌≡◌, refl, sym, ap, ap₂, ◌∙◌}
use mathlib.Core.Bool.{Bool, true, false, not}
use mathlib.Core.List.{List, [], ◌∷◌}
use borrow.Author.Tests.{eq-eqb, ne_eqb, lt-ltb, le-ltb}
use lib.Dec.{ltb}
use lib.ListN.{length, get_or}
use lib.Seq.{slice}
use Rattle.utf8.specs.Lists.{filter, below}
use Rattle.utf8.specs.Chars.{valid, longest_valid_prefix}
use Rattle.utf8.proofs.Valid.{valid_by_prefix}
use Rattle.model.specs.Model.{Model, TokenList, strings, contents, token_at, pieces_of}
use Rattle.model.specs.Answers.{lowest, place_of, Outcome, outcome, refused}
use Rattle.model.specs.Check.{model_tests, check_number, check_outcome, text_too_long}
use Rattle.model.specs.declared.Answer.{Answer}
use Rattle.model.proofs.AnswerLaws.{lowest_later, lowest-first, tests_positive, tests_of_check, text_too_long_lem, model_bound, check_refuses, number-checked}
use Rattle.units.specs.Kinds.{Crossing, kind_of, raw_path, has_raw_path}
use Rattle.units.specs.Derived.{noting}
use Rattle.units.specs.inner.Read.{named_crossings}
use Rattle.units.specs.declared.RawPrepend.{RawPrepend}
use Rattle.units.specs.declared.WordSplit.{WordSplit}
use Rattle.std.specs.Prelude.{None, Some}
use Rattle.units.proofs.DerivedLaws.{marks_derived, fit-accepted, piece_sizes_fine, accepted_sizes}
use Rattle.prepare.specs.Layout.{kind_at, crossing_count_at, crossings_at, mark_id_at, longest_content_at}
use Rattle.prepare.specs.inner.Read.{kind_from}
use Rattle.prepare.specs.Prepare.{derived_index}
use Rattle.prepare.proofs.ReadLaws.{kind-read, count-read, crossings-at, longest-at}
use Rattle.sections.proofs.LengthLaws.{none-longer}
use Rattle.fragments.specs.Safe.{is_unguarded, makes_blocks, block_start, block_end, block, blocked_by, is_blocked, is_safe}
use Rattle.fragments.specs.Fragments.{cuts, ranges, range_numbers, fragments_number, fragments_outcome}
use Rattle.fragments.specs.inner.Reach.{blocked_in}
use Rattle.fragments.specs.inner.Search.{safe_in, cuts_in, numbers_in, ranges_outcome}

-- ---- the outcome

module _ (m : Model) (text : List ℕ) (target : ℕ) (out : List ℕ) where
  abbrev rest : List (ℕ × Bool)
  rest = (9, not (valid text)) ∷ (10, not (has_raw_path (raw_path m))) ∷ (12, ltb (length out) (length (range_numbers m text target))) ∷ []

  abbrev refusal : ℕ → ℕ → Outcome
  refusal number place = record { answer = refused number place; out = out }

  later : lowest (model_tests m (length text)) ≡ 0 → fragments_number m text target (length out) ≡ lowest rest
  unfolding fragments_number
  later e = lowest_later (model_tests m (length text)) rest (tests_positive m (length text)) e

  broken_text : lowest (model_tests m (length text)) ≡ 0 → valid text ≡ false → fragments_outcome m text target out ≡ refusal 9 (length (longest_valid_prefix text))
  unfolding fragments_outcome outcome place_of
  broken_text e v = rw (later e, v)

  pathless : lowest (model_tests m (length text)) ≡ 0 → valid text ≡ true → raw_path m ≡ None → fragments_outcome m text target out ≡ refusal 10 0
  unfolding fragments_outcome outcome place_of has_raw_path
  pathless e v p = rw (later e, v, p)

  on_path : lowest (model_tests m (length text)) ≡ 0 → valid text ≡ true → (prepend : RawPrepend) → raw_path m ≡ Some prepend → fragments_outcome m text target out ≡ ranges_outcome (range_numbers m text target) out
  unfolding fragments_outcome outcome place_of has_raw_path ranges_outcome
  on_path e v prepend p = go (ltb (length out) (length (range_numbers m text target))) refl
    where
      go : (b : Bool) → ltb (length out) (length (range_numbers m text target)) ≡ b → fragments_outcome m text target out ≡ ranges_outcome (range_numbers m text target) out
      go true f = rw (later e, v, p, f)
      go false f = rw (later e, v, p, f)

  refused-model : (n : ℕ) → lowest (model_tests m (length text)) ≡ n → (n ≡ 0 → ⊥) → fragments_outcome m text target out ≡ refusal n 0
  unfolding fragments_outcome fragments_number outcome place_of
  refused-model n e h =
      let small : n ≤ 8 = (rw e at (model_bound m (length text))) in
      let some : lowest (model_tests m (length text)) ≡ 0 → ⊥ = λ z. h (sym e ∙ z) in
      rw (lowest-first (model_tests m (length text)) rest some, e, ne_eqb n 0 h, ne_eqb n 9 (λ z. omega arith))

-- What a call is lent.
pub record Lent : Type 0 where
  pub model : Model
  pub text : List ℕ
  pub target : ℕ
  pub out : List ℕ

-- The outcome by what the code has tested.
module _ (g : Lent) where
  abbrev pub wanted : Outcome
  wanted = fragments_outcome g.model g.text g.target g.out

  -- an answer that leaves the buffer as it was
  abbrev pub kept : Answer → Outcome
  kept answer = record { answer = answer; out = g.out }

  of_check : length g.text ≤ 1048576 → lowest (model_tests g.model (length g.text)) ≡ check_number g.model
  unfolding text_too_long
  of_check h = tests_of_check g.model (length g.text) (le-ltb 1048576 (length g.text) h)

  pub long_text : (answer : Answer) → answer ≡ refused 1 0 → 1048576 < length g.text → kept answer ≡ wanted
  unfolding text_too_long
  long_text answer e h =
      ap kept e
      ∙ sym (refused-model g.model g.text g.target g.out 1 (text_too_long_lem g.model (length g.text) (lt-ltb 1048576 (length g.text) h)) (suc-ne-zero 0))

  pub bad_model : (checked : Answer) → checked ≡ check_outcome g.model → length g.text ≤ 1048576 → (checked.number ≡ 0 → ⊥) → kept checked ≡ wanted
  bad_model checked e h n =
      let some : check_number g.model ≡ 0 → ⊥ = λ z. n (number-checked g.model checked e ∙ z) in
      ap kept (e ∙ check_refuses g.model some)
      ∙ sym (refused-model g.model g.text g.target g.out (check_number g.model) (of_check h) some)

  module _ (prefix : ℕ) (is : prefix ≡ length (longest_valid_prefix g.text)) (h : length g.text ≤ 1048576) (fine : check_number g.model ≡ 0) where
    pub bad_text : (answer : Answer) → answer ≡ refused 9 prefix → (prefix ≡ length g.text → ⊥) → kept answer ≡ wanted
    bad_text answer e short =
        ap kept (e ∙ ap (refused 9) is)
        ∙ sym
        (broken_text g.model g.text g.target g.out (of_check h ∙ fine)
        (valid_by_prefix g.text ∙ ne_eqb (length (longest_valid_prefix g.text)) (length g.text) (λ z. short (is ∙ z))))

    module _ (whole : prefix ≡ length g.text) where
      pub is-valid : valid g.text ≡ true
      is-valid = valid_by_prefix g.text ∙ eq-eqb (length (longest_valid_prefix g.text)) (length g.text) (sym is ∙ whole)

      pub no_raw_path : (answer : Answer) → answer ≡ refused 10 0 → raw_path g.model ≡ None → kept answer ≡ wanted
      no_raw_path answer e p = ap kept e ∙ sym (pathless g.model g.text g.target g.out (of_check h ∙ fine) is-valid p)

      pub raw_text : (prepend : RawPrepend) → raw_path g.model ≡ Some prepend → ranges_outcome (range_numbers g.model g.text g.target) g.out ≡ wanted
      raw_text prepend p = sym (on_path g.model g.text g.target g.out (of_check h ∙ fine) is-valid prepend p)

-- ---- by the index of an accepted model

module _ (f g : ℕ → Bool) (agree : (p : ℕ) → f p ≡ g p) where
  filter-agrees : (xs : List ℕ) → filter f xs ≡ filter g xs
  filter-agrees [] = refl
  filter-agrees (x ∷ xs) = rw (agree x, filter-agrees xs)

  numbers_agree : (n step : ℕ) → numbers_in f n step ≡ numbers_in g n step
  unfolding numbers_in cuts_in
  numbers_agree n step = rw (filter-agrees (below n))

module _ (m : Model) (fine : check_number m ≡ 0) where
  safe_derived : (text : List ℕ) (p : ℕ)
      → safe_in (kind_of m) (named_crossings (pieces_of m) (noting (pieces_of m) (kind_of m)).noted (noting (pieces_of m) (kind_of m)).count) (is_unguarded (raw_path m)) m.first text p ≡ is_safe m text p
  unfolding safe_in is_safe is_blocked blocked_in blocked_by block block_start block_end makes_blocks token_at contents pieces_of
  safe_derived text p =
      rw (marks_derived (pieces_of m) (fit-accepted m.piece_bytes m.piece_offsets (piece_sizes_fine m (accepted_sizes m fine))) (kind_of m) true text p)

  numbers_derived : (text : List ℕ) (target : ℕ)
      → numbers_in (safe_in (kind_of m) (named_crossings (pieces_of m) (noting (pieces_of m) (kind_of m)).noted (noting (pieces_of m) (kind_of m)).count) (is_unguarded (raw_path m)) m.first text) (length text) (max target 1) ≡ range_numbers m text target
  unfolding range_numbers ranges cuts numbers_in cuts_in
  numbers_derived text target = numbers_agree _ (is_safe m text) (safe_derived text) (length text) (max target 1)

  module _ {index : List ℕ} (is : index ≡ derived_index m) where
    -- The ranges by what is read of the index are the model's.
    pub ranges_derived : {kind : WordSplit} {noted : List Crossing} {unguarded : Bool} {t : TokenList} {read : List ℕ} (text : List ℕ) (target : ℕ) (out : List ℕ) (prepend : RawPrepend) → raw_path m ≡ Some prepend
        → kind ≡ kind_from (get_or index kind_at 0)
        → noted ≡ named_crossings (strings m.piece_bytes m.piece_offsets) (slice crossings_at mark_id_at index) (get_or index crossing_count_at 0)
        → t ≡ m.first
        → unguarded ≡ is_unguarded (Some prepend)
        → read ≡ text
        → ranges_outcome (numbers_in (safe_in kind noted unguarded t read) (length read) (max target 1)) out ≡ ranges_outcome (range_numbers m text target) out
    unfolding pieces_of
    ranges_derived {kind} {noted} {unguarded} text target out prepend p a b c d e =
        let as_kind : kind ≡ kind_of m = a ∙ ap (λ (l : List ℕ). kind_from (get_or l kind_at 0)) is ∙ kind-read m in
        let as_noted : noted ≡ named_crossings (pieces_of m) (noting (pieces_of m) (kind_of m)).noted (noting (pieces_of m) (kind_of m)).count = b ∙ ap (λ (l : List ℕ). named_crossings (pieces_of m) (slice crossings_at mark_id_at l) (get_or l crossing_count_at 0)) is ∙ ap₂ (named_crossings (pieces_of m)) (crossings-at m) (count-read m) in
        let as_path : unguarded ≡ is_unguarded (raw_path m) = d ∙ ap is_unguarded (sym p) in
        rw (as_kind, as_noted, c, as_path, e) (ap (λ (l : List ℕ). ranges_outcome l out) (numbers_derived text target))

    -- What is read of it with the first tokens is what they say.
    pub longest-bounds : (row : ℕ) → row < length (contents m.first) → length (token_at m.first row).content ≤ get_or index longest_content_at 0
    unfolding token_at contents
    longest-bounds row h = omega (arith, none-longer (strings m.first.bytes m.first.offsets) row, ap (λ (l : List ℕ). get_or l longest_content_at 0) is, longest-at m)
