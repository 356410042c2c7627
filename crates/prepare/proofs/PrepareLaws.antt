-- The outcome of prepare by the first test that applies, and what is derived by the tables that it is derived of.
use Rattle.std.specs.Prelude.{Option}
use mathlib.Core.Path.{◌≡◌, refl, sym, ap, ◌∙◌}
use mathlib.Core.Bool.{Bool, true, false, ◌||◌}
use mathlib.Core.List.{List, [], ◌∷◌}
use Prim.Native.Nat.{ℕ, ◌-◌, ◌≤◌, ◌<◌}
use native.Mathlib.Omega.{arith}
use borrow.Author.Tests.{ltb-false, lt-ltb, le-ltb, ne_eqb}
use lib.Dec.{ltb}
use lib.ListN.{length, take, length-append, length-replicate, length-map}
use Rattle.utf8.specs.Lists.{is_empty, any, join_map}
use Rattle.utf8.proofs.Tests.{or_right}
use Rattle.utf8.proofs.Fronts.{length-row}
use Rattle.model.specs.Model.{Model, strings, contents, pieces_of, steps_of}
use Rattle.model.specs.Answers.{lowest, zeros, done, refused, filled}
use Rattle.model.specs.Check.{model_tests, check_number, text_too_long}
use Rattle.model.specs.declared.Answer.{Answer}
use Rattle.model.specs.declared.Step.{Step}
use Rattle.model.specs.declared.Metaspace.{Metaspace}
use Rattle.model.proofs.AnswerLaws.{lowest_later, lowest-first, tests_positive, tests_of_check}
use Rattle.model.proofs.StringLaws.{length-strings}
use Rattle.model.proofs.CompleteLaws.{lookup-length}
use Rattle.model.proofs.Accepted.{Accepted}
use Rattle.units.specs.declared.RawPrepend.{RawPrepend}
use Rattle.units.specs.Kinds.{crossings, is_tangled, splits, word_split, kind_of, raw_path}
use Rattle.units.specs.Adjacency.{adjacency, adjacency_word}
use Rattle.units.specs.Derived.{Noting, crossing_places, noted_of, place_words, noted_words, noting}
use Rattle.units.specs.inner.Path.{raw_path_by}
use Rattle.units.specs.inner.Read.{crossing_of}
use Rattle.units.specs.declared.WordSplit.{WordSplit}
use Rattle.units.proofs.NotingLaws.{crossings_by_place, words-length}
use Rattle.prepare.specs.Layout.{index_row}
use Rattle.prepare.specs.Numbers.{kind_number, raw_path_number}
use Rattle.prepare.specs.Prepare.{derived_adjacency, derived_index, PrepareOutcome, prepare_number, prepare_outcome}
use Rattle.prepare.specs.inner.Derive.{index_of}

-- ---- the outcome

module _ (m : Model) (rows index : List ℕ) where
  abbrev short : Bool
  short = ltb (length rows) 1024 || ltb (length index) 169032

  -- A refusal leaves both rows as they were.
  abbrev kept : ℕ → PrepareOutcome
  kept number = record { answer = refused number 0; adjacency = rows; index = index }

  of_check : lowest (model_tests m 0) ≡ check_number m
  unfolding text_too_long
  of_check = tests_of_check m 0 refl

  pub bad_model : (check_number m ≡ 0 → ⊥) → prepare_outcome m rows index ≡ kept (check_number m)
  unfolding prepare_outcome prepare_number
  bad_model h =
      let some : lowest (model_tests m 0) ≡ 0 → ⊥ = λ z. h (sym of_check ∙ z) in
      rw (lowest-first (model_tests m 0) ((12, short) ∷ []) some, of_check, ne_eqb (check_number m) 0 h)

  module _ (fine : check_number m ≡ 0) where
    later : prepare_number m (length rows) (length index) ≡ lowest ((12, short) ∷ [])
    unfolding prepare_number
    later = lowest_later (model_tests m 0) ((12, short) ∷ []) (tests_positive m 0) (of_check ∙ fine)

    pub short_rows : length rows < 1024 → prepare_outcome m rows index ≡ kept 12
    unfolding prepare_outcome
    short_rows h = rw (later, lt-ltb (length rows) 1024 h)

    pub short_index : 1024 ≤ length rows → length index < 169032 → prepare_outcome m rows index ≡ kept 12
    unfolding prepare_outcome
    short_index h k = rw (later, le-ltb (length rows) 1024 h, lt-ltb (length index) 169032 k)

    pub prepared : 1024 ≤ length rows → 169032 ≤ length index → prepare_outcome m rows index ≡ record { answer = done 170056 0 0; adjacency = filled (derived_adjacency m) rows; index = filled (derived_index m) index }
    unfolding prepare_outcome
    prepared h k = rw (later, le-ltb (length rows) 1024 h, le-ltb (length index) 169032 k)

-- ---- crossings that are noted

module _ (pieces : List (List ℕ)) (metaspace : Option Metaspace) where
  abbrev kind : WordSplit
  kind = word_split (crossings pieces) metaspace

  -- no more than 32 are noted
  few_noted : length (noted_of kind pieces) ≤ 32
  unfolding word_split noted_of
  few_noted = go (splits metaspace) (any is_tangled (crossings pieces) || ltb 32 (length (crossings pieces))) refl refl
    where
      go : (s t : Bool) → splits metaspace ≡ s → (any is_tangled (crossings pieces) || ltb 32 (length (crossings pieces))) ≡ t → length (noted_of kind pieces) ≤ 32
      go true t e f = rw e (omega arith)
      go false true e f = rw (e, f) (omega arith)
      go false false e f =
          rw (e, f)
          (omega
          (arith, ltb-false 32 (length (crossings pieces)) (or_right (any is_tangled (crossings pieces)) (ltb 32 (length (crossings pieces))) f), ap length (crossings_by_place pieces), length-map (crossing_places pieces) (crossing_of pieces)))

  pub few_counted : (noting pieces kind).count ≤ 32
  unfolding noting
  few_counted = few_noted

  pub noted-long : length (noting pieces kind).noted ≡ 64
  unfolding noting noted_words
  noted-long =
      let places = noted_of kind pieces in
      let words = join_map place_words places in
      length-append words (zeros (64 - length words)) ∙ omega (arith, words-length places, few_noted, length-replicate {A = ℕ} (64 - length words) 0)

-- The index of what was derived one by one.
module _ (pieces : List (List ℕ)) (lookup left right rank : List ℕ) (first second : List (List ℕ)) (bytes : List ℕ) (steps : List Step) (metaspace : Option Metaspace) (split : WordSplit) (count : ℕ) (noted : List ℕ) (is : ◌≡◌ {A = Noting} (record { kind = split; count = count; noted = noted }) (noting pieces (word_split (crossings pieces) metaspace))) where
  pub count_small : count ≤ 32
  count_small = omega (arith, ap (λ (n : Noting). n.count) is, few_counted pieces metaspace)

  pub words_64 : length noted ≡ 64
  words_64 = ap (λ (n : Noting). length n.noted) is ∙ noted-long pieces metaspace

  kind-is : split ≡ word_split (crossings pieces) metaspace
  unfolding noting
  kind-is = ap (λ (n : Noting). n.kind) is

  pub index_derived : (path : Option RawPrepend) (kind_word path_word : ℕ) → path ≡ raw_path_by split (is_empty second) bytes steps metaspace → kind_word ≡ kind_number split → path_word ≡ raw_path_number path
      → index_row kind_word path_word count noted pieces lookup left right rank first second ≡ index_of pieces lookup left right rank first second bytes steps metaspace
  unfolding index_of
  index_derived path kind_word path_word p k q =
      let c : count ≡ (noting pieces (word_split (crossings pieces) metaspace)).count = ap (λ (n : Noting). n.count) is in
      let w : noted ≡ (noting pieces (word_split (crossings pieces) metaspace)).noted = ap (λ (n : Noting). n.noted) is in
      rw (k, q, p, kind-is, c, w)

pub length-adjacency : (pieces : List (List ℕ)) → length (adjacency pieces) ≡ 1024
unfolding adjacency
length-adjacency pieces = length-row (adjacency_word pieces) 1024

-- ---- a whole model

module _ (m : Model) where
  pub index_of_lem : index_of (pieces_of m) m.lookup m.left m.right m.rank (contents m.first) (contents m.second) m.step_bytes (steps_of m) m.metaspace ≡ derived_index m
  unfolding index_of derived_index kind_of raw_path raw_path_by
  index_of_lem = refl

  -- what an accepted model's tables are known to be
  module _ (ok : Accepted m) where
    pub lookup-small : length m.lookup < 4294967296
    unfolding pieces_of
    lookup-small =
        omega
        (arith, lookup-length (pieces_of m) m.lookup ok.lookup_names ok.lookup_rises, length-strings m.piece_bytes m.piece_offsets, ok.sizes.piece_limit)

  -- What the two rows hold, put together with the answer.
  pub put_together : (rows index : List ℕ) → check_number m ≡ 0 → 1024 ≤ length rows → 169032 ≤ length index → (answer : Answer) (a i : List ℕ)
      → answer ≡ done 170056 0 0
      → a ≡ filled (adjacency (strings m.piece_bytes m.piece_offsets)) rows
      → i ≡ filled (index_of (strings m.piece_bytes m.piece_offsets) m.lookup m.left m.right m.rank (strings m.first.bytes m.first.offsets) (strings m.second.bytes m.second.offsets) m.step_bytes (take m.step_count m.steps) m.metaspace) index
      → ◌≡◌ {A = PrepareOutcome} (record { answer = answer; adjacency = a; index = i }) (prepare_outcome m rows index)
  unfolding derived_adjacency pieces_of steps_of contents
  put_together rows index fine h k answer a i e f g = rw (e, f, g, index_of_lem) (sym (prepared m rows index fine h k))
