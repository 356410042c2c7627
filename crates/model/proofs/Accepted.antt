-- What the model check answers from its tests, and what an accepted model is known to be.
use mathlib.Core.Path.{◌≡◌, refl, sym, ◌∙◌}
use mathlib.Core.Bool.{Bool, true, false, not, ◌&&◌, ◌||◌}
use mathlib.Core.List.{List, [], ◌∷◌}
use Prim.Native.Nat.{ℕ, ◌-◌, ◌≤◌, ◌<◌}
use native.Mathlib.Nat.{suc-ne-zero}
use native.Mathlib.Omega.{arith}
use borrow.Author.Tests.{ltb-false, eqb-true, eqb-false, ne_eqb, not-false}
use lib.Dec.{ltb, eqb}
use lib.ListN.{length, drop}
use Rattle.utf8.specs.Lists.{is_empty, all, any, numbered}
use Rattle.utf8.proofs.Tests.{or_left, or_right, and_left, and_right}
use Rattle.utf8.proofs.Places.{empty_by_length}
use Rattle.model.specs.declared.Step.{Step}
use Rattle.model.specs.Model.{Model, contents, pieces_of, steps_of}
use Rattle.model.specs.Answers.{lowest, done, refused}
use Rattle.model.specs.Check.{string_too_long, wrong_piece_sizes, wrong_row_sizes, wrong_token_sizes, wrong_list_sizes, wrong_step_sizes, wrong_sizes, text_too_long, run_in_order, lies_outside, step_spans, offsets_astray, span_too_long, bad_piece, names_no_piece, lookup_ascends, piece_missing, bad_lookup, fallback_fits, bad_fallback, rows_ascend, all_below, rows_join, bad_row, bad_token, bad_step, model_tests, check_number, check_outcome}

-- ---- the answer, by the first test that applies

-- The tests that decide the check's number.
pub record DecidedBy (tests : List (ℕ × Bool)) (m : Model) : Type 0 where
  pub number : check_number m ≡ lowest tests

-- The tests behind the first k decide.
abbrev pub Undecided : ℕ → Model → Type 0
Undecided k m = DecidedBy (drop k (model_tests m 0)) m

module _ {k : ℕ} {b : Bool} {tests : List (ℕ × Bool)} {m : Model} (decided : DecidedBy ((k, b) ∷ tests) m) where
  pub others_decide : b ≡ false → DecidedBy tests m
  others_decide f = record { number = decided.number ∙ rw f }

  pub first_decides : b ≡ true → check_number m ≡ k
  first_decides t = decided.number ∙ rw t

module _ (m : Model) where
  pub nothing_decided : Undecided 0 m
  unfolding check_number
  nothing_decided = record { number = refl }

  pub refuses : (number : ℕ) → 0 < number → check_number m ≡ number → check_outcome m ≡ refused number 0
  unfolding check_outcome
  refuses number h e = rw (e, ne_eqb number 0 (λ z. omega arith))

  pub accepts : check_number m ≡ 0 → check_outcome m ≡ done 0 0 0
  unfolding check_outcome
  accepts e = rw e

-- ---- what fine sizes say of each table

not-empty : {A : Type 0} (xs : List A) → is_empty xs ≡ false → 0 < length xs
not-empty xs e = let h : length xs ≡ 0 → ⊥ = eqb-false (length xs) 0 (sym (empty_by_length xs) ∙ e) in omega arith

-- Neither are there no offsets, nor too many.
few_offsets : (bytes offsets : List ℕ) → wrong_piece_sizes bytes offsets ≡ false → (is_empty offsets || ltb 524288 (length offsets - 1)) ≡ false
unfolding wrong_piece_sizes
few_offsets bytes offsets e =
    or_left (is_empty offsets || ltb 524288 (length offsets - 1)) (ltb 8388608 (length bytes))
    (or_left (is_empty offsets || ltb 524288 (length offsets - 1) || ltb 8388608 (length bytes)) (string_too_long offsets) e)

pub piece-row : (bytes offsets : List ℕ) → wrong_piece_sizes bytes offsets ≡ false → 0 < length offsets
piece-row bytes offsets e = not-empty offsets (or_left (is_empty offsets) (ltb 524288 (length offsets - 1)) (few_offsets bytes offsets e))

pub piece_limit_lem : (bytes offsets : List ℕ) → wrong_piece_sizes bytes offsets ≡ false → length offsets - 1 ≤ 524288
piece_limit_lem bytes offsets e = ltb-false 524288 (length offsets - 1) (or_right (is_empty offsets) (ltb 524288 (length offsets - 1)) (few_offsets bytes offsets e))

pub byte_limit_lem : (bytes offsets : List ℕ) → wrong_piece_sizes bytes offsets ≡ false → length bytes ≤ 8388608
unfolding wrong_piece_sizes
byte_limit_lem bytes offsets e =
    ltb-false 8388608 (length bytes)
    (or_right (is_empty offsets || ltb 524288 (length offsets - 1)) (ltb 8388608 (length bytes))
    (or_left (is_empty offsets || ltb 524288 (length offsets - 1) || ltb 8388608 (length bytes)) (string_too_long offsets) e))

row_limit_lem : (left right result rank : List ℕ) → wrong_row_sizes left right result rank ≡ false → length left ≤ 1048576
unfolding wrong_row_sizes
row_limit_lem left right result rank e = ltb-false 1048576 (length left) (or_left (ltb 1048576 (length left)) _ e)

-- The columns of merge rows are as long as each other.
pub record RowColumns (left right result rank : List ℕ) : Type 0 where
  pub rights : length left ≡ length right
  pub results : length left ≡ length result
  pub ranks : length left ≡ length rank

pub row_columns : (left right result rank : List ℕ) → wrong_row_sizes left right result rank ≡ false → RowColumns left right result rank
unfolding wrong_row_sizes
row_columns left right result rank e =
    let n = length left in
    let fit : (eqb n (length right) && (eqb n (length result) && (eqb n (length rank) && true))) ≡ true = not-false _ (or_right (ltb 1048576 n) _ e) in
    let two : (eqb n (length result) && (eqb n (length rank) && true)) ≡ true = and_right (eqb n (length right)) _ fit in
    record {
      rights = eqb-true n (length right) (and_left (eqb n (length right)) _ fit);
      results = eqb-true n (length result) (and_left (eqb n (length result)) _ two);
      ranks = eqb-true n (length rank) (and_left (eqb n (length rank)) true (and_right (eqb n (length result)) _ two));
    }

-- The offset row of a token list is not empty, and its columns are as long as it has tokens.
pub record TokenColumns (offsets ids : List ℕ) (lstrip rstrip : List Bool) : Type 0 where
  pub row : 0 < length offsets
  pub ids-long : length offsets - 1 ≡ length ids
  pub lstrip-long : length offsets - 1 ≡ length lstrip
  pub rstrip-long : length offsets - 1 ≡ length rstrip

pub token_columns : (offsets ids : List ℕ) (lstrip rstrip : List Bool) → wrong_token_sizes offsets ids lstrip rstrip ≡ false → TokenColumns offsets ids lstrip rstrip
unfolding wrong_token_sizes
token_columns offsets ids lstrip rstrip e =
    let n = length offsets - 1 in
    let many = ltb 8192 n in
    let fit : (eqb n (length ids) && (eqb n (length lstrip) && (eqb n (length rstrip) && true))) ≡ true = not-false _ (or_right (is_empty offsets || many || string_too_long offsets) _ e) in
    let two : (eqb n (length lstrip) && (eqb n (length rstrip) && true)) ≡ true = and_right (eqb n (length ids)) _ fit in
    record {
      row = not-empty offsets (or_left (is_empty offsets) many (or_left (is_empty offsets || many) (string_too_long offsets) (or_left (is_empty offsets || many || string_too_long offsets) _ e)));
      ids-long = eqb-true n (length ids) (and_left (eqb n (length ids)) _ fit);
      lstrip-long = eqb-true n (length lstrip) (and_left (eqb n (length lstrip)) _ two);
      rstrip-long = eqb-true n (length rstrip) (and_left (eqb n (length rstrip)) true (and_right (eqb n (length lstrip)) _ two));
    }

pub step_count_lem : (steps : List Step) (count : ℕ) → wrong_step_sizes steps count ≡ false → count ≤ 16
unfolding wrong_step_sizes
step_count_lem steps count e = ltb-false 16 count (or_left (ltb 16 count) (any span_too_long (step_spans steps)) e)

-- ---- what an accepted model is

pub record SizesFine (m : Model) : Type 0 where
  pub piece_row : 0 < length m.piece_offsets
  pub piece_limit : length m.piece_offsets - 1 ≤ 524288
  pub byte_limit : length m.piece_bytes ≤ 8388608
  pub row_limit : length m.left ≤ 1048576
  pub fallback_long : length m.fallback ≡ 256
  pub rows : RowColumns m.left m.right m.result m.rank
  pub first : TokenColumns m.first.offsets m.first.ids m.first.lstrip m.first.rstrip
  pub second : TokenColumns m.second.offsets m.second.ids m.second.lstrip m.second.rstrip
  pub steps : m.step_count ≤ 16

pub sizes_fine : (m : Model) → wrong_sizes m ≡ false → SizesFine m
unfolding wrong_sizes wrong_list_sizes
sizes_fine m e =
    let a = wrong_piece_sizes m.piece_bytes m.piece_offsets in
    let b = not (eqb (length m.fallback) 256) in
    let c = wrong_row_sizes m.left m.right m.result m.rank in
    let d = wrong_list_sizes m.first in
    let f = wrong_list_sizes m.second in
    let five : (a || b || c || d || f) ≡ false = or_left (a || b || c || d || f) _ e in
    let four : (a || b || c || d) ≡ false = or_left (a || b || c || d) f five in
    let three : (a || b || c) ≡ false = or_left (a || b || c) d four in
    let two : (a || b) ≡ false = or_left (a || b) c three in
    record {
      piece_row = piece-row m.piece_bytes m.piece_offsets (or_left a b two);
      piece_limit = piece_limit_lem m.piece_bytes m.piece_offsets (or_left a b two);
      byte_limit = byte_limit_lem m.piece_bytes m.piece_offsets (or_left a b two);
      row_limit = row_limit_lem m.left m.right m.result m.rank (or_right (a || b) c three);
      fallback_long = eqb-true (length m.fallback) 256 (not-false _ (or_right a b two));
      rows = row_columns m.left m.right m.result m.rank (or_right (a || b) c three);
      first = token_columns m.first.offsets m.first.ids m.first.lstrip m.first.rstrip (or_right (a || b || c) d four);
      second = token_columns m.second.offsets m.second.ids m.second.lstrip m.second.rstrip (or_right (a || b || c || d) f five);
      steps = step_count_lem (steps_of m) m.step_count (or_right (a || b || c || d || f) _ e);
    }

-- The facts of an accepted model that the rest of the code uses.
pub record Accepted (m : Model) : Type 0 where
  pub sizes : SizesFine m
  pub pieces_run : run_in_order m.piece_bytes m.piece_offsets ≡ true
  pub first_run : run_in_order m.first.bytes m.first.offsets ≡ true
  pub second_run : run_in_order m.second.bytes m.second.offsets ≡ true
  pub spans_inside : any (lies_outside m.step_bytes) (step_spans (steps_of m)) ≡ false
  pub pieces : bad_piece (pieces_of m) ≡ false
  pub lookup_names : any (names_no_piece (pieces_of m)) m.lookup ≡ false
  pub lookup_rises : lookup_ascends (pieces_of m) m.lookup ≡ true
  pub lookup_whole : piece_missing (pieces_of m) m.lookup ≡ false
  pub fallback_fit : all (fallback_fits (pieces_of m)) (numbered m.fallback) ≡ true
  pub rows_rise : rows_ascend m.left m.right ≡ true
  pub lefts_below : all_below (length (pieces_of m)) m.left ≡ true
  pub rights_below : all_below (length (pieces_of m)) m.right ≡ true
  pub results_below : all_below (length (pieces_of m)) m.result ≡ true
  pub rows_joined : rows_join (pieces_of m) m.left m.right m.result ≡ true
  pub first_texts : bad_token (contents m.first) ≡ false
  pub second_texts : bad_token (contents m.second) ≡ false
  pub step_texts : bad_step m.step_bytes (steps_of m) ≡ false

-- none of eight tests applies
record Passed (a b c d e f g h : Bool) : Type 0 where
  one : a ≡ false
  two : b ≡ false
  three : c ≡ false
  four : d ≡ false
  five : e ≡ false
  six : f ≡ false
  seven : g ≡ false
  eight : h ≡ false

passes : (a b c d e f g h : Bool) → lowest ((1, a) ∷ (2, b) ∷ (3, c) ∷ (4, d) ∷ (5, e) ∷ (6, f) ∷ (7, g) ∷ (8, h) ∷ []) ≡ 0 → Passed a b c d e f g h
passes true b c d e f g h p = absurd (suc-ne-zero 0 p)
passes false true c d e f g h p = absurd (suc-ne-zero 1 p)
passes false false true d e f g h p = absurd (suc-ne-zero 2 p)
passes false false false true e f g h p = absurd (suc-ne-zero 3 p)
passes false false false false true f g h p = absurd (suc-ne-zero 4 p)
passes false false false false false true g h p = absurd (suc-ne-zero 5 p)
passes false false false false false false true h p = absurd (suc-ne-zero 6 p)
passes false false false false false false false true p = absurd (suc-ne-zero 7 p)
passes false false false false false false false false p =
    record { one = refl; two = refl; three = refl; four = refl; five = refl; six = refl; seven = refl; eight = refl }

pub accepted : (m : Model) → check_number m ≡ 0 → Accepted m
unfolding check_number model_tests offsets_astray bad_lookup bad_fallback bad_row
accepted m e =
    let pieces = pieces_of m in
    let p =
    passes (wrong_sizes m || text_too_long 0) (offsets_astray m) (bad_piece pieces) (bad_lookup pieces m.lookup) (bad_fallback pieces m.fallback)
    (bad_row pieces m.left m.right m.result) (bad_token (contents m.first) || bad_token (contents m.second)) (bad_step m.step_bytes (steps_of m)) e in
    let n = length pieces in
    let r1 = run_in_order m.piece_bytes m.piece_offsets in
    let r2 = run_in_order m.first.bytes m.first.offsets in
    let r3 = run_in_order m.second.bytes m.second.offsets in
    let runs : (not r1 || not r2 || not r3) ≡ false = or_left (not r1 || not r2 || not r3) _ p.two in
    let names = any (names_no_piece pieces) m.lookup in
    let rises = lookup_ascends pieces m.lookup in
    let entries : (names || not rises) ≡ false = or_left (names || not rises) _ p.four in
    let below = all_below n m.left && all_below n m.right && all_below n m.result in
    let rows : (not (rows_ascend m.left m.right) || not below) ≡ false = or_left (not (rows_ascend m.left m.right) || not below) _ p.six in
    let ids : below ≡ true = not-false below (or_right (not (rows_ascend m.left m.right)) (not below) rows) in
    let sides : (all_below n m.left && all_below n m.right) ≡ true = and_left (all_below n m.left && all_below n m.right) (all_below n m.result) ids in
    record {
      sizes = sizes_fine m (or_left (wrong_sizes m) (text_too_long 0) p.one);
      pieces_run = not-false r1 (or_left (not r1) (not r2) (or_left (not r1 || not r2) (not r3) runs));
      first_run = not-false r2 (or_right (not r1) (not r2) (or_left (not r1 || not r2) (not r3) runs));
      second_run = not-false r3 (or_right (not r1 || not r2) (not r3) runs);
      spans_inside = or_right (not r1 || not r2 || not r3) _ p.two;
      pieces = p.three;
      lookup_names = or_left names (not rises) entries;
      lookup_rises = not-false rises (or_right names (not rises) entries);
      lookup_whole = or_right (names || not rises) (piece_missing pieces m.lookup) p.four;
      fallback_fit = not-false _ p.five;
      rows_rise = not-false (rows_ascend m.left m.right) (or_left (not (rows_ascend m.left m.right)) (not below) rows);
      lefts_below = and_left (all_below n m.left) (all_below n m.right) sides;
      rights_below = and_right (all_below n m.left) (all_below n m.right) sides;
      results_below = and_right (all_below n m.left && all_below n m.right) (all_below n m.result) ids;
      rows_joined = not-false _ (or_right (not (rows_ascend m.left m.right) || not below) _ p.six);
      first_texts = or_left (bad_token (contents m.first)) (bad_token (contents m.second)) p.seven;
      second_texts = or_right (bad_token (contents m.first)) (bad_token (contents m.second)) p.seven;
      step_texts = p.eight;
    }
