-- Laws of walks along a table that go on from where the last ended, and of the rows that they fill.
use Rattle.std.specs.Prelude.{Option, None, Some}
use mathlib.Core.Path.{◌≡◌, refl, sym, ap, ◌∙◌}
use mathlib.Core.Logic.{⊎_elim}
use mathlib.Core.Bool.{Bool, true}
use mathlib.Core.List.{List, [], ◌∷◌, ◌++◌, map}
use Prim.Native.Nat.{ℕ, ◌+◌, ◌-◌, ◌*◌, ◌^◌, ◌≤◌, ◌<◌}
use native.Mathlib.Nat.{zero-add, zero-mul, mul-le-mul_right, pow-le-pow_right}
use native.Mathlib.Numerals.{add-one}
use native.Mathlib.Omega.{arith}
use borrow.Author.Tests.{lt-ltb, le-ltb, ltb-true}
use lib.Dec.{ltb}
use lib.ListN.{length, get_or, take, drop, set, length-set}
use lib.Seq.{slice, paste, paste-zero, paste-suc, take_all, take-length}
use Rattle.std.specs.List.{prefix_len}
use Rattle.std.proofs.lemmas.List.Folds.{length-prefix_len}
use Rattle.utf8.specs.Lists.{take_while, below}
use Rattle.utf8.proofs.Tests.{either}
use Rattle.utf8.proofs.Places.{get_or_count_from}
use Rattle.utf8.proofs.Fronts.{front-within, front-next, front-stop, front-end, front_on, length-row, get_or_row}
use Rattle.model.specs.Model.{piece, no_id}
use Rattle.model.specs.Check.{lookup_ascends}
use Rattle.model.specs.inner.Search.{found_piece, id_at}
use Rattle.model.proofs.LookupLaws.{id_found}
use Rattle.index.specs.Index.{id_or, key_id, first_byte_start, bucket_shift, bucket_start}
use Rattle.prepare.specs.inner.Walk.{below_from, first_below_from}

-- ---- a walk

-- The library's word for how many pass at the head of a list.
heads : (test : ℕ → Bool) (xs : List ℕ) → prefix_len test xs ≡ length (take_while test xs)
heads test [] = refl
heads test (x ∷ xs) = ⊎_elim (λ e. rw e (omega (arith, heads test xs))) (λ e. rw e) (either (test x))

-- From a place on.
pub walked : (test : ℕ → Bool) (from : ℕ) (column : List ℕ) {n : ℕ}
    → n ≡ length (take (prefix_len test (slice from (length column) column)) (slice from (length column) column)) → from + n ≡ from + length (take_while test (drop from column))
walked test from column e =
    ap (λ (n : ℕ). from + n) (e ∙ length-prefix_len test (slice from (length column) column) ∙ heads test (slice from (length column) column) ∙ ap (λ (l : List ℕ). length (take_while test (drop from l))) (take-length column))

-- ---- for bounds that rise, going on from where the last walk ended is as good as starting anew

module _ (pieces : List (List ℕ)) (lookup : List ℕ) where
  pub first-zero : 0 ≡ first_byte_start pieces lookup 0
  unfolding first_byte_start
  first-zero = go lookup
    where
      go : (xs : List ℕ) → 0 ≡ length (take_while (λ (id : ℕ). ltb (get_or (piece pieces id) 0 0) 0) xs)
      go [] = refl
      go (x ∷ xs) = rw (le-ltb (get_or (piece pieces x) 0 0) 0 (omega arith))

  pub first_on : (at b : ℕ) → at ≡ first_byte_start pieces lookup (b - 1) → first_below_from pieces lookup at b ≡ first_byte_start pieces lookup b
  unfolding first_byte_start first_below_from
  first_on at b e =
      rw e
      (front_on _ _ (λ id t. lt-ltb (get_or (piece pieces id) 0 0) b (omega (arith, ltb-true (get_or (piece pieces id) 0 0) (b - 1) t))) lookup)

  pub first-most : (b : ℕ) → first_byte_start pieces lookup b ≤ length lookup
  unfolding first_byte_start
  first-most b = front-within _ lookup

module _ (left : List ℕ) (shift : ℕ) where
  pub bucket_zero : 0 ≡ bucket_start left shift 0
  unfolding bucket_start
  bucket_zero = rw zero-mul (go left)
    where
      go : (xs : List ℕ) → 0 ≡ length (take_while (λ (l : ℕ). ltb l 0) xs)
      go [] = refl
      go (x ∷ xs) = rw (le-ltb x 0 (omega arith))

  pub bucket_on : (at b size : ℕ) → size ≡ 2 ^ shift → at ≡ bucket_start left shift (b - 1) → below_from left at (b * size) ≡ bucket_start left shift b
  unfolding bucket_start below_from
  bucket_on at b size p e =
      rw (p, e)
      (front_on _ _
      (λ l t.
      let rises : (b - 1) * 2 ^ shift ≤ b * 2 ^ shift = mul-le-mul_right (2 ^ shift) (omega arith) in
      lt-ltb l (b * 2 ^ shift) (omega (arith, ltb-true l ((b - 1) * 2 ^ shift) t)))
      left)

  pub bucket_most : (b : ℕ) → bucket_start left shift b ≤ length left
  unfolding bucket_start
  bucket_most b = front-within _ left

-- ---- the shift of the buckets

module _ (count shift : ℕ) where
  -- The shift, from one on that is known to be too small or the first.
  pub shift_from : ℕ
  shift_from = shift + length (take_while (λ (s : ℕ). ltb (4096 * 2 ^ s) count) (drop shift (below 7)))

module _ (count : ℕ) where
  pub shift_start : bucket_shift count ≡ shift_from count 0
  unfolding bucket_shift shift_from
  shift_start = sym (zero-add (bucket_shift count))

  module _ (shift : ℕ) where
    at_seven : shift < 7 → get_or (below 7) shift 0 ≡ shift
    at_seven h = get_or_count_from 0 7 shift 0 h ∙ zero-add shift

    pub shift_next : shift < 7 → 4096 * 2 ^ shift < count → shift_from count shift ≡ shift_from count (shift + 1)
    unfolding shift_from
    shift_next h l = front-next _ (below 7) shift 0 h (rw (at_seven h) (lt-ltb (4096 * 2 ^ shift) count l))

    pub shift_stop : shift < 7 → count ≤ 4096 * 2 ^ shift → shift_from count shift ≡ shift
    unfolding shift_from
    shift_stop h l = front-stop _ (below 7) shift 0 h (rw (at_seven h) (le-ltb (4096 * 2 ^ shift) count l))

    pub shift_end : 7 ≤ shift → shift_from count shift ≡ shift
    unfolding shift_from
    shift_end h = front-end _ (below 7) shift h

pub shift_room : (shift : ℕ) → shift < 7 → 4096 * 2 ^ shift ≤ 524288
shift_room shift h =
    let small : 2 ^ shift ≤ 2 ^ 7 = pow-le-pow_right (omega arith) {i = shift} {j = 7} (omega arith) in
    omega (arith, small)

-- ---- the id of a key

module _ (pieces : List (List ℕ)) (lookup : List ℕ) (ascends : lookup_ascends pieces lookup ≡ true) where
  module _ (key : List ℕ) (found : Option ℕ) (e : found ≡ found_piece pieces lookup key) where
    key_found : id_or (id_at lookup found) ≡ key_id pieces lookup key
    unfolding key_id
    key_found = ap (λ (f : Option ℕ). id_or (id_at lookup f)) e ∙ ap id_or (id_found pieces lookup ascends key)

    pub key_at : (place : ℕ) → found ≡ Some place → get_or lookup place 0 ≡ key_id pieces lookup key
    unfolding id_at
    key_at place f = sym (ap (λ (g : Option ℕ). id_or (id_at lookup g)) f) ∙ key_found

    pub key_none : found ≡ None → no_id ≡ key_id pieces lookup key
    unfolding id_at
    key_none f = sym (ap (λ (g : Option ℕ). id_or (id_at lookup g)) f) ∙ key_found

-- ---- a loop that fills a row with what a function gives each number

-- b numbers of the row stand in words from base on; behind them words is as it was before.
pub record Filled (row : ℕ → ℕ) (n base : ℕ) (before words : List ℕ) (b : ℕ) : Type 0 where
  pub inside : b ≤ n
  pub long : length words ≡ length before
  pub front : words ≡ paste before base (map row (below n)) b

module _ (row : ℕ → ℕ) (n base : ℕ) (before : List ℕ) where
  pub filled-start : Filled row n base before before 0
  filled-start = record { inside = omega arith; long = refl; front = paste-zero before base (map row (below n)) }

  module _ (words : List ℕ) (b : ℕ) (f : Filled row n base before words b) where
    pub filled_next : b < n → base + n ≤ length before → (next : ℕ) → next ≡ row b → Filled row n base before (set words (base + b) next) (b + 1)
    filled_next h room next e =
        let value : next ≡ get_or (map row (below n)) b 0 = e ∙ sym (get_or_row row n b 0 h) in
        record {
          inside = omega arith;
          long = length-set words (base + b) next ∙ f.long;
          front = rw (f.front, value, add-one) (paste-suc before base (map row (below n)) b 0 (omega arith) (omega (arith, length-row row n)));
        }

    pub filled-ended : n ≤ b → words ≡ take base before ++ map row (below n) ++ drop (base + n) before
    filled-ended h =
        let all : b ≡ n = omega (arith, f.inside) in
        f.front ∙ rw (all, take_all n (map row (below n)) (omega (arith, length-row row n)))

-- The same where the loop goes on from the last of them, at.
pub record Filling (row : ℕ → ℕ) (n base : ℕ) (before words : List ℕ) (at b : ℕ) : Type 0 where
  pub filled : Filled row n base before words b
  pub last : at ≡ row (b - 1)

module _ (row : ℕ → ℕ) (n base : ℕ) (before : List ℕ) where
  pub filling_start : 0 ≡ row 0 → Filling row n base before before 0 0
  filling_start e = record { filled = filled-start row n base before; last = e }

  pub filling_next : (words : List ℕ) (at b : ℕ) → Filling row n base before words at b → b < n → base + n ≤ length before → (next : ℕ) → next ≡ row b
      → Filling row n base before (set words (base + b) next) next (b + 1)
  filling_next words at b f h room next e =
      let same : b ≡ b + 1 - 1 = omega arith in
      record { filled = filled_next row n base before words b f.filled h room next e; last = e ∙ ap row same }
