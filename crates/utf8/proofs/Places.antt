-- What the words on lists give at a place: the laws that a loop over a table asks for.
use Rattle.std.specs.Prelude.{None, Some}
use mathlib.Core.Path.{◌≡◌, refl, sym, ap, ◌∙◌}
use mathlib.Core.Bool.{Bool, true, false, ◌&&◌, ◌||◌, or_assoc}
use mathlib.Core.List.{List, [], ◌∷◌, ◌++◌}
use Prim.Native.Nat.{ℕ, zero, suc, ◌+◌, ◌-◌, ◌≤◌, ◌<◌, min, suc-le-suc}
use native.Mathlib.Nat.{le_of_suc-le-suc, not-suc-le-zero, suc-sub-suc, sub-zero, zero-sub, suc-add, add-suc, add-zero, zero-add, zero-min, min-zero, suc-min-suc}
use native.Mathlib.Numerals.{add-one}
use native.Mathlib.Omega.{arith}
use lib.Dec.{eqb, eqb-suc-zero}
use lib.ListN.{length, get_or, take, drop, length-take, drop_of_length-le, length-map, get_or-map, get_or-eq_default}
use lib.Seq.{drop-cons, take-nil, take_all, take-length, slice}
use Rattle.utf8.proofs.Tests.{and_left, and_right, or_also}
use Rattle.utf8.specs.Lists.{is_empty, last_or, same, any, all, find, neighbours_from, neighbours, between, numbered_from, numbered, zip, count_from}

module _ {ℓ} {A : Type ℓ} (test : A → Bool) (xs : List A) (i : ℕ) where
  -- ---- one element more, and the end

  pub any_at : (d : A) → i < length xs → any test (drop i xs) ≡ test (get_or xs i d) || any test (drop (i + 1) xs)
  any_at d h = rw (add-one, drop-cons xs i d h)

  pub any_found : (d : A) → i < length xs → test (get_or xs i d) ≡ true → any test (drop i xs) ≡ true
  any_found d h e = any_at d h ∙ rw e

  pub any_next : (d : A) → i < length xs → test (get_or xs i d) ≡ false → any test (drop i xs) ≡ any test (drop (i + 1) xs)
  any_next d h e = any_at d h ∙ rw e

  pub any-ended : length xs ≤ i → any test (drop i xs) ≡ false
  any-ended h = rw (drop_of_length-le xs h)

  pub all-at : (d : A) → i < length xs → all test (drop i xs) ≡ test (get_or xs i d) && all test (drop (i + 1) xs)
  all-at d h = rw (add-one, drop-cons xs i d h)

  pub all_broken : (d : A) → i < length xs → test (get_or xs i d) ≡ false → all test (drop i xs) ≡ false
  all_broken d h e = all-at d h ∙ rw e

  pub all-next : (d : A) → i < length xs → test (get_or xs i d) ≡ true → all test (drop i xs) ≡ all test (drop (i + 1) xs)
  all-next d h e = all-at d h ∙ rw e

  pub all-ended : length xs ≤ i → all test (drop i xs) ≡ true
  all-ended h = rw (drop_of_length-le xs h)

  pub all_holds : (d : A) → all test xs ≡ true → i < length xs → test (get_or xs i d) ≡ true
  all_holds d e h = go xs i e h
    where
      go : (xs : List A) (i : ℕ) → all test xs ≡ true → i < length xs → test (get_or xs i d) ≡ true
      go [] i e h = absurd (not-suc-le-zero h)
      go (x ∷ xs) zero e h = and_left (test x) (all test xs) e
      go (x ∷ xs) (suc i) e h = go xs i (and_right (test x) (all test xs) e) (le_of_suc-le-suc h)

module _ {A : Type 0} (test : A → Bool) where
  -- ---- what a list has, by what its elements are

  pub any-one : (xs : List A) (i : ℕ) (d : A) → i < length xs → test (get_or xs i d) ≡ true → any test xs ≡ true
  any-one [] i d h e = absurd (not-suc-le-zero h)
  any-one (x ∷ xs) zero d h e = rw e
  any-one (x ∷ xs) (suc i) d h e = or_also (test x) (any-one xs i d (le_of_suc-le-suc h) e)

  pub any_none : (xs : List A) (d : A) → ((i : ℕ) → i < length xs → test (get_or xs i d) ≡ false) → any test xs ≡ false
  any_none [] d f = refl
  any_none (x ∷ xs) d f = rw (f 0 (omega arith)) (any_none xs d (λ i h. f (suc i) (suc-le-suc h)))

  -- the first that passes is found
  pub find_first : (xs : List A) (i : ℕ) (d : A) → i < length xs → test (get_or xs i d) ≡ true → ((j : ℕ) → j < i → test (get_or xs j d) ≡ false) → find test xs ≡ Some (get_or xs i d)
  find_first [] i d h e f = absurd (not-suc-le-zero h)
  find_first (x ∷ xs) zero d h e f = rw e
  find_first (x ∷ xs) (suc i) d h e f = rw (f 0 (omega arith)) (find_first xs i d (le_of_suc-le-suc h) e (λ j k. f (suc j) (suc-le-suc k)))

  pub find_none : (xs : List A) (d : A) → ((i : ℕ) → i < length xs → test (get_or xs i d) ≡ false) → find test xs ≡ None
  find_none [] d f = refl
  find_none (x ∷ xs) d f = rw (f 0 (omega arith)) (find_none xs d (λ i h. f (suc i) (suc-le-suc h)))

  pub any_append : (xs ys : List A) → any test (xs ++ ys) ≡ any test xs || any test ys
  any_append [] ys = refl
  any_append (x ∷ xs) ys = ap (λ (b : Bool). test x || b) (any_append xs ys) ∙ sym (or_assoc (test x) (any test xs) (any test ys))

module _ {ℓ} {A : Type ℓ} where
  -- what stands for a missing element does not matter where there is one
  pub get_or_inside : (xs : List A) (i : ℕ) (d e : A) → i < length xs → get_or xs i d ≡ get_or xs i e
  get_or_inside [] i d e h = absurd (not-suc-le-zero h)
  get_or_inside (x ∷ xs) zero d e h = refl
  get_or_inside (x ∷ xs) (suc i) d e h = get_or_inside xs i d e (le_of_suc-le-suc h)

  pub empty_by_length : (xs : List A) → is_empty xs ≡ eqb (length xs) 0
  empty_by_length [] = refl
  empty_by_length (x ∷ xs) = sym (eqb-suc-zero (length xs))

  last_from : (x : A) (xs : List A) (d : A) → last_or x xs ≡ get_or (x ∷ xs) (length xs) d
  last_from x [] d = refl
  last_from x (y ∷ ys) d = last_from y ys d

  pub last-at : (d : A) (xs : List A) → last_or d xs ≡ get_or xs (length xs - 1) d
  last-at d [] = refl
  last-at d (x ∷ xs) =
      let n : length xs ≡ suc (length xs) - 1 = omega arith in
      last_from x xs d ∙ ap (λ (k : ℕ). get_or (x ∷ xs) k d) n

  -- ---- neighbours

  length-neighbours_from : (x : A) (xs : List A) → length (neighbours_from x xs) ≡ length xs
  length-neighbours_from x [] = refl
  length-neighbours_from x (y ∷ ys) = ap suc (length-neighbours_from y ys)

  pub length-neighbours : (xs : List A) → length (neighbours xs) ≡ length xs - 1
  length-neighbours [] = refl
  length-neighbours (x ∷ xs) = length-neighbours_from x xs ∙ omega arith

  get_or_neighbours_from : (x : A) (xs : List A) (i : ℕ) (d e : A) → i < length xs → get_or (neighbours_from x xs) i (d, e) ≡ (get_or (x ∷ xs) i d, get_or xs i e)
  get_or_neighbours_from x [] i d e h = absurd (not-suc-le-zero h)
  get_or_neighbours_from x (y ∷ ys) zero d e h = refl
  get_or_neighbours_from x (y ∷ ys) (suc i) d e h = get_or_neighbours_from y ys i d e (le_of_suc-le-suc h)

  pub get_or_neighbours : (xs : List A) (i : ℕ) (d e : A) → i + 1 < length xs → get_or (neighbours xs) i (d, e) ≡ (get_or xs i d, get_or xs (i + 1) e)
  get_or_neighbours [] i d e h = absurd (not-suc-le-zero h)
  get_or_neighbours (x ∷ xs) i d e h = rw add-one (get_or_neighbours_from x xs i d e (omega arith))

module _ {ℓ} {A : Type ℓ} where
  -- ---- elements with their places

  length-numbered_from : (p : ℕ) (xs : List A) → length (numbered_from p xs) ≡ length xs
  length-numbered_from p [] = refl
  length-numbered_from p (x ∷ xs) = ap suc (length-numbered_from (suc p) xs)

  pub length-numbered : (xs : List A) → length (numbered xs) ≡ length xs
  length-numbered xs = length-numbered_from 0 xs

  get_or_numbered_from : (p : ℕ) (xs : List A) (i q : ℕ) (d : A) → i < length xs → get_or (numbered_from p xs) i (q, d) ≡ (p + i, get_or xs i d)
  get_or_numbered_from p [] i q d h = absurd (not-suc-le-zero h)
  get_or_numbered_from p (x ∷ xs) zero q d h = rw add-zero
  get_or_numbered_from p (x ∷ xs) (suc i) q d h = rw (add-suc, ← suc-add) (get_or_numbered_from (suc p) xs i q d (le_of_suc-le-suc h))

  pub get_or_numbered : (xs : List A) (i q : ℕ) (d : A) → i < length xs → get_or (numbered xs) i (q, d) ≡ (i, get_or xs i d)
  get_or_numbered xs i q d h = get_or_numbered_from 0 xs i q d h ∙ rw zero-add

module _ {ℓ} {A : Type ℓ} (test : A × A → Bool) (xs : List A) (i : ℕ) (d : A) where
  -- ---- tests of neighbours, one pair more and the end

  inside : i + 1 < length xs → i < length (neighbours xs)
  inside h = omega (arith, length-neighbours xs)

  at_pair : (b : Bool) → i + 1 < length xs → test (get_or xs i d, get_or xs (i + 1) d) ≡ b → test (get_or (neighbours xs) i (d, d)) ≡ b
  at_pair b h e = ap test (get_or_neighbours xs i d d h) ∙ e

  pub all_pair_broken : i + 1 < length xs → test (get_or xs i d, get_or xs (i + 1) d) ≡ false → all test (drop i (neighbours xs)) ≡ false
  all_pair_broken h e = all_broken test (neighbours xs) i (d, d) (inside h) (at_pair false h e)

  pub all_pair_next : i + 1 < length xs → test (get_or xs i d, get_or xs (i + 1) d) ≡ true → all test (drop i (neighbours xs)) ≡ all test (drop (i + 1) (neighbours xs))
  all_pair_next h e = all-next test (neighbours xs) i (d, d) (inside h) (at_pair true h e)

  pub all_pair_ended : length xs ≤ i + 1 → all test (drop i (neighbours xs)) ≡ true
  all_pair_ended h = all-ended test (neighbours xs) i (omega (arith, length-neighbours xs))

  pub all_pair_holds : all test (neighbours xs) ≡ true → i + 1 < length xs → test (get_or xs i d, get_or xs (i + 1) d) ≡ true
  all_pair_holds e h = ap test (sym (get_or_neighbours xs i d d h)) ∙ all_holds test (neighbours xs) i (d, d) e (inside h)

module _ {ℓ κ} {A : Type ℓ} {B : Type κ} where
  -- ---- two lists side by side

  pub length-zip : (xs : List A) (ys : List B) → length (zip xs ys) ≡ min (length xs) (length ys)
  length-zip [] ys = sym (zero-min (length ys))
  length-zip (x ∷ xs) [] = sym (min-zero (suc (length xs)))
  length-zip (x ∷ xs) (y ∷ ys) = ap suc (length-zip xs ys) ∙ sym (suc-min-suc (length xs) (length ys))

  pub get_or_zip : (xs : List A) (ys : List B) (i : ℕ) (d : A) (e : B) → i < length xs → i < length ys → get_or (zip xs ys) i (d, e) ≡ (get_or xs i d, get_or ys i e)
  get_or_zip [] ys i d e h k = absurd (not-suc-le-zero h)
  get_or_zip (x ∷ xs) [] i d e h k = absurd (not-suc-le-zero k)
  get_or_zip (x ∷ xs) (y ∷ ys) zero d e h k = refl
  get_or_zip (x ∷ xs) (y ∷ ys) (suc i) d e h k = get_or_zip xs ys i d e (le_of_suc-le-suc h) (le_of_suc-le-suc k)

module _ {ℓ} {A : Type ℓ} where
  -- ---- a part from a place to a place

  pub slice_none : (f t : ℕ) (l : List A) → t ≤ f → slice f t l ≡ []
  slice_none f t l h = drop_of_length-le (take t l) {i = f} (omega (arith, length-take t l))

  pub slice_past : (f t : ℕ) (l : List A) → length l ≤ f → slice f t l ≡ []
  slice_past f t l h = drop_of_length-le (take t l) {i = f} (omega (arith, length-take t l))

  pub slice_of : (f t : ℕ) (l : List A) → take (t - f) (drop f l) ≡ slice f t l
  slice_of zero t l = rw sub-zero
  slice_of (suc f) zero l = rw zero-sub
  slice_of (suc f) (suc t) [] = take-nil (suc t - suc f)
  slice_of (suc f) (suc t) (x ∷ xs) = rw suc-sub-suc (slice_of f t xs)

  pub slice_rest : (f t : ℕ) (l : List A) → length l ≤ t → take (length l - f) (drop f l) ≡ slice f t l
  slice_rest f t l h = slice_of f (length l) l ∙ rw (take_all t l h, take-length)

-- ---- numbers from one on

pub length-count_from : (first n : ℕ) → length (count_from first n) ≡ n
length-count_from first zero = refl
length-count_from first (suc n) = ap suc (length-count_from (suc first) n)

pub get_or_count_from : (first n i d : ℕ) → i < n → get_or (count_from first n) i d ≡ first + i
get_or_count_from first zero i d h = absurd (not-suc-le-zero h)
get_or_count_from first (suc n) zero d h = sym (add-zero first)
get_or_count_from first (suc n) (suc i) d h = rw (add-suc, ← suc-add) (get_or_count_from (suc first) n i d (le_of_suc-le-suc h))

-- ---- parts between places

pub length-between : (places xs : List ℕ) → length (between places xs) ≡ length places - 1
length-between places xs = length-map (neighbours places) _ ∙ length-neighbours places

pub get_or_between : (places xs : List ℕ) (i : ℕ) → i + 1 < length places → get_or (between places xs) i [] ≡ slice (get_or places i 0) (get_or places (i + 1) 0) xs
get_or_between places xs i h =
    let part : ℕ × ℕ → List ℕ = λ p. slice p.0 p.1 xs in
    get_or-map part (neighbours places) i (0, 0) ∙ ap part (get_or_neighbours places i 0 0 h)

-- past the last part there is none
pub get_or_between-past : (places xs : List ℕ) (i : ℕ) → length places ≤ i + 1 → get_or (between places xs) i [] ≡ []
get_or_between-past places xs i h = get_or-eq_default (between places xs) [] (rw length-between (omega arith))

-- ---- the same as two lists joined

and_assoc : (a b c : Bool) → (a && (b && c)) ≡ ((a && b) && c)
and_assoc true b c = refl
and_assoc false b c = refl

same-join : (whole xs ys : List ℕ) → same whole (xs ++ ys) ≡ (same (take (length xs) whole) xs && same (drop (length xs) whole) ys)
same-join whole [] ys = refl
same-join [] (x ∷ xs) ys = refl
same-join (w ∷ whole) (x ∷ xs) ys = rw (same-join whole xs ys) (and_assoc (eqb w x) (same (take (length xs) whole) xs) (same (drop (length xs) whole) ys))

module _ (whole xs ys front : List ℕ) (is_front : front ≡ slice 0 (length xs) whole) where
  -- a list whose front is not the first is not the two joined
  pub no_join : same front xs ≡ false → same whole (xs ++ ys) ≡ false
  no_join e = same-join whole xs ys ∙ rw (← is_front, e)

  -- one whose front is the first is the two joined where the rest is the second
  pub join_rest : (rest : List ℕ) → rest ≡ slice (length xs) (length whole) whole → same front xs ≡ true → same whole (xs ++ ys) ≡ same rest ys
  join_rest rest is-rest e = same-join whole xs ys ∙ rw (← is_front, e, is-rest, take-length)
