-- What a chain over a list, or over the places of a list, tests and counts.
use mathlib.Core.Path.{◌≡◌, refl, sym, ap}
use mathlib.Core.Bool.{Bool, true, false, cond}
use mathlib.Core.List.{List, [], ◌∷◌}
use Prim.Native.Nat.{ℕ, zero, suc, ◌+◌}
use native.Mathlib.Numerals.{add-one}
use native.Mathlib.Omega.{arith}
use lib.ListN.{length, get_or, drop, drop_of_length-le}
use lib.Seq.{drop-cons}
use Rattle.std.specs.List.{list_all, list_any, range_with_len, enumerate_from}
use Rattle.std.specs.List as std
use Rattle.utf8.specs.Lists.{any, all, count, filter, zip, neighbours, neighbours_from, numbered, numbered_from}
use Rattle.utf8.proofs.Places.{any_at, all-at, any-ended, all-ended}

module _ {A : Type 0} (test : A → Bool) where
  pub list_all-is : (xs : List A) → list_all test xs ≡ all test xs
  list_all-is [] = refl
  list_all-is (x ∷ xs) = rw (list_all-is xs)

  pub list_any-is : (xs : List A) → list_any test xs ≡ any test xs
  list_any-is [] = refl
  list_any-is (x ∷ xs) = rw (list_any-is xs)

  module _ (xs : List A) (d : A) where
    any_from : (i n : ℕ) → i + n ≡ length xs → list_any (λ (k : ℕ). test (get_or xs k d)) (range_with_len i n) ≡ any test (drop i xs)
    any_from i zero e = sym (any-ended test xs i (omega arith))
    any_from i (suc n) e = rw (any_at test xs i d (omega arith), any_from (i + 1) n (omega arith))

    all_from : (i n : ℕ) → i + n ≡ length xs → list_all (λ (k : ℕ). test (get_or xs k d)) (range_with_len i n) ≡ all test (drop i xs)
    all_from i zero e = sym (all-ended test xs i (omega arith))
    all_from i (suc n) e = rw (all-at test xs i d (omega arith), all_from (i + 1) n (omega arith))

    -- a test at each place of a list
    pub any_places : (n : ℕ) → n ≡ length xs → list_any (λ (k : ℕ). test (get_or xs k d)) (range_with_len 0 n) ≡ any test xs
    any_places n e = any_from 0 n (omega arith)

-- ---- how many pass a test

module _ {A : Type 0} (test : A → Bool) where
  filter-is : (xs : List A) → std.filter test xs ≡ filter test xs
  filter-is [] = refl
  filter-is (x ∷ xs) = rw (filter-is xs)

  pub filter-count : (xs : List A) → length (std.filter test xs) ≡ count test xs
  filter-count xs = ap length (filter-is xs)

  module _ (xs : List A) (d : A) where
    passing_from : (i n : ℕ) → i + n ≡ length xs → length (std.filter (λ (k : ℕ). test (get_or xs k d)) (range_with_len i n)) ≡ count test (drop i xs)
    passing_from i zero e = rw (drop_of_length-le xs {i = i} (omega arith))
    passing_from i (suc n) e =
        let more = passing_from (i + 1) n (omega arith) in
        let e : drop i xs ≡ get_or xs i d ∷ drop (i + 1) xs = rw add-one (drop-cons xs i d (omega arith)) in
        rw e (split (test (get_or xs i d)) _ _ _ _ more)
      where
        split : (b : Bool) (ns : List ℕ) (rest : List A) (y : ℕ) (x : A) → length ns ≡ length rest → length (cond b (y ∷ ns) ns) ≡ length (cond b (x ∷ rest) rest)
        split true ns rest y x e = ap suc e
        split false ns rest y x e = e

    -- at each place of a list
    pub places-count : (n : ℕ) → n ≡ length xs → length (std.filter (λ (k : ℕ). test (get_or xs k d)) (range_with_len 0 n)) ≡ count test xs
    places-count n e = passing_from 0 n (omega arith)

-- ---- two lists side by side, neighbours, and elements with their places

module _ {A B : Type 0} where
  pub zip-is : (xs : List A) (ys : List B) → std.zip xs ys ≡ zip xs ys
  zip-is [] ys = refl
  zip-is (x ∷ xs) [] = refl
  zip-is (x ∷ xs) (y ∷ ys) = ap (λ (l : List (A × B)). (x, y) ∷ l) (zip-is xs ys)

module _ {A : Type 0} where
  zip-neighbours_from : (x : A) (xs : List A) → std.zip (x ∷ xs) xs ≡ neighbours_from x xs
  zip-neighbours_from x [] = refl
  zip-neighbours_from x (y ∷ ys) = ap (λ (l : List (A × A)). (x, y) ∷ l) (zip-neighbours_from y ys)

  pub zip-neighbours : (xs : List A) → std.zip xs (drop 1 xs) ≡ neighbours xs
  zip-neighbours [] = refl
  zip-neighbours (x ∷ xs) = zip-neighbours_from x xs

  enumerate-numbered_from : (i : ℕ) (xs : List A) → enumerate_from i xs ≡ numbered_from i xs
  enumerate-numbered_from i [] = refl
  enumerate-numbered_from i (x ∷ xs) = rw add-one (ap (λ (l : List (ℕ × A)). (i, x) ∷ l) (enumerate-numbered_from (suc i) xs))

  pub enumerate-numbered : (xs : List A) → enumerate_from 0 xs ≡ numbered xs
  enumerate-numbered xs = enumerate-numbered_from 0 xs
