-- How many elements of a list pass a test. Assumes nothing.
use mathlib.Core.Path.{◌≡◌, refl}
use mathlib.Core.Bool.{Bool, true, false}
use mathlib.Core.List.{List, [], ◌∷◌}
use Prim.Native.Nat.{ℕ, zero, suc, ◌≤◌, ◌<◌}
use native.Mathlib.Nat.{le_of_suc-le-suc, not-suc-le-zero, le_refl, lt_irrefl, lt_of_lt_of_le}
use native.Mathlib.Omega.{arith}
use lib.ListN.{length, get_or}
use Rattle.utf8.specs.Lists.{count}
use Rattle.utf8.proofs.Tests.{clash}

module _ {ℓ} {A : Type ℓ} (test : A → Bool) (x : A) (xs : List A) where
  count_in : test x ≡ true → count test (x ∷ xs) ≡ suc (count test xs)
  count_in e = rw e

  count-out : test x ≡ false → count test (x ∷ xs) ≡ count test xs
  count-out e = rw e

-- No more pass than there are.
pub count-within {ℓ} : {A : Type ℓ} (test : A → Bool) (xs : List A) → count test xs ≤ length xs
count-within test [] = le_refl 0
count-within test (x ∷ xs) = go (test x) refl (count-within test xs)
  where
    go : (b : Bool) → test x ≡ b → count test xs ≤ length xs → count test (x ∷ xs) ≤ suc (length xs)
    go true e most = omega (arith, count_in test x xs e, most)
    go false e most = omega (arith, count-out test x xs e, most)

module _ {ℓ} {A : Type ℓ} (p q : A → Bool) (narrow : (x : A) → q x ≡ true → p x ≡ true) where
  -- ---- two tests, of which the second lets nothing pass that the first stops

  -- What an element adds to the two counts: to both, to the first alone, or to none.
  by_adding {κ} : (B : Type κ) (x : A) (xs : List A)
      → (count p (x ∷ xs) ≡ suc (count p xs) → count q (x ∷ xs) ≡ suc (count q xs) → B)
      → (count p (x ∷ xs) ≡ suc (count p xs) → count q (x ∷ xs) ≡ count q xs → B)
      → (count p (x ∷ xs) ≡ count p xs → count q (x ∷ xs) ≡ count q xs → B)
      → B
  by_adding B x xs both first none = go (p x) (q x) refl refl
    where
      go : (a b : Bool) → p x ≡ a → q x ≡ b → B
      go true true e f = both (count_in p x xs e) (count_in q x xs f)
      go true false e f = first (count_in p x xs e) (count-out q x xs f)
      go false true e f = clash e (narrow x f)
      go false false e f = none (count-out p x xs e) (count-out q x xs f)

  pub count_most : (xs : List A) → count q xs ≤ count p xs
  count_most [] = le_refl 0
  count_most (x ∷ xs) =
      let most = count_most xs in
      by_adding _ x xs (λ e f. omega (arith, e, f, most)) (λ e f. omega (arith, e, f, most)) (λ e f. omega (arith, e, f, most))

  -- Fewer pass the second, where one passes the first alone.
  pub count_fewer : (xs : List A) (i : ℕ) (d : A) → i < length xs → p (get_or xs i d) ≡ true → q (get_or xs i d) ≡ false → count q xs < count p xs
  count_fewer [] i d h e f = absurd (not-suc-le-zero h)
  count_fewer (x ∷ xs) zero d h e f = omega (arith, count_in p x xs e, count-out q x xs f, count_most xs)
  count_fewer (x ∷ xs) (suc i) d h e f =
      let fewer = count_fewer xs i d (le_of_suc-le-suc h) e f in
      by_adding _ x xs (λ e f. omega (arith, e, f, fewer)) (λ e f. omega (arith, e, f, fewer)) (λ e f. omega (arith, e, f, fewer))

  -- Where not fewer pass the second, all that pass the first pass it.
  pub count_same : (xs : List A) (i : ℕ) (d : A) → count p xs ≤ count q xs → i < length xs → p (get_or xs i d) ≡ true → q (get_or xs i d) ≡ true
  count_same xs i d h k e = go (q (get_or xs i d)) refl
    where
      go : (b : Bool) → q (get_or xs i d) ≡ b → q (get_or xs i d) ≡ true
      go true f = f
      go false f = absurd (lt_irrefl (count q xs) (lt_of_lt_of_le (count_fewer xs i d k e f) h))
