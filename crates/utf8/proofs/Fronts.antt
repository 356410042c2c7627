-- The front of a list whose elements pass a test: where it ends, and a walk that goes on from a place. Assumes nothing.
use mathlib.Core.Path.{◌≡◌, refl, ap, ◌∙◌}
use mathlib.Core.Bool.{Bool, true, false}
use mathlib.Core.List.{List, [], ◌∷◌, map}
use mathlib.Core.Logic.{⊎_elim}
use Prim.Native.Nat.{ℕ, zero, suc, ◌+◌, ◌≤◌, ◌<◌}
use native.Mathlib.Nat.{not-suc-le-zero, add-zero, zero-add, le_refl, eq-or-lt_of_le}
use native.Mathlib.Numerals.{add-one}
use native.Mathlib.Omega.{arith}
use lib.ListN.{length, get_or, drop, drop_of_length-le, length-map, get_or-map}
use lib.Seq.{drop-cons}
use Rattle.utf8.specs.Lists.{take_while, below}
use Rattle.utf8.proofs.Tests.{clash}
use Rattle.utf8.proofs.Places.{get_or_inside, length-count_from, get_or_count_from}

module _ {ℓ} {A : Type ℓ} (test : A → Bool) where
  front_in : (x : A) (xs : List A) → test x ≡ true → length (take_while test (x ∷ xs)) ≡ suc (length (take_while test xs))
  front_in x xs e = rw e

  front_out : (x : A) (xs : List A) → test x ≡ false → length (take_while test (x ∷ xs)) ≡ 0
  front_out x xs e = rw e

  pub front-within : (xs : List A) → length (take_while test xs) ≤ length xs
  front-within [] = le_refl 0
  front-within (x ∷ xs) = go (test x) refl (front-within xs)
    where
      go : (b : Bool) → test x ≡ b → length (take_while test xs) ≤ length xs → length (take_while test (x ∷ xs)) ≤ suc (length xs)
      go true e most = omega (arith, front_in x xs e, most)
      go false e most = omega (arith, front_out x xs e)

  -- What stands in the front passes.
  pub front_passes : (xs : List A) (i : ℕ) (d : A) → i < length (take_while test xs) → test (get_or xs i d) ≡ true
  front_passes [] i d h = absurd (not-suc-le-zero h)
  front_passes (x ∷ xs) i d h = go (test x) refl i h (λ j l. front_passes xs j d l)
    where
      go : (b : Bool) → test x ≡ b → (i : ℕ) → i < length (take_while test (x ∷ xs)) → ((j : ℕ) → j < length (take_while test xs) → test (get_or xs j d) ≡ true) → test (get_or (x ∷ xs) i d) ≡ true
      go true e zero h rest = e
      go true e (suc i) h rest = rest i (omega (arith, front_in x xs e))
      go false e i h rest = absurd (omega (arith, front_out x xs e))

  -- What stands right behind it does not.
  pub front-ended : (xs : List A) (d : A) → length (take_while test xs) < length xs → test (get_or xs (length (take_while test xs)) d) ≡ false
  front-ended [] d h = absurd (not-suc-le-zero h)
  front-ended (x ∷ xs) d h = go (test x) refl (front-ended xs d)
    where
      go : (b : Bool) → test x ≡ b → (length (take_while test xs) < length xs → test (get_or xs (length (take_while test xs)) d) ≡ false) → test (get_or (x ∷ xs) (length (take_while test (x ∷ xs))) d) ≡ false
      go true e rest = rw (front_in x xs e) (rest (omega (arith, front_in x xs e)))
      go false e rest = rw (front_out x xs e) e

  -- Nor does anything further behind, where what passes has only such before it.
  pub front-past : (xs : List A) (i : ℕ) (d : A) → ((j : ℕ) → j < i → test (get_or xs i d) ≡ true → test (get_or xs j d) ≡ true) → length (take_while test xs) ≤ i → i < length xs → test (get_or xs i d) ≡ false
  front-past xs i d closed h k = go (test (get_or xs i d)) refl
    where
      n : ℕ
      n = length (take_while test xs)

      last : test (get_or xs n d) ≡ false
      last = front-ended xs d (omega arith)

      go : (b : Bool) → test (get_or xs i d) ≡ b → test (get_or xs i d) ≡ false
      go true e =
          ⊎_elim (λ (q : n ≡ i). clash last (ap (λ (j : ℕ). test (get_or xs j d)) q ∙ e)) (λ (l : n < i). clash last (closed n l e)) (eq-or-lt_of_le h)
      go false e = e

module _ {ℓ} {A : Type ℓ} (test : A → Bool) (xs : List A) (i : ℕ) where
  -- ---- a walk from a place on, by one element, to the first that does not pass, to the end

  pub front-next : (d : A) → i < length xs → test (get_or xs i d) ≡ true → i + length (take_while test (drop i xs)) ≡ (i + 1) + length (take_while test (drop (i + 1) xs))
  front-next d h e =
      let more : length (take_while test (drop i xs)) ≡ suc (length (take_while test (drop (i + 1) xs))) = rw (add-one, drop-cons xs i d h, e) in
      omega (arith, more)

  pub front-stop : (d : A) → i < length xs → test (get_or xs i d) ≡ false → i + length (take_while test (drop i xs)) ≡ i
  front-stop d h e = rw (drop-cons xs i d h, e) (add-zero i)

  pub front-end : length xs ≤ i → i + length (take_while test (drop i xs)) ≡ i
  front-end h = rw (drop_of_length-le xs h) (add-zero i)

module _ {ℓ} {A : Type ℓ} (p q : A → Bool) (wider : (x : A) → p x ≡ true → q x ≡ true) where
  -- The front by a wider test goes on from the end of the first.
  pub front_on : (xs : List A) → length (take_while p xs) + length (take_while q (drop (length (take_while p xs)) xs)) ≡ length (take_while q xs)
  front_on [] = refl
  front_on (x ∷ xs) = go (p x) refl (front_on xs)
    where
      go : (b : Bool) → p x ≡ b → length (take_while p xs) + length (take_while q (drop (length (take_while p xs)) xs)) ≡ length (take_while q xs) → length (take_while p (x ∷ xs)) + length (take_while q (drop (length (take_while p (x ∷ xs))) (x ∷ xs))) ≡ length (take_while q (x ∷ xs))
      go true e rest = rw (e, wider x e) (omega (arith, rest))
      go false e rest = rw e (zero-add (length (take_while q (x ∷ xs))))

-- ---- what is computed of each number

pub length-row : (f : ℕ → ℕ) (n : ℕ) → length (map f (below n)) ≡ n
length-row f n = length-map (below n) f ∙ length-count_from 0 n

pub get_or_row : (f : ℕ → ℕ) (n i d : ℕ) → i < n → get_or (map f (below n)) i d ≡ f i
get_or_row f n i d h =
    get_or_inside (map f (below n)) i d (f 0) (omega (arith, length-row f n))
    ∙ get_or-map f (below n) i 0
    ∙ ap f (get_or_count_from 0 n i 0 h ∙ zero-add i)
