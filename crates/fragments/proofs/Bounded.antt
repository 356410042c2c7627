-- Tests and numbers over the places from one on. Assumes nothing.
use Rattle.std.specs.Prelude.{None, Some}
use Rattle.std.proofs.lemmas.Option.{none-some, same_Some}
use Prim.Native.Nat.{ℕ, zero, suc, ◌+◌, ◌-◌, ◌≤◌, ◌<◌, max}
use native.Mathlib.Nat.{eq-or-lt_of_le, zero-add, add-zero, suc-add}
use native.Mathlib.Numerals.{add-one}
use native.Mathlib.Omega.{arith}
use mathlib.Core.Path.{◌≡◌, refl, sym, ap, ◌∙◌}
use mathlib.Core.Bool.{Bool, true, false, cond, ◌||◌}
use mathlib.Core.List.{List, [], ◌∷◌}
use mathlib.Core.Logic.{◌⊎◌, inl, inr, ⊎_elim}
use Rattle.utf8.specs.Lists.{any, find, below, count_from}
use Rattle.std.specs.List.{list_any, range_with_len}
use Rattle.utf8.proofs.Tests.{clash, or_also}
use Rattle.fragments.specs.inner.Most.{most}
use Rattle.fragments.proofs.ChoiceLaws.{or-first, lt-or-le}

module _ (test : ℕ → Bool) where
  pub record Holding (a k : ℕ) : Type 0 where
    pub place : ℕ
    pub low : a ≤ place
    pub high : place < a + k
    pub holds : test place ≡ true

  pub any_here : (a k x : ℕ) → a ≤ x → x < a + k → test x ≡ true → any test (count_from a k) ≡ true
  any_here a zero x l h e = absurd (omega arith)
  any_here a (suc k) x l h e =
      ⊎_elim (λ q. or-first (any test (count_from (suc a) k)) (ap test q ∙ e)) (λ q. or_also (test a) (any_here (suc a) k x q (omega arith) e)) (eq-or-lt_of_le l)

  pub any_where : (a k : ℕ) → any test (count_from a k) ≡ true → Holding a k
  any_where a zero e = clash refl e
  any_where a (suc k) e = go (any_where (suc a) k) (test a) refl e
    where
      go : (any test (count_from (suc a) k) ≡ true → Holding (suc a) k) → (b : Bool) → test a ≡ b → (b || any test (count_from (suc a) k)) ≡ true → Holding a (suc k)
      go later true q e = record { place = a; low = omega arith; high = omega arith; holds = q }
      go later false q e =
          let w = later e in
          record { place = w.place; low = omega (arith, w.low); high = omega (arith, w.high); holds = w.holds }

  -- What a search finds, and that it finds nothing.
  pub record Found (a k x : ℕ) : Type 0 where
    pub low : a ≤ x
    pub high : x < a + k
    pub holds : test x ≡ true

  pub find_where : (a k x : ℕ) → find test (count_from a k) ≡ Some x → Found a k x
  find_where a zero x e = absurd (none-some x e)
  find_where a (suc k) x e = go (find_where (suc a) k x) (test a) refl e
    where
      go : (find test (count_from (suc a) k) ≡ Some x → Found (suc a) k x) → (b : Bool) → test a ≡ b → cond b (Some a) (find test (count_from (suc a) k)) ≡ Some x → Found a (suc k) x
      go later true q e =
          let same : a ≡ x = same_Some a x e in
          record { low = omega arith; high = omega arith; holds = ap test (sym same) ∙ q }
      go later false q e =
          let f = later e in
          record { low = omega (arith, f.low); high = omega (arith, f.high); holds = f.holds }

  pub find-nothing : (xs : List ℕ) → find test xs ≡ None → any test xs ≡ false
  find-nothing [] e = refl
  find-nothing (x ∷ xs) e = go (test x) (find-nothing xs) e
    where
      go : (b : Bool) → (find test xs ≡ None → any test xs ≡ false) → cond b (Some x) (find test xs) ≡ None → (b || any test xs) ≡ false
      go true later e = absurd (none-some x (sym e))
      go false later e = later e

  -- Places that fail are passed over.
  pub find_skip : (a j k : ℕ) → ((x : ℕ) → a ≤ x → x < a + j → test x ≡ false) → find test (count_from a (j + k)) ≡ find test (count_from (a + j) k)
  find_skip a zero k f = rw (zero-add, add-zero)
  find_skip a (suc j) k f =
      rw (suc-add, f a (omega arith) (omega arith)) (find_skip (suc a) j k (λ x l h. f x (omega arith) (omega arith)) ∙ ap (λ (n : ℕ). find test (count_from n k)) next)
    where
      next : suc a + j ≡ a + suc j
      next = omega arith

module _ (f : ℕ → ℕ) where
  pub record Greatest (a k n : ℕ) : Type 0 where
    pub place : ℕ
    pub low : a ≤ place
    pub high : place < a + k
    pub is : f place ≡ n

  pub most_here : (a k x : ℕ) → a ≤ x → x < a + k → f x ≤ most f (count_from a k)
  most_here a zero x l h = absurd (omega arith)
  most_here a (suc k) x l h =
      ⊎_elim (λ q. omega (arith, ap f q)) (λ q. omega (arith, most_here (suc a) k x q (omega arith))) (eq-or-lt_of_le l)

  pub most-below : (a k b : ℕ) → ((x : ℕ) → a ≤ x → x < a + k → f x ≤ b) → most f (count_from a k) ≤ b
  most-below a zero b g = omega arith
  most-below a (suc k) b g =
      let here = g a (omega arith) (omega arith) in
      let later = most-below (suc a) k b (λ x l h. g x (omega arith) (omega arith)) in
      omega arith

  pub most_where : (a k : ℕ) → 0 < most f (count_from a k) → Greatest a k (most f (count_from a k))
  most_where a zero h = absurd (omega arith)
  most_where a (suc k) h = go (most_where (suc a) k) (f a) refl (most f (count_from (suc a) k)) refl
    where
      go : (0 < most f (count_from (suc a) k) → Greatest (suc a) k (most f (count_from (suc a) k)))
          → (x : ℕ) → f a ≡ x → (n : ℕ) → most f (count_from (suc a) k) ≡ n → Greatest a (suc k) (max (f a) (most f (count_from (suc a) k)))
      go later x q zero e = record { place = a; low = omega arith; high = omega arith; is = omega arith }
      go later x q (suc n) e = pick (later (omega arith)) (eq-or-lt_of_le {n = f a} {m = max (f a) (most f (count_from (suc a) k))} (omega arith))
        where
          pick : Greatest (suc a) k (most f (count_from (suc a) k)) → (f a ≡ max (f a) (most f (count_from (suc a) k))) ⊎ (f a < max (f a) (most f (count_from (suc a) k))) → Greatest a (suc k) (max (f a) (most f (count_from (suc a) k)))
          pick w (inl s) = record { place = a; low = omega arith; high = omega arith; is = s }
          pick w (inr s) = record { place = w.place; low = omega (arith, w.low); high = omega (arith, w.high); is = omega (arith, w.is) }

  -- From a place to a place further on, and from there.
  pub most-split : (a j k : ℕ) → most f (count_from a (j + k)) ≡ max (most f (count_from a j)) (most f (count_from (a + j) k))
  most-split a j k = omega (arith, up, down, rest)
    where
      all_of : ℕ
      all_of = most f (count_from a (j + k))

      down : most f (count_from a j) ≤ all_of
      down = most-below a j all_of (λ x l h. most_here a (j + k) x l (omega arith))

      rest : most f (count_from (a + j) k) ≤ all_of
      rest = most-below (a + j) k all_of (λ x l h. most_here a (j + k) x (omega arith) (omega arith))

      up : all_of ≤ max (most f (count_from a j)) (most f (count_from (a + j) k))
      up = most-below a (j + k) (max (most f (count_from a j)) (most f (count_from (a + j) k))) (λ x l h. ⊎_elim (λ q. omega (arith, most_here a j x l q)) (λ q. omega (arith, most_here (a + j) k x q (omega arith))) (lt-or-le x (a + j)))

  -- A loop that keeps the greatest so far: one place more, and the end.
  pub most-next : (row n far : ℕ) → row < n → max far (most f (count_from row (n - row))) ≡ max (max far (f row)) (most f (count_from (row + 1) (n - (row + 1))))
  most-next row n far h =
      let more : n - row ≡ suc (n - suc row) = omega arith in
      let here : most f (count_from row (n - row)) ≡ max (f row) (most f (count_from (row + 1) (n - (row + 1)))) = rw (more, add-one) in
      omega (arith, here)

  pub most-ended : (row n far : ℕ) → n ≤ row → max far (most f (count_from row (n - row))) ≡ far
  most-ended row n far h = let none_left : n - row ≡ 0 = omega arith in rw none_left (omega arith)

  -- A loop that walks back from the end and keeps the greatest so far.
  pub most-last : (from s far : ℕ) → from < s → max far (most f (count_from from (s - from))) ≡ max (max far (f (s - 1))) (most f (count_from from ((s - 1) - from)))
  most-last from s far h =
      let parts : s - from ≡ ((s - 1) - from) + 1 = omega arith in
      let last : from + ((s - 1) - from) ≡ s - 1 = omega arith in
      let split : most f (count_from from (s - from)) ≡ max (most f (count_from from ((s - 1) - from))) (max (f (s - 1)) 0) =
      ap (λ (k : ℕ). most f (count_from from k)) parts ∙ most-split from ((s - 1) - from) 1 ∙ ap (λ (k : ℕ). max (most f (count_from from ((s - 1) - from))) (max (f k) 0)) last in
      omega (arith, split)

-- ---- what an iterator over places tests

module _ (test : ℕ → Bool) where
  any_counted : (a n : ℕ) → list_any test (range_with_len a n) ≡ any test (count_from a n)
  any_counted a zero = refl
  any_counted a (suc n) = rw (any_counted (a + 1) n, add-one)

  pub any_below_lem : (n : ℕ) → list_any test (range_with_len 0 n) ≡ any test (below n)
  any_below_lem n = any_counted 0 n
