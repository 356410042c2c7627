-- Laws of a list cut into parts from its front. Assumes nothing.
use Prim.Native.Nat.{ℕ, zero, suc, ◌≤◌, ◌<◌, max}
use native.Mathlib.Nat.{not-suc-le-zero}
use native.Mathlib.Omega.{arith}
use mathlib.Core.Path.{◌≡◌, refl, sym, ap, ap₂, ◌∙◌}
use mathlib.Core.List.{List, [], ◌∷◌, ◌++◌}
use lib.ListN.{length, take, drop, length-drop, take-append-drop}
use lib.Seq.{take-append-le, drop-append-le}
use Rattle.utf8.specs.Lists.{join, cut_for, cut_by}
use Rattle.utf8.proofs.Lists.{by_length}

module _ {ℓ} {A : Type ℓ} (width : List A → ℕ) where
  cut_for-nil : (n : ℕ) → cut_for n width [] ≡ []
  cut_for-nil zero = refl
  cut_for-nil (suc n) = refl

  -- How much of the list the first part takes: what width says, and at least one element.
  abbrev pub step : List A → ℕ
  step t = max 1 (width t)

  drop_shorter : (x : A) (xs : List A) → length (drop (step (x ∷ xs)) (x ∷ xs)) ≤ length xs
  drop_shorter x xs = omega (arith, length-drop (step (x ∷ xs)) (x ∷ xs))

  -- More turns than there are elements change nothing.
  pub cut_for_enough : (m n : ℕ) (t : List A) → length t ≤ m → length t ≤ n → cut_for m width t ≡ cut_for n width t
  cut_for_enough zero n [] hm hn = sym (cut_for-nil n)
  cut_for_enough zero n (x ∷ xs) hm hn = absurd (not-suc-le-zero hm)
  cut_for_enough (suc m) n [] hm hn = sym (cut_for-nil n)
  cut_for_enough (suc m) zero (x ∷ xs) hm hn = absurd (not-suc-le-zero hn)
  cut_for_enough (suc m) (suc n) (x ∷ xs) hm hn =
      let short = drop_shorter x xs in
      ap {B = List (List A)} (λ r. take (step (x ∷ xs)) (x ∷ xs) ∷ r)
      (cut_for_enough m n (drop (step (x ∷ xs)) (x ∷ xs)) (omega arith) (omega arith))

  pub cut_by-cons : (x : A) (xs : List A)
      → cut_by width (x ∷ xs) ≡ take (step (x ∷ xs)) (x ∷ xs) ∷ cut_by width (drop (step (x ∷ xs)) (x ∷ xs))
  cut_by-cons x xs =
      let rest = drop (step (x ∷ xs)) (x ∷ xs) in
      ap {B = List (List A)} (λ r. take (step (x ∷ xs)) (x ∷ xs) ∷ r)
      (cut_for_enough (length xs) (length rest) rest (drop_shorter x xs) (omega arith))

  -- A list that is not empty: its first part, and then what follows it cut in the same way.
  pub cut_by_step : (t : List A) → 0 < length t → cut_by width t ≡ take (step t) t ∷ cut_by width (drop (step t) t)
  cut_by_step [] h = absurd (not-suc-le-zero h)
  cut_by_step (x ∷ xs) h = cut_by-cons x xs

  pub join-cut_by : (t : List A) → join (cut_by width t) ≡ t
  join-cut_by = by_length (λ (t : List A). join (cut_by width t) ≡ t) turn
    where
      turn : (t : List A) → ((u : List A) → length u < length t → join (cut_by width u) ≡ u) → join (cut_by width t) ≡ t
      turn [] ih = refl
      turn (x ∷ xs) ih =
          let short = drop_shorter x xs in
          let rest = drop (step (x ∷ xs)) (x ∷ xs) in
          ap join (cut_by-cons x xs)
          ∙ ap (λ (r : List A). take (step (x ∷ xs)) (x ∷ xs) ++ r) (ih rest (omega arith))
          ∙ take-append-drop (step (x ∷ xs)) (x ∷ xs)

  -- Where what follows changes no part before it, and no part reaches past its end, the cuts of the two stand side by side.
  module _ (r : List A) (keeps : (q : List A) → 0 < length q → width (q ++ r) ≡ width q) (fits : (q : List A) → width q ≤ length q) where
    pub cut_by-append : (q : List A) → cut_by width (q ++ r) ≡ cut_by width q ++ cut_by width r
    cut_by-append = by_length (λ (q : List A). cut_by width (q ++ r) ≡ cut_by width q ++ cut_by width r) turn
      where
        turn : (q : List A) → ((u : List A) → length u < length q → cut_by width (u ++ r) ≡ cut_by width u ++ cut_by width r)
            → cut_by width (q ++ r) ≡ cut_by width q ++ cut_by width r
        turn [] ih = refl
        turn (x ∷ xs) ih =
            let q = x ∷ xs in
            let short = drop_shorter x xs in
            let same : step (q ++ r) ≡ step q = ap (max 1) (keeps q (omega arith)) in
            let inside : step q ≤ length q = omega (arith, fits q) in
            let front : take (step (q ++ r)) (q ++ r) ≡ take (step q) q = ap (λ (n : ℕ). take n (q ++ r)) same ∙ take-append-le (step q) q r inside in
            let back : drop (step (q ++ r)) (q ++ r) ≡ drop (step q) q ++ r = ap (λ (n : ℕ). drop n (q ++ r)) same ∙ drop-append-le (step q) q r inside in
            cut_by-cons x (xs ++ r)
            ∙ ap₂ {C = List (List A)} ◌∷◌ front (ap (cut_by width) back ∙ ih (drop (step q) q) (omega arith))
            ∙ ap {B = List (List A)} (λ l. l ++ cut_by width r) (sym (cut_by-cons x xs))
