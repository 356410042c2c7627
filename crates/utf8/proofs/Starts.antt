-- Laws of what a list starts with. Assumes nothing.
use Prim.Native.Nat.{ℕ, zero, suc, ◌≤◌, ◌<◌}
use native.Mathlib.Omega.{arith}
use mathlib.Core.Path.{◌≡◌, refl, sym, ap, ap₂, ◌∙◌}
use mathlib.Core.Bool.{Bool, true, false, ◌&&◌, and-false}
use mathlib.Core.Logic.{⊎_elim}
use mathlib.Core.List.{List, [], ◌∷◌}
use borrow.Author.Tests.{eqb-true, eq-eqb}
use lib.Dec.{eqb}
use lib.ListN.{length, take}
use lib.Pointwise.{pointwise}
use Rattle.utf8.specs.Lists.{is_empty, starts_with, same}
use Rattle.utf8.proofs.Tests.{either, and_left, and_right, and_both, clash}

module _ {ℓ} {A : Type ℓ} where
  pub no_elements : (l : List A) → length l ≡ 0 → l ≡ []
  no_elements [] h = refl
  no_elements (x ∷ l) h = absurd (omega arith)

  pub not-empty : (l : List A) → 0 < length l → is_empty l ≡ false
  not-empty [] h = absurd (omega arith)
  not-empty (x ∷ l) h = refl

-- What the `==` of a slice and a text's front tells.
pub starts_by_front : (p t : List ℕ) → pointwise eqb p (take (length p) t) ≡ starts_with p t
starts_by_front [] t = refl
starts_by_front (x ∷ p) [] = refl
starts_by_front (x ∷ p) (y ∷ t) = ap (λ (b : Bool). eqb x y && b) (starts_by_front p t)

-- What a slice's `==` tells.
pub same_by_elements : (p q : List ℕ) → pointwise eqb p q ≡ same p q
same_by_elements [] [] = refl
same_by_elements [] (y ∷ q) = refl
same_by_elements (x ∷ p) [] = refl
same_by_elements (x ∷ p) (y ∷ q) = ap (λ (b : Bool). eqb x y && b) (same_by_elements p q)

pub starts_short : (p t : List ℕ) → length t < length p → starts_with p t ≡ false
starts_short [] t h = absurd (omega arith)
starts_short (x ∷ p) [] h = refl
starts_short (x ∷ p) (y ∷ t) h = rw (starts_short p t (omega arith)) (and-false (eqb x y))

pub starts_length : (p t : List ℕ) → starts_with p t ≡ true → length p ≤ length t
starts_length [] t e = omega arith
starts_length (x ∷ p) [] e = clash refl e
starts_length (x ∷ p) (y ∷ t) e = omega (arith, starts_length p t (and_right (eqb x y) (starts_with p t) e))

-- What a text starts with is its front, and a front is what it starts with.
pub starts_front : (p t : List ℕ) → starts_with p t ≡ true → take (length p) t ≡ p
starts_front [] t e = refl
starts_front (x ∷ p) [] e = clash refl e
starts_front (x ∷ p) (y ∷ t) e =
    ap₂ {C = List ℕ} ◌∷◌ (sym (eqb-true x y (and_left (eqb x y) (starts_with p t) e))) (starts_front p t (and_right (eqb x y) (starts_with p t) e))

starts_take : (n : ℕ) (t : List ℕ) → starts_with (take n t) t ≡ true
starts_take zero t = refl
starts_take (suc n) [] = refl
starts_take (suc n) (x ∷ t) = and_both (eq-eqb x x refl) (starts_take n t)

pub same_refl : (p : List ℕ) → same p p ≡ true
same_refl [] = refl
same_refl (x ∷ p) = and_both (eq-eqb x x refl) (same_refl p)

pub same-eq : (p q : List ℕ) → same p q ≡ true → p ≡ q
same-eq [] [] e = refl
same-eq [] (y ∷ q) e = clash refl e
same-eq (x ∷ p) [] e = clash refl e
same-eq (x ∷ p) (y ∷ q) e = ap₂ {C = List ℕ} ◌∷◌ (eqb-true x y (and_left (eqb x y) (same p q) e)) (same-eq p q (and_right (eqb x y) (same p q) e))

-- No front is what a text does not start with.
pub front-apart : (n : ℕ) (p t : List ℕ) → starts_with p t ≡ false → same (take n t) p ≡ false
front-apart n p t e = ⊎_elim (λ s. clash e (ap (λ (l : List ℕ). starts_with l t) (sym (same-eq (take n t) p s)) ∙ starts_take n t)) (λ s. s) (either (same (take n t) p))

pub apart_by_length : (p t : List ℕ) → length t < length p → same p t ≡ false
apart_by_length [] t h = absurd (omega arith)
apart_by_length (x ∷ p) [] h = refl
apart_by_length (x ∷ p) (y ∷ t) h = rw (apart_by_length p t (omega arith)) (and-false (eqb x y))
