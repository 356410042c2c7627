-- Laws of byte order: from place to place, and that it is an order.
use Rattle.std.specs.declared.cmp.Ordering.{Ordering}
use Rattle.std.specs.declared.cmp.Ordering.TheVariants.{Less, Equal, Greater}
use Rattle.std.proofs.lemmas.Bool.Decides.{nat_tests}
use Rattle.std.specs.Ordering.{nat_cmp, ordering_then, is_lt}
use Rattle.std.specs.Cmp.Lexicographic.{slice_cmp}
use mathlib.Core.Path.{◌≡◌, refl, sym, ap, ap₂, ◌∙◌}
use mathlib.Core.Bool.{Bool, true, false, ◌&&◌}
use mathlib.Core.List.{List, [], ◌∷◌}
use Prim.Native.Nat.{ℕ, zero, suc, ◌+◌, ◌≤◌, ◌<◌}
use native.Mathlib.Nat.{le_of_lt}
use native.Mathlib.Numerals.{add-one}
use native.Mathlib.Omega.{arith}
use mathlib.Core.Logic.{⊎_elim}
use borrow.Author.Tests.{lt-ltb, le-ltb, ltb-true, ltb-false, eq-eqb, ne_eqb}
use lib.Dec.{ltb, eqb}
use Rattle.utf8.specs.Lists.{same}
use Rattle.utf8.proofs.Tests.{either, clash}
use Rattle.model.specs.ByteOrder.{order_or, byte_order, is_less}

-- ---- the order of two numbers, or else what is given

-- One number is below another, or it is not.
pub by_below {ℓ} : {A : Type ℓ} (x y : ℕ) → (x < y → A) → (y ≤ x → A) → A
by_below x y less not-less = ⊎_elim (λ l. less (ltb-true x y l)) (λ m. not-less (ltb-false x y m)) (either (ltb x y))

-- Of two numbers one is less, or they are equal.
pub by_numbers {ℓ} : {A : Type ℓ} (x y : ℕ) → (x < y → A) → (y < x → A) → (x ≡ y → A) → A
by_numbers x y less greater equal =
    ⊎_elim (λ l. less (ltb-true x y l))
    (λ m.
    ⊎_elim (λ g. greater (ltb-true y x g)) (λ n. equal (omega (arith, ltb-false x y m, ltb-false y x n))) (either (ltb y x)))
    (either (ltb x y))

module _ (x y : ℕ) (o : Ordering) where
  pub or_less : x < y → order_or x y o ≡ Less
  or_less h = rw (lt-ltb x y h)

  pub or-greater : y < x → order_or x y o ≡ Greater
  or-greater h = rw (le-ltb x y (le_of_lt h), lt-ltb y x h)

  pub or_else : x ≡ y → order_or x y o ≡ o
  or_else h = rw (le-ltb x y (omega arith), le-ltb y x (omega arith))

-- ---- two strings are the same where their order is equal

abbrev pub is_equal : Ordering → Bool
is_equal Less = false
is_equal Equal = true
is_equal Greater = false

pub equal-or : (x y : ℕ) (t : Bool) (o : Ordering) → t ≡ is_equal o → (eqb x y && t) ≡ is_equal (order_or x y o)
equal-or x y t o e =
    by_numbers x y (λ l. rw (or_less x y o l, ne_eqb x y (omega arith))) (λ g. rw (or-greater x y o g, ne_eqb x y (omega arith)))
    (λ q. rw (or_else x y o q, eq-eqb x y q) e)

pub same-is-equal : (xs ys : List ℕ) → same xs ys ≡ is_equal (byte_order xs ys)
same-is-equal [] [] = refl
same-is-equal [] (y ∷ ys) = refl
same-is-equal (x ∷ xs) [] = refl
same-is-equal (x ∷ xs) (y ∷ ys) = equal-or x y (same xs ys) (byte_order xs ys) (same-is-equal xs ys)

-- the test that the library has is `is_less`
pub is_lt-is_less : (o : Ordering) → is_lt o ≡ is_less o
is_lt-is_less Less = refl
is_lt-is_less Equal = refl
is_lt-is_less Greater = refl

-- byte order as the library has it, and as it is defined here
order_or-then : (x y : ℕ) (o : Ordering) → ordering_then (nat_cmp x y) o ≡ order_or x y o
order_or-then x y o = grind (arith, nat_tests)

pub pair_by-numbers : (a b l r : ℕ) → ordering_then (nat_cmp a l) (nat_cmp b r) ≡ order_or a l (order_or b r Equal)
pair_by-numbers a b l r = order_or-then a l (nat_cmp b r) ∙ ap (order_or a l) (grind (arith, nat_tests))

pub slice_cmp-is : (xs ys : List ℕ) → slice_cmp nat_cmp xs ys ≡ byte_order xs ys
slice_cmp-is [] [] = refl
slice_cmp-is [] (y ∷ ys) = refl
slice_cmp-is (x ∷ xs) [] = refl
slice_cmp-is (x ∷ xs) (y ∷ ys) = ap (ordering_then (nat_cmp x y)) (slice_cmp-is xs ys) ∙ order_or-then x y (byte_order xs ys)

pub less_is : (o : Ordering) → is_less o ≡ true → o ≡ Less
less_is Less e = refl
less_is Equal e = clash refl e
less_is Greater e = clash refl e

pub equal_is : (o : Ordering) → is_equal o ≡ true → o ≡ Equal
equal_is Less e = clash refl e
equal_is Equal e = refl
equal_is Greater e = clash refl e

-- ---- byte order is a strict order

pub order_self : (xs : List ℕ) → byte_order xs xs ≡ Equal
order_self [] = refl
order_self (x ∷ xs) = or_else x x (byte_order xs xs) refl ∙ order_self xs

-- No order is less and not less, or equal and not equal.
pub never {ℓ} : {A : Type ℓ} {o p : Ordering} → o ≡ p → is_less o ≡ true → is_less p ≡ false → A
never q l m = clash (ap is_less q ∙ m) l

pub unequal {ℓ} : {A : Type ℓ} {o p : Ordering} → o ≡ p → is_equal o ≡ false → is_equal p ≡ true → A
unequal q l m = clash l (ap is_equal q ∙ m)

pub equal-strings : (xs ys : List ℕ) → byte_order xs ys ≡ Equal → xs ≡ ys
equal-strings [] [] e = refl
equal-strings [] (y ∷ ys) e = unequal e refl refl
equal-strings (x ∷ xs) [] e = unequal e refl refl
equal-strings (x ∷ xs) (y ∷ ys) e =
    let o = byte_order xs ys in
    by_numbers x y (λ l. unequal (sym (or_less x y o l) ∙ e) refl refl) (λ g. unequal (sym (or-greater x y o g) ∙ e) refl refl)
    (λ q. ap₂ ◌∷◌ q (equal-strings xs ys (sym (or_else x y o q) ∙ e)))

pub order_trans : (xs ys zs : List ℕ) → byte_order xs ys ≡ Less → byte_order ys zs ≡ Less → byte_order xs zs ≡ Less
order_trans [] [] zs p q = q
order_trans [] (y ∷ ys) [] p q = never (sym q) refl refl
order_trans [] (y ∷ ys) (z ∷ zs) p q = refl
order_trans (x ∷ xs) [] zs p q = never (sym p) refl refl
order_trans (x ∷ xs) (y ∷ ys) [] p q = q
order_trans (x ∷ xs) (y ∷ ys) (z ∷ zs) p q =
    let below : x < z → byte_order (x ∷ xs) (z ∷ zs) ≡ Less = or_less x z (byte_order xs zs) in
    by_numbers x y
    (λ l. by_numbers y z (λ m. below (omega arith)) (λ g. never (sym (sym (or-greater y z (byte_order ys zs) g) ∙ q)) refl refl) (λ e. below (omega arith)))
    (λ g. never (sym (sym (or-greater x y (byte_order xs ys) g) ∙ p)) refl refl)
    (λ d.
    by_numbers y z (λ m. below (omega arith)) (λ g. never (sym (sym (or-greater y z (byte_order ys zs) g) ∙ q)) refl refl)
    (λ e.
    or_else x z (byte_order xs zs) (d ∙ e)
    ∙ order_trans xs ys zs (sym (or_else x y (byte_order xs ys) d) ∙ p) (sym (or_else y z (byte_order ys zs) e) ∙ q)))

-- The order the other way.
abbrev pub turned : Ordering → Ordering
turned Less = Greater
turned Equal = Equal
turned Greater = Less

or_turned : (x y : ℕ) (o : Ordering) → order_or y x (turned o) ≡ turned (order_or x y o)
or_turned x y o =
    by_numbers x y (λ l. rw (or_less x y o l) (or-greater y x (turned o) l)) (λ g. rw (or-greater x y o g) (or_less y x (turned o) g))
    (λ q. rw (or_else x y o q) (or_else y x (turned o) (sym q)))

pub order_turned : (xs ys : List ℕ) → byte_order ys xs ≡ turned (byte_order xs ys)
order_turned [] [] = refl
order_turned [] (y ∷ ys) = refl
order_turned (x ∷ xs) [] = refl
order_turned (x ∷ xs) (y ∷ ys) = rw (order_turned xs ys) (or_turned x y (byte_order xs ys))

-- ---- a pair as a string of two

abbrev pub two_of : ℕ × ℕ → List ℕ
two_of p = p.0 ∷ p.1 ∷ []

-- ---- keys that ascend

module _ (key : ℕ → List ℕ) (n : ℕ) (step : (i : ℕ) → i + 1 < n → byte_order (key i) (key (i + 1)) ≡ Less) where
  -- Each stands before every later one.
  pub keys_ascend : (i j : ℕ) → i < j → j < n → byte_order (key i) (key j) ≡ Less
  keys_ascend i zero h k = absurd (omega arith)
  keys_ascend i (suc j) h k =
      let last : byte_order (key j) (key (suc j)) ≡ Less = rw add-one at (step j (omega arith)) in
      by_numbers i j (λ l. order_trans (key i) (key j) (key (suc j)) (keys_ascend i j l (omega arith)) last) (λ g. absurd (omega arith))
      (λ q. rw q last)
