-- Facts about tests that compute. Assumes nothing.
use Prim.Native.Nat.{ℕ, ◌≤◌, ◌<◌}
use mathlib.Core.Path.{◌≡◌, refl, sym, ◌∙◌, ap₂}
use mathlib.Core.Bool.{Bool, true, false, ◌&&◌, false≢true, ◌||◌}
use mathlib.Core.Logic.{◌⊎◌, inl, inr}
use borrow.Author.Tests.{leb-true, le-leb, lt-leb}
use lib.Dec.{leb}
use Rattle.utf8.specs.Lists.{Range, within}

pub either : (b : Bool) → (b ≡ true) ⊎ (b ≡ false)
either true = inl refl
either false = inr refl

pub clash {ℓ} : {A : Type ℓ} {b : Bool} → b ≡ false → b ≡ true → A
clash p q = absurd (false≢true (sym p ∙ q))

pub and_left : (a b : Bool) → (a && b) ≡ true → a ≡ true
and_left true b e = refl
and_left false b e = e

pub and_right : (a b : Bool) → (a && b) ≡ true → b ≡ true
and_right true b e = e
and_right false b e = clash refl e

pub or_left : (a b : Bool) → (a || b) ≡ false → a ≡ false
or_left true b e = e
or_left false b e = refl

pub or_right : (a b : Bool) → (a || b) ≡ false → b ≡ false
or_right true b e = clash e refl
or_right false b e = e

pub or_also : (a : Bool) {b : Bool} → b ≡ true → (a || b) ≡ true
or_also true e = refl
or_also false e = e

pub and_both : {a b : Bool} → a ≡ true → b ≡ true → (a && b) ≡ true
and_both p q = ap₂ ◌&&◌ p q

module _ (range : Range) (n : ℕ) where
  pub within_low : within range n ≡ true → range.0 ≤ n
  within_low e = leb-true range.0 n (and_left (leb range.0 n) (leb n range.1) e)

  pub within-high : within range n ≡ true → n ≤ range.1
  within-high e = leb-true n range.1 (and_right (leb range.0 n) (leb n range.1) e)

  pub within_in : range.0 ≤ n → n ≤ range.1 → within range n ≡ true
  within_in low high = and_both (le-leb range.0 n low) (le-leb n range.1 high)

  pub within-below : n < range.0 → within range n ≡ false
  within-below h = rw (lt-leb range.0 n h)

  pub within_above : range.1 < n → within range n ≡ false
  within_above h = go (leb range.0 n) (lt-leb n range.1 h)
    where
      go : (b : Bool) {d : Bool} → d ≡ false → (b && d) ≡ false
      go true e = e
      go false e = refl
