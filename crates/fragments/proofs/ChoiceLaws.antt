-- Tests put together, and what is chosen by one. Assumes nothing.
use Prim.Native.Nat.{ℕ, ◌≤◌, ◌<◌}
use native.Mathlib.Omega.{arith}
use mathlib.Core.Path.{◌≡◌, refl}
use mathlib.Core.Bool.{Bool, true, false, cond, ◌&&◌, ◌||◌}
use mathlib.Core.Logic.{◌⊎◌, inl, inr, ⊎_elim}
use borrow.Author.Tests.{ltb-true, ltb-false}
use lib.Dec.{ltb}
use Rattle.utf8.proofs.Tests.{either}

pub never : (a : Bool) → (a ≡ true → ⊥) → a ≡ false
never a f = ⊎_elim (λ e. absurd (f e)) (λ e. e) (either a)

pub or-first : {a : Bool} (b : Bool) → a ≡ true → (a || b) ≡ true
or-first b e = rw e

pub second-false : (a : Bool) {b : Bool} → b ≡ false → (a && b) ≡ false
second-false true e = e
second-false false e = refl

pub lt-or-le : (m n : ℕ) → (m < n) ⊎ (n ≤ m)
lt-or-le m n = ⊎_elim (λ e. inl (ltb-true m n e)) (λ e. inr (ltb-false m n e)) (either (ltb m n))

-- A number where a test holds, and else 0.
pub chosen : (b : Bool) (n : ℕ) → b ≡ true → cond b n 0 ≡ n
chosen b n e = rw e

pub not_chosen : {b : Bool} (n : ℕ) → b ≡ false → 0 ≡ cond b n 0
not_chosen n e = rw e

pub positive : (b : Bool) (n : ℕ) → 0 < cond b n 0 → b ≡ true
positive true n h = refl
positive false n h = absurd (omega arith)
