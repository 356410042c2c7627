-- Laws of `fitted` and `put`. Assumes nothing.
use Prim.Native.Nat.{ℕ, ◌≤◌, ◌<◌, min}
use native.Mathlib.Omega.{arith}
use mathlib.Core.Path.{◌≡◌, sym, ap, ◌∙◌}
use mathlib.Core.Bool.{false}
use mathlib.Core.Logic.{⊎_elim}
use mathlib.Core.List.{List, ◌++◌}
use borrow.Author.Tests.{leb-true, leb-false, le-leb, lt-leb}
use lib.Dec.{leb}
use lib.ListN.{length, drop}
use Rattle.utf8.proofs.Tests.{either}
use Rattle.std.specs.Prelude.{Option, Some, None}
use Rattle.normalise.specs.inner.Fit.{fitted, Put, put}

pub fits : (n room : ℕ) → n ≤ room → Some n ≡ fitted n room
unfolding fitted
fits n room h = rw (le-leb n room h)

pub too_long : (n room : ℕ) → room < n → None ≡ fitted n room
unfolding fitted
too_long n room h = rw (lt-leb n room h)

-- A length that fits is that of the output, and within the room.
fits_exactly : (n k room : ℕ) → Some n ≡ fitted k room → (n ≡ k) × (k ≤ room)
unfolding fitted
fits_exactly n k room e = ⊎_elim (λ t. (same (rw t at e), leb-true k room t)) (λ t. never (rw t at e)) (either (leb k room))
  where
    same : Some n ≡ Some k → n ≡ k
    same p = cc

    never : {A : Type 0} → Some n ≡ None → A
    never p = let z : ◌≡◌ {A = ℕ} 0 1 = cc in absurd (omega arith)

outgrown : (k room : ℕ) → None ≡ fitted k room → leb k room ≡ false
unfolding fitted
outgrown k room e = ⊎_elim (λ t. never (rw t at e)) (λ t. t) (either (leb k room))
  where
    never : {A : Type 0} → None ≡ Some k → A
    never p = let z : ◌≡◌ {A = ℕ} 0 1 = cc in absurd (omega arith)

-- An output that is put into a buffer.
module _ (result : List ℕ) (room : ℕ) (out : List ℕ) where
  pub put_over : min room (length out) < length result → ◌≡◌ {A = Put} (record { length = None; out = out }) (put result room out)
  unfolding put
  put_over h = rw (lt-leb (length result) (min room (length out)) h)

  pub put_done : {n : ℕ} {after : List ℕ} → n ≡ length result → length result ≤ min room (length out) → after ≡ result ++ drop (length result) out
      → ◌≡◌ {A = Put} (record { length = Some n; out = after }) (put result room out)
  unfolding put
  put_done e h w = rw (w, le-leb (length result) (min room (length out)) h, e)

-- The measure of an output for the lesser of the room and the buffer.
pub record Answered (result : List ℕ) (room : ℕ) (out : List ℕ) (l : Option ℕ) : Type 0 where
  pub is : l ≡ fitted (length result) (min room (length out))

pub answered : {result : List ℕ} {room : ℕ} {out : List ℕ} {l : Option ℕ} (space : ℕ) → space ≡ min room (length out) → l ≡ fitted (length result) space → Answered result room out l
answered {result} space lesser measure = record { is = measure ∙ ap (fitted (length result)) lesser }

-- An output that is so measured, and written where it fits, is put as `put` says.
module _ {result : List ℕ} {room : ℕ} {out : List ℕ} {l : Option ℕ} (a : Answered result room out l) where
  exactly : (n : ℕ) → l ≡ Some n → (n ≡ length result) × (length result ≤ min room (length out))
  exactly n e = fits_exactly n (length result) (min room (length out)) (sym e ∙ a.is)

  pub put-within : {n : ℕ} → l ≡ Some n → length result ≤ length out
  put-within {n} e = omega (arith, (exactly n e).1)

  pub put_fits : {n : ℕ} → l ≡ Some n → {after : List ℕ} → after ≡ result ++ drop (length result) out
      → ◌≡◌ {A = Put} (record { length = Some n; out = after }) (put result room out)
  put_fits {n} e w = put_done result room out (exactly n e).0 (exactly n e).1 w

  pub put_too_long : {n : Option ℕ} → n ≡ None → l ≡ None → ◌≡◌ {A = Put} (record { length = n; out = out }) (put result room out)
  put_too_long f e = rw f (put_over result room out (leb-false (length result) (min room (length out)) (outgrown (length result) (min room (length out)) (sym e ∙ a.is))))
