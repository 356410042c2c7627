-- A second byte in a range, and UTF8-tails after it: the steps of a scan over them. Assumes nothing.
use Prim.Native.Nat.{ℕ, zero, suc, ◌-◌, ◌≤◌, ◌<◌}
use native.Mathlib.Omega.{arith}
use mathlib.Core.Path.{◌≡◌, refl, ap}
use mathlib.Core.Bool.{Bool, true, false, ◌&&◌}
use mathlib.Core.Logic.{⊎_elim}
use mathlib.Core.List.{List, [], ◌∷◌}
use lib.ListN.{length, take, drop, get_or, replicate, length-drop, length-replicate}
use lib.Seq.{drop-cons}
use Rattle.std.specs.List.{list_all}
use Rattle.utf8.specs.Lists.{Range, within}
use Rattle.utf8.specs.Chars.{tail, has_form}
use Rattle.utf8.proofs.Tests.{either}
use Rattle.utf8.proofs.Forms.{has_form-length}

tails_by_bytes : (k : ℕ) (t : List ℕ) → k ≤ length t → has_form (replicate k tail) t ≡ list_all (within tail) (take k t)
tails_by_bytes zero t h = refl
tails_by_bytes (suc k) [] h = absurd (omega arith)
tails_by_bytes (suc k) (b ∷ t) h = ap (λ (r : Bool). within tail b && r) (tails_by_bytes k t (omega arith))

module _ (s : List ℕ) (n : ℕ) where
  -- Too few bytes have no form.
  pub too_short : (second : Range) → 2 ≤ n → length s < n → has_form (second ∷ replicate (n - 2) tail) (drop 1 s) ≡ false
  too_short second h short = ⊎_elim (λ e. absurd (impossible e)) (λ e. e) (either (has_form form (drop 1 s)))
    where
      form : List Range
      form = second ∷ replicate (n - 2) tail

      impossible : has_form form (drop 1 s) ≡ true → ⊥
      impossible e = omega (arith, has_form-length form (drop 1 s) e, length-drop 1 s, length-replicate (n - 2) tail)

  -- The form is told byte by byte.
  pub form_by_bytes : (second : Range) → 2 ≤ n → n ≤ length s
      → has_form (second ∷ replicate (n - 2) tail) (drop 1 s) ≡ (within second (get_or s 1 0) && list_all (within tail) (take (n - 2) (drop 2 s)))
  form_by_bytes second h inside =
      rw (drop-cons s 1 0 (omega arith))
      (ap (λ (b : Bool). within second (get_or s 1 0) && b) (tails_by_bytes (n - 2) (drop 2 s) (omega (arith, length-drop 2 s))))
