-- Laws of the run of spaces at the head of a text. Assumes nothing.
use Prim.Native.Nat.{ℕ, ◌≤◌}
use native.Mathlib.Omega.{arith}
use mathlib.Core.Path.{◌≡◌, refl, sym}
use mathlib.Core.Logic.{⊎_elim}
use mathlib.Core.Bool.{Bool}
use mathlib.Core.List.{List, [], ◌∷◌}
use borrow.Author.Tests.{eqb-true, eqb-false, eq-eqb, ne_eqb}
use lib.Dec.{eqb}
use lib.ListN.{length}
use Rattle.std.specs.Prelude.{◌==◌}
use Rattle.std.specs.List.{prefix_len}
use Rattle.utf8.specs.Lists.{take_while}
use Rattle.utf8.proofs.Tests.{either}
use Rattle.normalise.specs.Steps.{space_run}

pub space_run-length : (t : List ℕ) → length (space_run t) ≤ length t
unfolding space_run
space_run-length t = go t
  where
    go : (t : List ℕ) → length (take_while (eqb 0x20) t) ≤ length t
    go [] = omega arith
    go (b ∷ t) = ⊎_elim (λ e. rw e (omega (arith, go t))) (λ e. rw e (omega arith)) (either (eqb 0x20 b))

-- The library's word for it.
fronts : (p q : ℕ → Bool) → ((b : ℕ) → p b ≡ q b) → (t : List ℕ) → prefix_len p t ≡ length (take_while q t)
fronts p q same [] = refl
fronts p q same (b ∷ t) = rw (same b) (⊎_elim (λ e. rw e (omega (arith, fronts p q same t))) (λ e. rw e) (either (q b)))

pub space_run-counted : (t : List ℕ) → prefix_len (λ (b : ℕ). b == 0x20) t ≡ length (space_run t)
unfolding space_run
space_run-counted = fronts (λ (b : ℕ). b == 0x20) (eqb 0x20) (λ b. ⊎_elim (λ e. rw e (eq-eqb b 0x20 (sym (eqb-true 0x20 b e)))) (λ e. rw e (ne_eqb b 0x20 (λ p. eqb-false 0x20 b e (sym p)))) (either (eqb 0x20 b)))
