-- What the tests of the model check give, from what the code has compared.
use Rattle.std.specs.Prelude.{None, Some}
use mathlib.Core.Path.{◌≡◌, refl, sym}
use mathlib.Core.Bool.{Bool, true, false, and-true, and-false}
use mathlib.Core.List.{List, [], ◌∷◌}
use Prim.Native.Nat.{ℕ, ◌+◌, ◌-◌, ◌≤◌, ◌<◌}
use native.Mathlib.Nat.{suc-ne-zero, suc_inj, not-suc-le-zero}
use native.Mathlib.Omega.{arith}
use borrow.Author.Tests.{lt-ltb, le-ltb, eq-eqb, ne_eqb, ltb-true, ltb-false}
use lib.Dec.{eqb, ltb}
use lib.ListN.{length, get_or, get_or-eq_default}
use Rattle.utf8.specs.Lists.{any, same, join_map}
use Rattle.utf8.proofs.Places.{any_append, get_or_inside}
use Rattle.model.specs.Model.{piece, no_id, fallback_id, spans_of}
use Rattle.model.specs.Check.{pair_too_long, fallback_fits, step_spans}
use Rattle.model.specs.declared.Span.{Span}
use Rattle.model.specs.declared.Step.{Step}

module _ (a b : ℕ) where
  pub pair_too_long_is : ltb (a + 255) b ≡ pair_too_long (a, b)
  unfolding pair_too_long
  pair_too_long_is = go (ltb (a + 255) b) refl
    where
      go : (t : Bool) → ltb (a + 255) b ≡ t → t ≡ ltb 255 (b - a)
      go true e = sym (lt-ltb 255 (b - a) (omega (arith, ltb-true (a + 255) b e)))
      go false e = sym (le-ltb 255 (b - a) (omega (arith, ltb-false (a + 255) b e)))

same-one : (xs : List ℕ) (b : ℕ) → length xs ≡ 1 → same xs (b ∷ []) ≡ eqb (get_or xs 0 0) b
same-one [] b h = absurd (suc-ne-zero 0 (sym h))
same-one (x ∷ []) b h = and-true (eqb x b)
same-one (x ∷ y ∷ ys) b h = absurd (suc-ne-zero (length ys) (suc_inj h))

same_other : (xs : List ℕ) (b : ℕ) → (length xs ≡ 1 → ⊥) → same xs (b ∷ []) ≡ false
same_other [] b h = refl
same_other (x ∷ []) b h = absurd (h refl)
same_other (x ∷ y ∷ ys) b h = and-false (eqb x b)

-- A piece that is not empty is that of an id below the piece count.
pub has_id : (pieces : List (List ℕ)) (id : ℕ) → 0 < length (piece pieces id) → id < length pieces
unfolding piece
has_id pieces id h = either (ltb id (length pieces)) refl
  where
    either : (b : Bool) → ltb id (length pieces) ≡ b → id < length pieces
    either true e = ltb-true id (length pieces) e
    either false e = absurd (not-suc-le-zero (rw (get_or-eq_default pieces [] (ltb-false id (length pieces) e)) at h))

-- The three ways to judge a fallback entry.
module _ (pieces : List (List ℕ)) (byte id : ℕ) where
  pub fits_none : id ≡ no_id → fallback_fits pieces (byte, id) ≡ true
  unfolding fallback_fits
  fits_none e = rw (eq-eqb id no_id e)

  pub fits_no_byte : (id ≡ no_id → ⊥) → (length (piece pieces id) ≡ 1 → ⊥) → fallback_fits pieces (byte, id) ≡ false
  unfolding fallback_fits
  fits_no_byte n h = rw (ne_eqb id no_id n, same_other (piece pieces id) byte h) (and-false (ltb id (length pieces)))

  pub fits_byte : (id ≡ no_id → ⊥) → length (piece pieces id) ≡ 1 → fallback_fits pieces (byte, id) ≡ eqb (get_or (piece pieces id) 0 0) byte
  unfolding fallback_fits
  fits_byte n h = rw (ne_eqb id no_id n, lt-ltb id (length pieces) (has_id pieces id (omega arith)), same-one (piece pieces id) byte h)

-- A test of the strings of all steps, step by step.
pub any_spans : (test : Span → Bool) (steps : List Step) → any (λ (step : Step). any test (spans_of step)) steps ≡ any test (step_spans steps)
unfolding step_spans
any_spans test [] = refl
any_spans test (step ∷ steps) = rw (any_append test (spans_of step) (join_map spans_of steps), any_spans test steps)

-- The three ways to read a fallback id.
module _ (fallback : List ℕ) (byte : ℕ) where
  pub fallback-past : length fallback ≤ byte → fallback_id fallback byte ≡ None
  unfolding fallback_id
  fallback-past h = rw (get_or-eq_default fallback no_id h)

  pub fallback-none : byte < length fallback → get_or fallback byte 0 ≡ no_id → fallback_id fallback byte ≡ None
  unfolding fallback_id
  fallback-none h e = rw (get_or_inside fallback byte no_id 0 h, eq-eqb (get_or fallback byte 0) no_id e)

  pub fallback-some : (id : ℕ) → byte < length fallback → (get_or fallback byte 0 ≡ no_id → ⊥) → id ≡ get_or fallback byte 0 → Some id ≡ fallback_id fallback byte
  unfolding fallback_id
  fallback-some id h e i = rw (get_or_inside fallback byte no_id 0 h, ne_eqb (get_or fallback byte 0) no_id e, i)
