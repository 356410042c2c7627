-- Laws of the span guard: the crossings that words name, one more and the end, and what stands around a mark. Assumes nothing.
use Prim.Native.Nat.{ℕ, suc, ◌+◌, ◌-◌, ◌*◌, ◌/◌, ◌≤◌, ◌<◌, min}
use native.Mathlib.Numerals.{add-one}
use native.Mathlib.Omega.{arith}
use mathlib.Core.Path.{◌≡◌, refl, sym, ap, ◌∙◌}
use mathlib.Core.Bool.{Bool, true, false}
use mathlib.Core.Logic.{⊎_elim}
use mathlib.Core.List.{List, [], ◌∷◌}
use borrow.Author.Tests.{leb-true, leb-false}
use lib.Dec.{leb}
use lib.ListN.{length, get_or, drop, length-drop}
use lib.Seq.{drop-cons, take-nil}
use Rattle.utf8.specs.Lists.{any}
use Rattle.utf8.proofs.Tests.{either}
use Rattle.model.specs.Model.{piece}
use Rattle.units.specs.Kinds.{Crossing, crossing_at}
use Rattle.units.specs.inner.Read.{places_of, crossing_of, named_crossings}

-- ---- the crossings that words name

few_places : (words : List ℕ) → length words ≤ 1 → places_of words ≡ []
unfolding places_of
few_places [] h = refl
few_places (id ∷ []) h = refl
few_places (id ∷ place ∷ words) h = absurd (omega arith)

module _ (test : Crossing → Bool) (pieces : List (List ℕ)) (words : List ℕ) (count : ℕ) where
  module _ (at k : ℕ) where
    named_at : at + 1 < length words → k < count
        → named_crossings pieces (drop at words) (count - k)
        ≡ crossing_of pieces (get_or words at 0, get_or words (at + 1) 0) ∷ named_crossings pieces (drop (at + 1 + 1) words) (count - (k + 1))
    unfolding named_crossings places_of
    named_at h l =
        let two : drop at words ≡ get_or words at 0 ∷ get_or words (at + 1) 0 ∷ drop (at + 1 + 1) words =
        drop-cons words at 0 (omega arith)
        ∙ ap (λ (j : ℕ). get_or words at 0 ∷ drop j words) (sym (add-one at))
        ∙ ap (λ (r : List ℕ). get_or words at 0 ∷ r) (drop-cons words (at + 1) 0 h ∙ ap (λ (j : ℕ). get_or words (at + 1) 0 ∷ drop j words) (sym (add-one (at + 1)))) in
        let more : count - k ≡ suc (count - (k + 1)) = omega arith in
        rw (two, more)

    pub named_found : at + 1 < length words → k < count → test (crossing_of pieces (get_or words at 0, get_or words (at + 1) 0)) ≡ true → any test (named_crossings pieces (drop at words) (count - k)) ≡ true
    named_found h l e = ap (any test) (named_at h l) ∙ rw e

    pub named_next : at + 1 < length words → k < count → test (crossing_of pieces (get_or words at 0, get_or words (at + 1) 0)) ≡ false
        → any test (named_crossings pieces (drop at words) (count - k)) ≡ any test (named_crossings pieces (drop (at + 1 + 1) words) (count - (k + 1)))
    named_next h l e = ap (any test) (named_at h l) ∙ rw e

    -- no two words are left
    named_short : length words ≤ at + 1 → any test (named_crossings pieces (drop at words) (count - k)) ≡ false
    unfolding named_crossings
    named_short h = rw (few_places (drop at words) (omega (arith, length-drop at words)), take-nil (count - k))

    -- all were looked at
    named_ended : count ≤ k → any test (named_crossings pieces (drop at words) (count - k)) ≡ false
    unfolding named_crossings
    named_ended h = let none : count - k ≡ 0 = omega arith in rw none

  pub named-none : (k : ℕ) → min count (length words / 2) ≤ k → any test (named_crossings pieces (drop (2 * k) words) (count - k)) ≡ false
  named-none k h =
      ⊎_elim
      (λ e. named_ended (2 * k) k (leb-true count k e))
      (λ e. let more : k < count = leb-false count k e in named_short (2 * k) k (omega arith))
      (either (leb count k))

-- a piece that was read at the place of its id
pub crossing_read : (pieces : List (List ℕ)) (id place w : ℕ) (bytes : List ℕ) → w ≡ id → bytes ≡ get_or pieces w [] → crossing_at bytes place ≡ crossing_of pieces (id, place)
unfolding crossing_of piece
crossing_read pieces id place w bytes e f = rw (f, e)
