-- Laws of metaspace: how the marked text begins at a place, and where a mark is put in front. Assumes nothing.
use Prim.Native.Nat.{ℕ, ◌<◌}
use native.Mathlib.Omega.{arith}
use mathlib.Core.Path.{◌≡◌, refl, ap, ◌∙◌}
use mathlib.Core.Bool.{Bool, true, false, not, ◌&&◌, and-false}
use mathlib.Core.Logic.{⊎_elim}
use mathlib.Core.List.{List, [], ◌∷◌, ◌++◌}
use borrow.Author.Tests.{not-true, eqb-true, eq-eqb, ne_eqb}
use lib.Dec.{eqb}
use lib.ListN.{length, get_or}
use lib.Seq.{drop-cons}
use Rattle.utf8.specs.Lists.{is_empty, all, starts_with}
use Rattle.utf8.proofs.Tests.{either, and_left, and_right}
use Rattle.utf8.proofs.Starts.{no_elements}
use Rattle.std.specs.Prelude.{Some, None}
use Rattle.normalise.specs.inner.Heads.{Head}
use Rattle.model.specs.Mark.{mark}
use Rattle.normalise.specs.Spaces.{spaces_marked, mark_prepended}

-- ---- the marked text from its head on

pub marked_space : (t : List ℕ) → 0 < length t → get_or t 0 0 ≡ 0x20 → Head spaces_marked mark t (Some 1)
unfolding spaces_marked
marked_space t h e = (omega arith, h, rw (drop-cons t 0 0 h, eq-eqb (get_or t 0 0) 0x20 e))

pub marked_byte : (t : List ℕ) → 0 < length t → (get_or t 0 0 ≡ 0x20 → ⊥) → Head spaces_marked mark t None
unfolding spaces_marked
marked_byte t h e = rw (drop-cons t 0 0 h, ne_eqb (get_or t 0 0) 0x20 e)

-- ---- whether it begins with the mark

-- A byte that is no space and that no mark begins with.
plain : ℕ → Bool
plain b = not (eqb b 0x20) && not (eqb b 0xE2)

-- A string of such bytes stands at the head of the marked text where it stands at the head of the text.
plain_starts : (p t : List ℕ) → all plain p ≡ true → starts_with p (spaces_marked t) ≡ starts_with p t
unfolding spaces_marked plain mark
plain_starts [] t e = refl
plain_starts (x ∷ p) [] e = refl
plain_starts (x ∷ p) (b ∷ t) e =
    let here = and_left (plain x) (all plain p) e in
    let no-space = not-true (eqb x 0x20) (and_left (not (eqb x 0x20)) (not (eqb x 0xE2)) here) in
    let no_mark = not-true (eqb x 0xE2) (and_right (not (eqb x 0x20)) (not (eqb x 0xE2)) here) in
    ⊎_elim (λ q. rw q (rw (no_mark, eqb-true b 0x20 q, no-space))) (λ q. rw q (rw (plain_starts p t (and_right (plain x) (all plain p) e)))) (either (eqb b 0x20))

mark_starts : (t : List ℕ) → 0 < length t → (get_or t 0 0 ≡ 0x20 → ⊥) → starts_with mark (spaces_marked t) ≡ starts_with mark t
unfolding spaces_marked plain mark
mark_starts [] h e = absurd (omega arith)
mark_starts (b ∷ t) h e = rw (ne_eqb b 0x20 e) (ap (λ (r : Bool). eqb 0xE2 b && r) (plain_starts (0x96 ∷ 0x81 ∷ []) t refl))

marked_some : (t : List ℕ) → 0 < length t → (get_or t 0 0 ≡ 0x20 → ⊥) → is_empty (spaces_marked t) ≡ false
unfolding spaces_marked
marked_some [] h e = absurd (omega arith)
marked_some (b ∷ t) h e = rw (ne_eqb b 0x20 e)

space_starts : (t : List ℕ) → 0 < length t → get_or t 0 0 ≡ 0x20 → starts_with mark (spaces_marked t) ≡ true
unfolding spaces_marked mark
space_starts [] h e = absurd (omega arith)
space_starts (b ∷ t) h e = rw (eq-eqb b 0x20 e)

-- ---- what is put in front of the marked text

module _ (wanted : Bool) (t : List ℕ) where
  pub lead_unwanted : wanted ≡ false → spaces_marked t ≡ mark_prepended wanted (spaces_marked t)
  unfolding mark_prepended
  lead_unwanted e = rw e

  pub lead_empty : length t ≡ 0 → spaces_marked t ≡ mark_prepended wanted (spaces_marked t)
  unfolding mark_prepended spaces_marked
  lead_empty e = rw (no_elements t e, and-false)

  lead_begun : starts_with mark (spaces_marked t) ≡ true → spaces_marked t ≡ mark_prepended wanted (spaces_marked t)
  unfolding mark_prepended
  lead_begun e = rw (e, and-false)

  pub lead_space : 0 < length t → get_or t 0 0 ≡ 0x20 → spaces_marked t ≡ mark_prepended wanted (spaces_marked t)
  lead_space h e = lead_begun (space_starts t h e)

  pub lead_mark : 0 < length t → (get_or t 0 0 ≡ 0x20 → ⊥) → starts_with mark t ≡ true → spaces_marked t ≡ mark_prepended wanted (spaces_marked t)
  lead_mark h e m = lead_begun (mark_starts t h e ∙ m)

  pub lead_put : wanted ≡ true → 0 < length t → (get_or t 0 0 ≡ 0x20 → ⊥) → starts_with mark t ≡ false → mark ++ spaces_marked t ≡ mark_prepended wanted (spaces_marked t)
  unfolding mark_prepended mark
  lead_put w h e m = rw (w, marked_some t h e, mark_starts t h e ∙ m)
