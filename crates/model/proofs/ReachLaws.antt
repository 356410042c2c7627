-- Strings that no piece reaches across, and what an accepted model's pieces are. Assumes nothing.
use Prim.Native.Nat.{ℕ, ◌<◌}
use native.Mathlib.Nat.{suc-ne-zero}
use native.Mathlib.Omega.{arith}
use mathlib.Core.Path.{◌≡◌, refl, sym, ap, ◌∙◌}
use mathlib.Core.Bool.{Bool, true, false, not, ◌&&◌}
use mathlib.Core.List.{List, [], ◌∷◌, ◌++◌, append_assoc}
use borrow.Author.Tests.{ne_eqb, not-false}
use lib.ListN.{length}
use Rattle.utf8.specs.Lists.{join}
use Rattle.utf8.specs.Chars.{valid}
use Rattle.utf8.proofs.Tests.{clash}
use Rattle.utf8.proofs.Elements.{any-false-at}
use Rattle.model.specs.Model.{piece}
use Rattle.model.specs.Check.{neither_text_nor_byte, bad_piece}
use Rattle.model.proofs.CheckLaws.{has_id}

-- A piece of two bytes or more is valid.
pub piece-valid : (pieces : List (List ℕ)) (id : ℕ) → bad_piece pieces ≡ false → 1 < length (piece pieces id) → valid (piece pieces id) ≡ true
unfolding bad_piece neither_text_nor_byte piece
piece-valid pieces id fine long =
    let bad = any-false-at neither_text_nor_byte pieces id [] fine (has_id pieces id (omega arith)) in
    not-false (valid (piece pieces id)) (go (valid (piece pieces id)) (ap not (ne_eqb (length (piece pieces id)) 1 (λ q. omega arith))) bad)
  where
    go : (v : Bool) {t : Bool} → t ≡ true → (not v && t) ≡ false → not v ≡ false
    go true p e = refl
    go false p e = clash e p

-- No piece is an end of the one string followed by a beginning of the other.
abbrev pub NoPieceOver : List (List ℕ) → List ℕ → List ℕ → Type 0
NoPieceOver pieces s t =
    (front p q back : List ℕ) → 0 < length p → 0 < length q → s ≡ front ++ p → t ≡ q ++ back → (id : ℕ) → piece pieces id ≡ p ++ q → ⊥

-- No piece reaches over a border of the strings.
abbrev pub StringsApart : List (List ℕ) → List (List ℕ) → Type 0
StringsApart pieces [] = Unit {0}
StringsApart pieces (s ∷ strings) = NoPieceOver pieces s (join strings) × StringsApart pieces strings

-- A shorter string ends with less.
pub over_less : (pieces : List (List ℕ)) (x s t : List ℕ) → NoPieceOver pieces (x ++ s) t → NoPieceOver pieces s t
over_less pieces x s t none front p q back p-some q-some before after id is =
    none (x ++ front) p q back p-some q-some (ap (λ (l : List ℕ). x ++ l) before ∙ sym (append_assoc x front p)) after id is

pub over_nothing : (pieces : List (List ℕ)) (s : List ℕ) → NoPieceOver pieces s []
over_nothing pieces s front p [] back p-some q-some before after id is = omega arith
over_nothing pieces s front p (x ∷ q) back p-some q-some before after id is = suc-ne-zero (length (q ++ back)) (sym (ap length after))
