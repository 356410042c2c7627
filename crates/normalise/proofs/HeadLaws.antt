-- How an output goes on at a place of a text, and what copies leave in a buffer. Assumes nothing.
use Prim.Native.Nat.{ℕ, ◌+◌, ◌-◌, ◌≤◌, ◌<◌}
use native.Mathlib.Nat.{zero-add}
use native.Mathlib.Omega.{arith}
use mathlib.Core.Path.{◌≡◌, refl, ap, ◌∙◌}
use mathlib.Core.List.{List, [], ◌∷◌, ◌++◌}
use lib.ListN.{length, take, drop, get_or, length-append, length-drop}
use lib.Seq.{drop-cons, drop-drop, take-append_seam, drop-append_seam}
use Rattle.std.specs.Prelude.{Some, None}
use Rattle.utf8.proofs.Lists.{part_to_end}
use Rattle.utf8.proofs.Writing.{Begins}
use Rattle.normalise.specs.inner.Heads.{Head}

module _ (exchanged : List ℕ → List ℕ) (content t : List ℕ) (i : ℕ) where
  -- A place of a text, whose first byte stays.
  pub kept_byte : i < length t → Head exchanged content (take (length t - i) (drop i t)) None → Begins (exchanged (drop i t)) (get_or t i 0 ∷ []) (exchanged (drop (i + 1) t))
  kept_byte inside h =
      let e : exchanged (drop i t) ≡ get_or (drop i t) 0 0 ∷ exchanged (drop 1 (drop i t)) = rw part_to_end at h in
      record { is = e ∙ rw (drop-drop 1 i t, drop-cons t i 0 inside) }

  -- A place of a text at which a part is exchanged.
  pub found_part : {w : ℕ} {part : List ℕ} → part ≡ content → Head exchanged content (take (length t - i) (drop i t)) (Some w) → Begins (exchanged (drop i t)) part (exchanged (drop (i + w) t))
  found_part {w} e h =
      let f : exchanged (drop i t) ≡ content ++ exchanged (drop w (drop i t)) = rw part_to_end at h.2 in
      record { is = rw (e, ← drop-drop w i t) f }

  pub found_within : {w : ℕ} → i < length t → Head exchanged content (take (length t - i) (drop i t)) (Some w) → (0 < w) × (i + w ≤ length t)
  found_within inside h = (h.0, omega (arith, h.1, ap length (part_to_end t i), length-drop i t))

pub lead_first : (lead rest : List ℕ) → Begins (lead ++ rest) lead rest
lead_first lead rest = record { is = refl }

-- A buffer after a copy to its front, and one behind that.
module _ (a b before : List ℕ) where
  pub both_copied : {first second : List ℕ} → first ≡ take 0 before ++ a ++ drop (0 + length a) before → second ≡ take (length a) first ++ b ++ drop (length a + length b) first
      → second ≡ (a ++ b) ++ drop (length (a ++ b)) before
  both_copied e f = f ∙ rw (e, zero-add, take-append_seam, ← drop-drop (length b) (length a) (a ++ drop (length a) before), drop-append_seam, drop-drop, length-append)
