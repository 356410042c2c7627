-- A loop that writes an output into the front of a buffer, part by part. Assumes nothing.
use Prim.Native.Nat.{ℕ, ◌+◌, ◌≤◌, ◌<◌}
use native.Mathlib.Omega.{arith}
use native.Mathlib.Numerals.{add-one}
use mathlib.Core.Path.{◌≡◌, refl, sym, ap, ◌∙◌}
use mathlib.Core.List.{List, [], ◌∷◌, ◌++◌}
use lib.ListN.{length, take, drop, set, length-append, length-drop}
use lib.Seq.{take_at, drop_at, drop-drop, take-add, take-append_seam, drop-append_seam, length-take-le, take-length, set_split, append_snoc}

-- A list is a part and then the rest.
pub record Begins (whole part rest : List ℕ) : Type 0 where
  pub is : whole ≡ part ++ rest

-- at bytes of the output stand in out, and rest follows them; behind them out is as it was before.
pub record Written (output rest before out : List ℕ) (at : ℕ) : Type 0 where
  pub within : at ≤ length output
  pub left : drop at output ≡ rest
  pub front : out ≡ take at output ++ drop at before

pub written_start : (output before : List ℕ) → Written output output before before 0
written_start output before = record { within = omega arith; left = refl; front = refl }

module _ {output whole before out : List ℕ} {at : ℕ} (room : length output ≤ length before) (w : Written output whole before out at) where
  taken : length (take at output) ≡ at
  taken = length-take-le at output w.within

  pub written-length : length out ≡ length before
  written-length = omega (arith, ap length w.front, length-append (take at output) (drop at before), taken, length-drop at before, w.within)

  front_out : take at out ≡ take at output
  front_out = ap (take at) w.front ∙ take_at (take at output) (drop at before) at taken

  back-out : (n : ℕ) → drop (at + n) out ≡ drop (at + n) before
  back-out n =
      sym (drop-drop n at out)
      ∙ ap (drop n) (ap (drop at) w.front ∙ drop_at (take at output) (drop at before) at taken)
      ∙ drop-drop n at before

  pub written-ended : whole ≡ [] → out ≡ output ++ drop (length output) before
  written-ended e =
      let all : at ≡ length output = omega (arith, ap length w.left, ap length e, length-drop at output, w.within) in
      w.front ∙ rw (all, take-length)

  module _ {part rest : List ℕ} (begins : Begins whole part rest) where
    reach : at + (length part + length rest) ≡ length output
    reach = omega (arith, ap length w.left, ap length begins.is, length-append part rest, length-drop at output, w.within)

    front_output : take (at + length part) output ≡ take at output ++ part
    front_output =
        take-add at (length part) output
        ∙ ap (λ (l : List ℕ). take at output ++ take (length part) l) (w.left ∙ begins.is)
        ∙ ap (λ (l : List ℕ). take at output ++ l) (take-append_seam part rest)

    -- There is room for the part.
    pub written_fits : at + length part ≤ length out
    written_fits = omega (arith, reach, written-length)

    pub written-part : Written output rest before (take at out ++ part ++ drop (at + length part) out) (at + length part)
    written-part = record {
      within = omega (arith, reach);
      left = sym (drop-drop (length part) at output) ∙ ap (drop (length part)) (w.left ∙ begins.is) ∙ drop-append_seam part rest;
      front = rw (front_out, back-out (length part), front_output);
    }

  module _ {b : ℕ} {rest : List ℕ} (begins : Begins whole (b ∷ []) rest) where
    pub written_room : at < length out
    written_room = omega (arith, written_fits begins)

    pub written_byte : Written output rest before (set out at b) (at + 1)
    written_byte = rw (set_split out at b written_room, ← append_snoc, ← add-one at) (written-part begins)
