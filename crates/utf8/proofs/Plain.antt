-- Laws of bytes that are characters by themselves: those below 0x80. Assumes nothing.
use Prim.Native.Nat.{ℕ, zero, suc, ◌+◌, ◌≤◌, ◌<◌}
use native.Mathlib.Omega.{arith}
use mathlib.Core.Path.{◌≡◌, ◌∙◌}
use mathlib.Core.List.{List, [], ◌∷◌}
use lib.ListN.{length, take, drop}
use Rattle.std.specs.Str.{IsAscii}
use Rattle.utf8.specs.Chars.{char_forms, char_width, longest_valid_prefix}
use Rattle.utf8.proofs.Characters.{char_width_lead}
use Rattle.utf8.proofs.Valid.{prefix_length}

pub plain_width : (b : ℕ) (t : List ℕ) → b < 0x80 → char_width (b ∷ t) ≡ 1
unfolding char_forms
plain_width b t h = char_width_lead 0 (b ∷ t) (omega arith) (omega arith) (omega arith)

-- Such bytes belong to the longest valid prefix.
pub plain_prefix : (n : ℕ) (t : List ℕ) → n ≤ length t → IsAscii (take n t) → length (longest_valid_prefix t) ≡ n + length (longest_valid_prefix (drop n t))
plain_prefix zero t h plain = omega arith
plain_prefix (suc n) [] h plain = absurd (omega arith)
plain_prefix (suc n) (b ∷ t) h plain =
    let one = plain_width b t (plain 0) in
    let here : length (longest_valid_prefix (b ∷ t)) ≡ 1 + length (longest_valid_prefix t) = prefix_length (b ∷ t) (omega arith) ∙ rw one in
    omega (arith, here, plain_prefix n t (omega arith) (λ i. plain (suc i)))
