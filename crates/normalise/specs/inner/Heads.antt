-- What stands at the head of a text of which some parts are exchanged for a content.
use Rattle.std.specs.Prelude.{◌≡◌, refl, ℕ, ◌<◌, ◌≤◌, Option, Some, None, List, [], ◌∷◌, ◌++◌, length, drop, get_or}
use Rattle.std.proofs.Common.{arith}
use Rattle.normalise.specs.Steps.{collapsed, replaced, occurrences}
use Rattle.normalise.specs.Spaces.{spaces_marked}

-- The content, in place of a part of some width; or the first byte, which stays. The rest is exchanged likewise.
abbrev pub Head : (List ℕ → List ℕ) → List ℕ → List ℕ → Option ℕ → Type 0
Head exchanged content text None = exchanged text ≡ get_or text 0 0 ∷ exchanged (drop 1 text)
Head exchanged content text (Some width) = (0 < width) × (width ≤ length text) × (exchanged text ≡ content ++ exchanged (drop width text))

-- Nothing is left of nothing, which the laws of `Exchange` cite.
pub collapsed-none : (content : List ℕ) → collapsed content [] ≡ []
unfolding collapsed
collapsed-none content = refl

pub replaced-none : (pattern content : List ℕ) → 0 < length pattern → replaced pattern content [] ≡ []
unfolding replaced occurrences
replaced-none [] content some = absurd (omega arith)
replaced-none (b ∷ pattern) content some = refl

pub marked_none : spaces_marked [] ≡ []
unfolding spaces_marked
marked_none = refl
