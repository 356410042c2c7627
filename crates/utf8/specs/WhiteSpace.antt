-- Unicode's White_Space, and what it is to trim a text of it.
use Rattle.std.specs.Prelude.{ℕ, Bool, ◌&&◌, List, [], ◌∷◌, reverse}
use Rattle.utf8.specs.Lists.{any, drop_while, join, Range, within}
use Rattle.utf8.specs.Chars.{chars, is_char, code_point}

-- The characters that have the property White_Space, as ten ranges of code points.
unfoldable pub white_space : List Range
white_space =
    (0x0009, 0x000D)
    ∷ (0x0020, 0x0020)
    ∷ (0x0085, 0x0085)
    ∷ (0x00A0, 0x00A0)
    ∷ (0x1680, 0x1680)
    ∷ (0x2000, 0x200A)
    ∷ (0x2028, 0x2029)
    ∷ (0x202F, 0x202F)
    ∷ (0x205F, 0x205F)
    ∷ (0x3000, 0x3000)
    ∷ []

-- A code point that is White_Space.
unfoldable pub is_white_space : ℕ → Bool
is_white_space code = any (λ (range : Range). within range code) white_space

-- A character that is White_Space; a stray byte never is.
unfoldable pub is_white : List ℕ → Bool
is_white c = is_char c && is_white_space (code_point c)

-- The text without the White_Space at its left end.
unfoldable pub trim_start : List ℕ → List ℕ
trim_start text = join (drop_while is_white (chars text))

-- The text without the White_Space at its right end.
unfoldable pub trim_end : List ℕ → List ℕ
trim_end text = join (reverse (drop_while is_white (reverse (chars text))))
