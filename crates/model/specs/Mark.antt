-- The mark U+2581 and the space that it stands for.
use Rattle.std.specs.Prelude.{ℕ, Bool, true, cond, ◌&&◌, List, [], ◌∷◌, ltb}
use Rattle.utf8.specs.Lists.{starts_with, ends_with}

-- U+2581 (rule 1.6).
unfoldable pub mark : List ℕ
mark = 0xE2 ∷ 0x96 ∷ 0x81 ∷ []

-- U+0020.
unfoldable pub space : List ℕ
space = 0x20 ∷ []

-- The width of the mark at the head, 0 where none stands there; a space is one where spaces are read raw.
unfoldable pub mark_width : Bool → List ℕ → ℕ
mark_width raw bytes = cond (starts_with mark bytes) 3 (cond (raw && starts_with space bytes) 1 0)

unfoldable pub starts_with_mark : Bool → List ℕ → Bool
starts_with_mark raw bytes = ltb 0 (mark_width raw bytes)

unfoldable pub ends_with_mark : Bool → List ℕ → Bool
ends_with_mark raw bytes = cond (ends_with mark bytes) true (raw && ends_with space bytes)
