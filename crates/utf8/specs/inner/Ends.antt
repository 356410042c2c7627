-- The characters at the ends of a text.
use Rattle.std.specs.Prelude.{ℕ, cond, List, [], take}
use Rattle.utf8.specs.Lists.{last_or}
use Rattle.utf8.specs.Chars.{char_width, chars}
use Rattle.utf8.specs.WhiteSpace.{is_white}

-- The width of the character at the right end, 0 where none stands there.
unfoldable pub last_width : List ℕ → ℕ
last_width text = char_width (last_or [] (chars text))

-- The width of the White_Space character at the left end, 0 where none stands there.
unfoldable pub white_width : List ℕ → ℕ
white_width text = let w = char_width text in cond (is_white (take w text)) w 0

-- The same at the right end.
unfoldable pub white_end : List ℕ → ℕ
white_end text = white_width (last_or [] (chars text))
