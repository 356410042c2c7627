-- Short pieces of characters of one byte.
use Rattle.std.specs.Prelude.{ℕ, ◌+◌, Bool, cond, ◌&&◌, ◌||◌, List, ◌∷◌, leb, ltb, length, take, drop, Option}
use Rattle.std.specs.Bool.{then_some}
use Rattle.utf8.specs.Lists.{all, starts_with}
use Rattle.model.specs.Mark.{mark}
use Rattle.decode.specs.declared.words.Shown.{Shown}

-- A character of one byte.
abbrev pub is_plain : ℕ → Bool
is_plain b = ltb b 0x80

-- A piece with a space in place of a mark in front.
unfoldable pub head_spaced : List ℕ → List ℕ
head_spaced bytes = cond (starts_with mark bytes) (0x20 ∷ drop 3 bytes) bytes

-- The eight bytes of a table from a place on, where a mark is spaced that the piece of some length there begins with.
unfoldable pub eight_at : List ℕ → ℕ → ℕ → List ℕ
eight_at bytes start len = cond (starts_with mark (take len (drop start bytes))) (0x20 ∷ take 7 (drop (start + 3) bytes)) (take 8 (drop start bytes))

-- The piece of some length at a place of a table is so short, and of such characters alone, that the eight bytes show it; sixteen
-- are left in the table.
unfoldable pub quick_at : List ℕ → ℕ → ℕ → Bool
quick_at bytes start len =
    let text = head_spaced (take len (drop start bytes)) in
    leb (start + 16) (length bytes) && (ltb len 10 && (ltb (length text) 8 && all is_plain text))

-- What such a piece is shown as, where it is one.
unfoldable pub shown_at : List ℕ → ℕ → ℕ → Option Shown
shown_at bytes start len =
    then_some (quick_at bytes start len) (record { eight = eight_at bytes start len; len = length (head_spaced (take len (drop start bytes))) })

-- A buffer has cells for all of eight bytes at a place, or for none.
unfoldable pub all_or_none : ℕ → ℕ → Bool
all_or_none at room = leb room at || leb (at + 8) room
