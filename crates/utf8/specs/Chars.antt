-- UTF-8 as RFC 3629 defines it. Bytes are numbers below 256; a character is the list of its bytes.
use Rattle.std.specs.Prelude.{ℕ, ◌+◌, ◌*◌, ◌-◌, Bool, true, false, cond, ◌&&◌, List, [], ◌∷◌, ltb, length}
use Rattle.utf8.specs.Lists.{all, take_while, join, cut_by, Range, within}

-- RFC 3629, section 4: UTF8-tail.
abbrev pub tail : Range
tail = (0x80, 0xBF)

-- RFC 3629, section 4: UTF8-1, UTF8-2, the four forms of UTF8-3, the three forms of UTF8-4.
unfoldable pub char_forms : List (List Range)
char_forms =
    ((0x00, 0x7F) ∷ [])
    ∷ ((0xC2, 0xDF) ∷ tail ∷ [])
    ∷ ((0xE0, 0xE0) ∷ (0xA0, 0xBF) ∷ tail ∷ [])
    ∷ ((0xE1, 0xEC) ∷ tail ∷ tail ∷ [])
    ∷ ((0xED, 0xED) ∷ (0x80, 0x9F) ∷ tail ∷ [])
    ∷ ((0xEE, 0xEF) ∷ tail ∷ tail ∷ [])
    ∷ ((0xF0, 0xF0) ∷ (0x90, 0xBF) ∷ tail ∷ tail ∷ [])
    ∷ ((0xF1, 0xF3) ∷ tail ∷ tail ∷ tail ∷ [])
    ∷ ((0xF4, 0xF4) ∷ (0x80, 0x8F) ∷ tail ∷ tail ∷ [])
    ∷ []

-- The bytes at the head lie in the form's ranges, one after the other.
abbrev pub has_form : List Range → List ℕ → Bool
has_form [] bytes = true
has_form (range ∷ form) [] = false
has_form (range ∷ form) (b ∷ bytes) = within range b && has_form form bytes

-- The length of the first form that the bytes at the head have, 0 where they have none.
abbrev pub width_among : List (List Range) → List ℕ → ℕ
width_among [] bytes = 0
width_among (form ∷ forms) bytes = cond (has_form form bytes) (length form) (width_among forms bytes)

-- The width of the character at the head, 0 where none stands there.
unfoldable pub char_width : List ℕ → ℕ
char_width bytes = width_among char_forms bytes

-- The characters of a text in their order. A byte that begins no character stands alone.
unfoldable pub chars : List ℕ → List (List ℕ)
chars text = cut_by char_width text

-- Of an element of `chars`: it is a character, and no stray byte.
unfoldable pub is_char : List ℕ → Bool
is_char c = ltb 0 (char_width c)

-- RFC 3629: a text is valid UTF-8 if it is characters and nothing else.
unfoldable pub valid : List ℕ → Bool
valid text = all is_char (chars text)

-- The longest prefix of a text that is valid UTF-8.
unfoldable pub longest_valid_prefix : List ℕ → List ℕ
longest_valid_prefix text = join (take_while is_char (chars text))

-- RFC 3629, section 3: the number that a character's bytes stand for.
unfoldable pub code_point : List ℕ → ℕ
code_point [] = 0
code_point (a ∷ []) = a
code_point (a ∷ b ∷ []) = (a - 0xC0) * 64 + (b - 0x80)
code_point (a ∷ b ∷ c ∷ []) = ((a - 0xE0) * 64 + (b - 0x80)) * 64 + (c - 0x80)
code_point (a ∷ b ∷ c ∷ d ∷ []) = (((a - 0xF0) * 64 + (b - 0x80)) * 64 + (c - 0x80)) * 64 + (d - 0x80)
code_point (a ∷ b ∷ c ∷ d ∷ e ∷ bytes) = 0
