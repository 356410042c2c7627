-- Laws of characters. A character's bytes after its first are UTF8-tails and its first is none, so a text can be cut
-- before any byte that is no UTF8-tail. Assumes nothing.
use Prim.Native.Nat.{ℕ, zero, suc, ◌+◌, ◌*◌, ◌-◌, ◌≤◌, ◌<◌, max}
use native.Mathlib.Nat.{not-suc-le-zero}
use native.Mathlib.Omega.{arith}
use mathlib.Core.Path.{◌≡◌, refl, sym, ap, ap₂, ◌∙◌}
use mathlib.Core.Bool.{Bool, true, false, cond}
use mathlib.Core.Logic.{⊎_elim}
use mathlib.Core.List.{List, [], ◌∷◌, ◌++◌, append-nil}
use lib.ListN.{length, take, drop, get_or, length-drop, take-append-drop}
use lib.Seq.{take_at, drop_at, drop-drop}
use Rattle.utf8.specs.Lists.{Range, within, all, join}
use Rattle.utf8.specs.Chars.{tail, char_forms, has_form, char_width, chars, code_point}
use Rattle.utf8.proofs.Tests.{either, and_left, within_in}
use Rattle.utf8.proofs.Lists.{by_length}
use Rattle.utf8.proofs.Cut.{cut_by_step, cut_by-append, join-cut_by}
use Rattle.utf8.proofs.Forms.{first_of, begins_apart, width_among-le-length, width_among-le, width_among-take, width_among-append, width_among_lead, width_among-apart, width_among_keeps, width_among_inside, Bounds, width_among-bounds}

pub char_width-nil : char_width [] ≡ 0
unfolding char_width char_forms
char_width-nil = refl

pub char_width-le-length : (t : List ℕ) → char_width t ≤ length t
unfolding char_width
char_width-le-length t = width_among-le-length char_forms t

pub char_width-le_four : (t : List ℕ) → char_width t ≤ 4
unfolding char_width char_forms
char_width-le_four t = width_among-le 4 char_forms refl t

-- A front that holds the character at the head has its width.
pub char_width-take : (t : List ℕ) (n : ℕ) → char_width t ≤ n → char_width (take n t) ≡ char_width t
unfolding char_width
char_width-take t n h = width_among-take char_forms t n h

-- What follows a whole character does not change it.
pub char_width-append : (p r : List ℕ) → 0 < char_width p → char_width (p ++ r) ≡ char_width p
unfolding char_width char_forms
char_width-append p r h = width_among-append char_forms refl p r h

-- The first byte tells which form a character can have.
pub char_width_lead : (k : ℕ) (t : List ℕ) → 0 < length t
    → (first_of (get_or char_forms k [])).0 ≤ get_or t 0 0
    → get_or t 0 0 ≤ (first_of (get_or char_forms k [])).1
    → char_width t ≡ cond (has_form (drop 1 (get_or char_forms k [])) (drop 1 t)) (length (get_or char_forms k [])) 0
unfolding char_width char_forms
char_width_lead k [] pos low high = absurd (not-suc-le-zero pos)
char_width_lead k (b ∷ t) pos low high = width_among_lead char_forms refl k b t (within_in (first_of (get_or char_forms k [])) b low high)

-- A byte that no form begins with begins no character.
pub char_width-apart : (range : Range) → all (begins_apart range) char_forms ≡ true
    → (t : List ℕ) → 0 < length t → range.0 ≤ get_or t 0 0 → get_or t 0 0 ≤ range.1 → char_width t ≡ 0
unfolding char_width
char_width-apart range e [] pos low high = absurd (not-suc-le-zero pos)
char_width-apart range e (b ∷ t) pos low high = width_among-apart range char_forms e b t (within_in range b low high)

-- A character's width tells the bounds of its bytes.
module _ (t : List ℕ) where
  pub two_bytes : char_width t ≡ 2 → Bounds 0 ((0xC2, 0xDF) ∷ tail ∷ []) t
  unfolding char_width char_forms
  two_bytes e = width_among-bounds ((0xC2, 0xDF) ∷ tail ∷ []) char_forms refl (omega arith) t e

  pub three_bytes : char_width t ≡ 3 → Bounds 0 ((0xE0, 0xEF) ∷ tail ∷ tail ∷ []) t
  unfolding char_width char_forms
  three_bytes e = width_among-bounds ((0xE0, 0xEF) ∷ tail ∷ tail ∷ []) char_forms refl (omega arith) t e

  pub four_bytes : char_width t ≡ 4 → Bounds 0 ((0xF0, 0xF4) ∷ tail ∷ tail ∷ tail ∷ []) t
  unfolding char_width char_forms
  four_bytes e = width_among-bounds ((0xF0, 0xF4) ∷ tail ∷ tail ∷ tail ∷ []) char_forms refl (omega arith) t e

-- A UTF8-tail stands at the head.
abbrev pub starts_in_tail : List ℕ → Bool
starts_in_tail t = has_form (tail ∷ []) t

pub char_width-tail : (t : List ℕ) → starts_in_tail t ≡ true → char_width t ≡ 0
unfolding char_width char_forms
char_width-tail [] h = refl
char_width-tail (b ∷ t) h = width_among-apart tail char_forms refl b t (and_left (within tail b) true h)

-- So no character starts in a UTF8-tail.
pub char_starts : (t : List ℕ) → 0 < char_width t → starts_in_tail t ≡ false
char_starts t h = ⊎_elim (λ e. absurd (omega (arith, char_width-tail t e))) (λ e. e) (either (starts_in_tail t))

-- What starts in no UTF8-tail does not change the character before it.
pub char_width_keeps : (r : List ℕ) → starts_in_tail r ≡ false → (q : List ℕ) → 0 < length q → char_width (q ++ r) ≡ char_width q
unfolding char_width char_forms
char_width_keeps r h [] pos = absurd (not-suc-le-zero pos)
char_width_keeps r h (b ∷ q) pos = width_among_keeps tail char_forms refl b q r h

pub join-chars : (t : List ℕ) → join (chars t) ≡ t
unfolding chars
join-chars t = join-cut_by char_width t

pub chars_step : (t : List ℕ) → 0 < length t → chars t ≡ take (max 1 (char_width t)) t ∷ chars (drop (max 1 (char_width t)) t)
unfolding chars
chars_step t h = cut_by_step char_width t h

-- The same at a place within a text.
pub chars-next : (s : List ℕ) (i : ℕ) → i < length s
    → chars (drop i s)
    ≡ take (max 1 (char_width (drop i s))) (drop i s) ∷ chars (drop (i + max 1 (char_width (drop i s))) s)
chars-next s i h =
    chars_step (drop i s) (omega (arith, length-drop i s))
    ∙ ap (λ (l : List ℕ). take (max 1 (char_width (drop i s))) (drop i s) ∷ chars l) (drop-drop (max 1 (char_width (drop i s))) i s)

-- A text can be cut before what starts in no UTF8-tail.
pub chars-append : (q r : List ℕ) → starts_in_tail r ≡ false → chars (q ++ r) ≡ chars q ++ chars r
unfolding chars
chars-append q r h = cut_by-append char_width r (char_width_keeps r h) char_width-le-length q

-- One whole character at the head is the first.
pub chars_char : (c t : List ℕ) → 0 < length c → char_width (c ++ t) ≡ length c → chars (c ++ t) ≡ c ∷ chars t
chars_char [] t pos h = absurd (not-suc-le-zero pos)
chars_char (b ∷ c) t pos h =
    let whole = b ∷ c in
    let w : length whole ≡ max 1 (char_width (whole ++ t)) = omega arith in
    chars_step (whole ++ t) (omega arith)
    ∙ ap₂ {C = List (List ℕ)} ◌∷◌ (take_at whole t (max 1 (char_width (whole ++ t))) w) (ap chars (drop_at whole t (max 1 (char_width (whole ++ t))) w))

pub chars-nil : chars [] ≡ []
unfolding chars
chars-nil = refl

pub chars-one : (c : List ℕ) → 0 < length c → char_width c ≡ length c → chars c ≡ c ∷ []
chars-one c pos h =
    sym (ap chars (append-nil c)) ∙ chars_char c [] pos (ap char_width (append-nil c) ∙ h) ∙ ap (λ (l : List (List ℕ)). c ∷ l) chars-nil

-- One whole character at the end is the last.
pub chars-last : (p c : List ℕ) → 0 < length c → char_width c ≡ length c → chars (p ++ c) ≡ chars p ++ (c ∷ [])
chars-last p c pos h =
    chars-append p c (char_starts c (omega arith)) ∙ ap (λ (l : List (List ℕ)). chars p ++ l) (chars-one c pos h)

-- A character's bytes after its first are UTF8-tails.
pub char_tails : (t : List ℕ) (i : ℕ) → 0 < i → i < char_width t → within tail (get_or t i 0) ≡ true
unfolding char_width char_forms
char_tails t zero pos h = absurd (not-suc-le-zero pos)
char_tails [] (suc i) pos h = absurd (not-suc-le-zero h)
char_tails (b ∷ t) (suc i) pos h = width_among_inside tail char_forms refl b t i h

-- The first element of `chars` has the width of the text: a stray byte alone is still none.
pub char_width-first : (t : List ℕ) → char_width (take (max 1 (char_width t)) t) ≡ char_width t
char_width-first t = char_width-take t (max 1 (char_width t)) (omega arith)

-- What holds where no character stands at the head, and before a character where it holds after it, holds of every text.
pub by_chars {ℓ} : (P : List ℕ → Type ℓ)
    → ((t : List ℕ) → char_width t ≡ 0 → P t)
    → ((t : List ℕ) → 0 < char_width t → P (drop (char_width t) t) → P t)
    → (t : List ℕ) → P t
by_chars P stop step = by_length P (λ t shorter. turn t shorter (char_width t) refl)
  where
    turn : (t : List ℕ) → ((u : List ℕ) → length u < length t → P u) → (w : ℕ) → char_width t ≡ w → P t
    turn t shorter zero e = stop t e
    turn t shorter (suc w) e =
        step t (omega arith) (shorter (drop (char_width t) t) (omega (arith, length-drop (char_width t) t, char_width-le-length t)))

-- A front that begins with a character has the text's first.
pub char_width-front : (t : List ℕ) (n : ℕ) → 0 < char_width (take n t) → char_width t ≡ char_width (take n t)
char_width-front t n h = ap char_width (sym (take-append-drop n t)) ∙ char_width-append (take n t) (drop n t) h

-- The character at a place ends within the text.
pub char_ends : (s : List ℕ) (i : ℕ) → i ≤ length s → i + char_width (drop i s) ≤ length s
char_ends s i h = omega (arith, char_width-le-length (drop i s), length-drop i s)

-- The number of a character, by its bytes.
pub code_point-none : (t : List ℕ) → length t ≡ 0 → code_point t ≡ 0
unfolding code_point
code_point-none [] h = refl
code_point-none (a ∷ t) h = absurd (omega arith)

pub code_point-one : (t : List ℕ) → length t ≡ 1 → code_point t ≡ get_or t 0 0
unfolding code_point
code_point-one (a ∷ []) h = refl
code_point-one t h = absurd (omega arith)

pub code_point_two : (t : List ℕ) → length t ≡ 2 → code_point t ≡ (get_or t 0 0 - 0xC0) * 64 + (get_or t 1 0 - 0x80)
unfolding code_point
code_point_two (a ∷ b ∷ []) h = refl
code_point_two t h = absurd (omega arith)

pub code_point_three : (t : List ℕ) → length t ≡ 3
    → code_point t ≡ ((get_or t 0 0 - 0xE0) * 64 + (get_or t 1 0 - 0x80)) * 64 + (get_or t 2 0 - 0x80)
unfolding code_point
code_point_three (a ∷ b ∷ c ∷ []) h = refl
code_point_three t h = absurd (omega arith)

pub code_point_four : (t : List ℕ) → length t ≡ 4
    → code_point t
    ≡ (((get_or t 0 0 - 0xF0) * 64 + (get_or t 1 0 - 0x80)) * 64 + (get_or t 2 0 - 0x80)) * 64 + (get_or t 3 0 - 0x80)
unfolding code_point
code_point_four (a ∷ b ∷ c ∷ d ∷ []) h = refl
code_point_four t h = absurd (omega arith)
