-- Laws of the room that is surely enough for what ids decode to. Assumes nothing.
use Prim.Native.Nat.{ℕ, zero, suc, ◌+◌, ◌*◌, ◌-◌, ◌≤◌, ◌<◌, max}
use native.Mathlib.Omega.{arith}
use native.Mathlib.Numerals.{add-one}
use mathlib.Core.Path.{◌≡◌, refl, sym, ap, ◌∙◌}
use mathlib.Core.Bool.{Bool, true, false, not, cond, ◌&&◌}
use mathlib.Core.Logic.{⊎_elim}
use mathlib.Core.List.{List, [], ◌∷◌, ◌++◌}
use borrow.Author.Tests.{leb-true, leb-false, le-leb, lt-leb, ltb-true, ltb-false, eqb-true}
use lib.Dec.{leb, ltb, eqb}
use lib.ListN.{length, take, drop, get_or, length-append, length-take, get_or-eq_default}
use lib.Seq.{drop-cons}
use Rattle.utf8.specs.Lists.{all, same, join, join_map, within}
use Rattle.utf8.specs.Chars.{tail, char_width, chars, is_char, valid}
use Rattle.utf8.proofs.Tests.{either, and_left, and_right}
use Rattle.utf8.proofs.Joins.{join_map-append}
use Rattle.utf8.proofs.Elements.{any-false-at}
use Rattle.utf8.proofs.Characters.{char_width-le-length, char_width-tail, chars-nil, chars_step, char_tails, join-chars}
use Rattle.utf8.proofs.Valid.{chars-valid-append}
use Rattle.model.specs.Model.{piece}
use Rattle.model.specs.Check.{neither_text_nor_byte, bad_piece}
use Rattle.model.specs.Mark.{mark, space}
use Rattle.decode.specs.Decode.{joined_bytes, replacement}
use Rattle.decode.specs.inner.Feeding.{shown, shown_text, most_of, most_for}
use Rattle.decode.proofs.TextLaws.{shown-size, first-size, joined-all}

-- How many bytes some bytes are shown as.
abbrev size : List ℕ → ℕ
size bytes = length (join_map shown (chars bytes))

-- The first character, and the others.
size_step : (b : ℕ) (t : List ℕ) (w : ℕ) → max 1 (char_width (b ∷ t)) ≡ w → size (b ∷ t) ≡ length (shown (take w (b ∷ t))) + size (drop w (b ∷ t))
size_step b t w is =
    ap (λ (cs : List (List ℕ)). length (join_map shown cs)) (chars_step (b ∷ t) (omega arith))
    ∙ ap (λ (n : ℕ). length (shown (take n (b ∷ t)) ++ join_map shown (chars (drop n (b ∷ t))))) is
    ∙ length-append (shown (take w (b ∷ t))) (join_map shown (chars (drop w (b ∷ t))))

-- A UTF8-tail at the head is a stray byte.
stray : (b : ℕ) → within tail b ≡ true → length (shown (b ∷ [])) ≡ 3
unfolding shown is_char replacement
stray b e = rw (char_width-tail (b ∷ []) (rw e))

tails_size : (n : ℕ) (t : List ℕ) → n ≤ length t → ((i : ℕ) → i < n → within tail (get_or t i 0) ≡ true) → size t ≡ 3 * n + size (drop n t)
tails_size zero t h each = omega arith
tails_size (suc n) [] h each = absurd (omega arith)
tails_size (suc n) (b ∷ t) h each =
    let first : within tail b ≡ true = each 0 (omega arith) in
    let one : max 1 (char_width (b ∷ t)) ≡ 1 = omega (arith, char_width-tail (b ∷ t) (rw first)) in
    omega (arith, size_step b t 1 one, stray b first, tails_size n t (omega arith) (λ i k. each (suc i) (omega arith)))

-- One byte more is shown as three more at the most.
byte_more : (b : ℕ) (t : List ℕ) → size (b ∷ t) ≤ 3 + size t
byte_more b t = go (max 1 (char_width (b ∷ t))) refl
  where
    go : (w : ℕ) → max 1 (char_width (b ∷ t)) ≡ w → size (b ∷ t) ≤ 3 + size t
    go zero is = absurd (omega arith)
    go (suc k) is =
        let wide = char_width-le-length (b ∷ t) in
        let tails = tails_size k t (omega arith) (λ i h. char_tails (b ∷ t) (suc i) (omega arith) (omega arith)) in
        omega (arith, size_step b t (suc k) is, shown-size (take (suc k) (b ∷ t)) (omega arith), length-take k t, tails)

-- A character is shown as no more bytes than it has.
char_size : (c : List ℕ) → is_char c ≡ true → length (shown c) ≤ length c
unfolding shown is_char space
char_size c e = rw e (go (same c mark))
  where
    pos : 0 < char_width c
    pos = ltb-true 0 (char_width c) e

    go : (s : Bool) → length (cond s (0x20 ∷ []) c) ≤ length c
    go true = omega (arith, pos, char_width-le-length c)
    go false = omega arith

-- Valid bytes are shown as no more than they are.
chars-size : (cs : List (List ℕ)) → all is_char cs ≡ true → length (join_map shown cs) ≤ length (join cs)
chars-size [] e = omega arith
chars-size (c ∷ cs) e =
    let here = and_left (is_char c) (all is_char cs) e in
    let rest = chars-size cs (and_right (is_char c) (all is_char cs) e) in
    omega (arith, char_size c here, rest, length-append (shown c) (join_map shown cs), length-append c (join cs))

valid-size : (p : List ℕ) → valid p ≡ true → size p ≤ length p
unfolding valid
valid-size p e = omega (arith, chars-size (chars p) e, ap length (join-chars p))

-- ---- pieces

empty-fine : neither_text_nor_byte [] ≡ false
unfolding neither_text_nor_byte valid
empty-fine = rw chars-nil

-- What is neither not text nor one byte, and not one byte, is text.
by_not : (v d : Bool) → (not v && not d) ≡ false → d ≡ false → v ≡ true
by_not true d e f = refl
by_not false d e f = sym e ∙ ap not f

piece_more : (p rest : List ℕ) → neither_text_nor_byte p ≡ false → size (p ++ rest) ≤ most_of p + size rest
unfolding neither_text_nor_byte
piece_more p rest fine = go (eqb (length p) 1) refl
  where
    valid_more : valid p ≡ true → size (p ++ rest) ≤ length p + size rest
    valid_more v =
        omega
        (arith, ap (λ (cs : List (List ℕ)). length (join_map shown cs)) (chars-valid-append p rest v), ap length (join_map-append shown (chars p) (chars rest)), length-append (join_map shown (chars p)) (join_map shown (chars rest)), valid-size p v)

    one_more : (p : List ℕ) → length p ≡ 1 → size (p ++ rest) ≤ 3 + size rest
    one_more [] e = absurd (omega arith)
    one_more (b ∷ []) e = byte_more b rest
    one_more (b ∷ c ∷ p) e = absurd (omega arith)

    go : (d : Bool) → eqb (length p) 1 ≡ d → size (p ++ rest) ≤ cond d 3 (length p) + size rest
    go true e = one_more p (eqb-true (length p) 1 e)
    go false e = valid_more (by_not (valid p) (eqb (length p) 1) fine e)

pub most-next : (pieces : List (List ℕ)) (ids : List ℕ) (i : ℕ) → i < length ids → most_for pieces (drop i ids) ≡ most_of (piece pieces (get_or ids i 0)) + most_for pieces (drop (i + 1) ids)
most-next pieces ids i h =
    ap (most_for pieces) (drop-cons ids i 0 h) ∙ ap (λ (n : ℕ). most_of (piece pieces (get_or ids i 0)) + most_for pieces (drop n ids)) (sym (add-one i))

piece-fine : (pieces : List (List ℕ)) → bad_piece pieces ≡ false → (id : ℕ) → neither_text_nor_byte (piece pieces id) ≡ false
unfolding bad_piece piece
piece-fine pieces fine id =
    ⊎_elim (λ e. any-false-at neither_text_nor_byte pieces id [] fine (ltb-true id (length pieces) e))
    (λ e. ap neither_text_nor_byte (get_or-eq_default pieces [] (ltb-false id (length pieces) e)) ∙ empty-fine) (either (ltb id (length pieces)))

pub most_enough : (gone : Bool) (pieces : List (List ℕ)) → bad_piece pieces ≡ false → (ids : List ℕ) → length (shown_text gone (chars (joined_bytes pieces ids))) ≤ most_for pieces ids
most_enough gone pieces fine ids =
    omega (arith, first-size gone (chars (joined_bytes pieces ids)), ap (λ (bytes : List ℕ). size bytes) (joined-all pieces ids), go ids)
  where
    go : (ids : List ℕ) → size (join_map (piece pieces) ids) ≤ most_for pieces ids
    go [] = omega (arith, ap (λ (cs : List (List ℕ)). length (join_map shown cs)) chars-nil)
    go (id ∷ ids) = omega (arith, piece_more (piece pieces id) (join_map (piece pieces) ids) (piece-fine pieces fine id), go ids)

-- ---- a part that does not fit, and one that does

module _ (most rest left : ℕ) where
  pub too_much : left < most → leb (most + rest) left ≡ false
  too_much h = lt-leb (most + rest) left (omega arith)

  pub part_fits : most ≤ left → leb (most + rest) left ≡ leb rest (left - most)
  part_fits h =
      ⊎_elim (λ e. e ∙ sym (le-leb rest (left - most) (omega (arith, leb-true (most + rest) left e))))
      (λ e. e ∙ sym (lt-leb rest (left - most) (omega (arith, leb-false (most + rest) left e)))) (either (leb (most + rest) left))

pub surely_enough : (gone : Bool) (pieces : List (List ℕ)) (ids : List ℕ) (room : ℕ) → bad_piece pieces ≡ false → leb (most_for pieces ids) room ≡ true
    → leb (length (shown_text gone (chars (joined_bytes pieces ids)))) room ≡ true
surely_enough gone pieces ids room fine e =
    le-leb (length (shown_text gone (chars (joined_bytes pieces ids)))) room (omega (arith, leb-true (most_for pieces ids) room e, most_enough gone pieces fine ids))
