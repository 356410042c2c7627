-- Laws of the text that is shown for characters and stray bytes, and of the bytes that ids stand for. Assumes nothing.
use Prim.Native.Nat.{ℕ, zero, suc, ◌+◌, ◌*◌, ◌≤◌, ◌<◌, max}
use native.Mathlib.Nat.{mul-suc}
use native.Mathlib.Numerals.{add-one}
use native.Mathlib.Omega.{arith}
use mathlib.Core.Path.{◌≡◌, refl, sym, ap, ap₂, ◌∙◌}
use mathlib.Core.Bool.{Bool, true, false, not, cond, ◌&&◌, ◌||◌, and-true, and-false}
use mathlib.Core.Logic.{⊎_elim}
use mathlib.Core.List.{List, [], ◌∷◌, ◌++◌, map, append_assoc}
use borrow.Author.Tests.{ltb-true, ltb-false, eqb-true, eq-eqb, ne_eqb, eqb-false}
use lib.Dec.{ltb, eqb}
use lib.ListN.{length, take, drop, get_or, replicate, length-append, length-take, length-drop, drop_of_length-le, get_or-eq_default}
use lib.Seq.{drop-cons}
use Rattle.utf8.specs.Lists.{all, is_empty, filter, join, join_map, same, starts_with, within}
use Rattle.utf8.specs.Chars.{tail, char_forms, char_width, chars, is_char}
use Rattle.utf8.proofs.Tests.{either, and_left, and_right, and_both}
use Rattle.utf8.proofs.Lists.{by_length}
use Rattle.utf8.proofs.Joins.{join_map-append}
use Rattle.utf8.proofs.Starts.{no_elements, not-empty, same-eq, apart_by_length}
use Rattle.utf8.proofs.Elements.{not-empty-long}
use Rattle.utf8.proofs.Forms.{width_among-bounds}
use Rattle.utf8.proofs.Plain.{plain_width}
use Rattle.utf8.proofs.Characters.{char_width-le-length, char_width-append, char_width_lead, char_width-tail, char_width-first, chars_char, chars-nil, chars_step, join-chars}
use Rattle.model.specs.Model.{Model, piece, pieces_of, steps_of}
use Rattle.model.specs.Mark.{mark, space}
use Rattle.decode.specs.Decode.{has_piece, joined_bytes, replacement, strays_replaced, marks_spaced, prepends_space, leading_space_gone, decoded_bytes}
use Rattle.decode.specs.inner.Feeding.{is_open, singles, shown, shown_first, shown_text}
use Rattle.decode.proofs.FormLaws.{open_width, open_tails}

-- ---- one after the other

none_gone : (cs : List (List ℕ)) → shown_text false cs ≡ join_map shown cs
unfolding shown_first
none_gone [] = refl
none_gone (c ∷ cs) = refl

pub shown_text-append : (gone : Bool) (xs ys : List (List ℕ)) → shown_text gone (xs ++ ys) ≡ shown_text gone xs ++ shown_text (gone && is_empty xs) ys
shown_text-append gone [] ys = ap (λ (g : Bool). shown_text g ys) (sym (and-true gone))
shown_text-append gone (x ∷ xs) ys =
    ap (λ (l : List ℕ). shown_first gone x ++ l) (join_map-append shown xs ys ∙ ap (λ (l : List ℕ). join_map shown xs ++ l) (sym (none_gone ys)))
    ∙ sym (append_assoc (shown_first gone x) (join_map shown xs) (shown_text false ys))
    ∙ ap (λ (g : Bool). (shown_first gone x ++ join_map shown xs) ++ shown_text g ys) (sym (and-false gone))

-- ---- one character or stray byte

stray_shown : (c : List ℕ) → char_width c ≡ 0 → shown c ≡ replacement
unfolding shown is_char
stray_shown c none = rw none

stray_first : (gone : Bool) (c : List ℕ) → char_width c ≡ 0 → shown_first gone c ≡ replacement
unfolding shown_first replacement space
stray_first gone c none = rw (stray_shown c none, and-false gone)

high_width : (b : ℕ) → 0x7F < b → char_width (b ∷ []) ≡ 0
unfolding char_width char_forms
high_width b h = go (char_width (b ∷ [])) refl
  where
    go : (w : ℕ) → char_width (b ∷ []) ≡ w → char_width (b ∷ []) ≡ 0
    go zero e = e
    go (suc w) e =
        let one : char_width (b ∷ []) ≡ 1 = omega (arith, char_width-le-length (b ∷ [])) in
        let bounds = width_among-bounds ((0x00, 0x7F) ∷ []) char_forms refl (omega arith) (b ∷ []) one in
        absurd (omega (arith, bounds.1))

pub shown_ascii : (gone : Bool) (b : ℕ) → b ≤ 0x7F → shown_first gone (b ∷ []) ≡ cond (gone && eqb b 0x20) [] (b ∷ [])
unfolding shown_first shown is_char mark space
shown_ascii gone b h = rw (plain_width b [] (omega arith), and-false (eqb b 0xE2), and-true (eqb b 0x20))

pub shown_stray : (gone : Bool) (b : ℕ) → 0x7F < b → is_open (b ∷ []) ≡ false → shown_first gone (b ∷ []) ≡ replacement
shown_stray gone b h shut = stray_first gone (b ∷ []) (high_width b h)

pub shown-mark : (gone : Bool) → shown_first gone mark ≡ cond gone [] space
unfolding shown_first shown is_char char_width char_forms mark space
shown-mark true = refl
shown-mark false = refl

pub shown-wide : (gone : Bool) (c : List ℕ) → 2 ≤ length c → is_char c ≡ true → same c mark ≡ false → shown_first gone c ≡ c
unfolding shown_first shown space
shown-wide gone c long one other = rw (one, other, apart_by_length c space (omega arith), and-false gone)

shown_tails : (t : List ℕ) → all (within tail) t ≡ true → join_map shown (singles t) ≡ join (replicate (length t) replacement)
shown_tails [] e = refl
shown_tails (b ∷ t) e =
    let here = and_left (within tail b) (all (within tail) t) e in
    ap₂ ◌++◌ (stray_shown (b ∷ []) (char_width-tail (b ∷ []) (and_both here refl))) (shown_tails t (and_right (within tail b) (all (within tail) t) e))

pub shown_strays : (gone : Bool) (h : List ℕ) → is_open h ≡ true → shown_text gone (singles h) ≡ join (replicate (length h) replacement)
shown_strays gone [] e = refl
shown_strays gone (a ∷ t) e = ap₂ ◌++◌ (stray_first gone (a ∷ []) (go (char_width (a ∷ [])) refl)) (shown_tails t (open_tails a t e))
  where
    go : (w : ℕ) → char_width (a ∷ []) ≡ w → char_width (a ∷ []) ≡ 0
    go zero q = q
    go (suc w) q = absurd (omega (arith, char_width-append (a ∷ []) t (omega arith), open_width (a ∷ t) e))

-- ---- the elements of `chars`

-- Not empty, and where a character stands at its head no more than that.
abbrev cut : List ℕ → Bool
cut c = not (is_empty c) && (not (is_char c) || eqb (char_width c) (length c))

cut-some : (c : List ℕ) → cut c ≡ true → 0 < length c
cut-some c e = not-empty-long c (and_left (not (is_empty c)) (not (is_char c) || eqb (char_width c) (length c)) e)

cut_whole : (c : List ℕ) → cut c ≡ true → is_char c ≡ true → char_width c ≡ length c
cut_whole c e one =
    let either_way = and_right (not (is_empty c)) (not (is_char c) || eqb (char_width c) (length c)) e in
    eqb-true (char_width c) (length c) (rw one at either_way)

first-cut : (t : List ℕ) → 0 < length t → cut (take (max 1 (char_width t)) t) ≡ true
unfolding is_char
first-cut t pos =
    let w = max 1 (char_width t) in
    let long = length-take w t in
    let fits = char_width-le-length t in
    let wide = char_width-first t in
    and_both
    (ap not (not-empty (take w t) (omega arith)))
    (⊎_elim
    (λ one. rw one (eq-eqb (char_width (take w t)) (length (take w t)) (omega (arith, ltb-true 0 (char_width (take w t)) one))))
    (λ none. rw none)
    (either (ltb 0 (char_width (take w t)))))

chars-cut : (t : List ℕ) → all cut (chars t) ≡ true
chars-cut = by_length (λ (t : List ℕ). all cut (chars t) ≡ true) turn
  where
    turn : (t : List ℕ) → ((u : List ℕ) → length u < length t → all cut (chars u) ≡ true) → all cut (chars t) ≡ true
    turn [] rest = ap (all cut) chars-nil
    turn (b ∷ t) rest =
        let w = max 1 (char_width (b ∷ t)) in
        ap (all cut) (chars_step (b ∷ t) (omega arith))
        ∙ and_both (first-cut (b ∷ t) (omega arith)) (rest (drop w (b ∷ t)) (omega (arith, length-drop w (b ∷ t))))

-- ---- the text that is shown

-- A stray byte exchanged; a mark exchanged.
abbrev exchanged : List ℕ → List ℕ
exchanged c = cond (is_char c) c replacement

abbrev spaced : List ℕ → List ℕ
spaced c = cond (same c mark) space c

replacement-wide : char_width replacement ≡ 3
unfolding char_width char_forms replacement
replacement-wide = refl

-- What is exchanged is one whole character, whatever follows it.
exchanged_char : (c t : List ℕ) → cut c ≡ true → chars (exchanged c ++ t) ≡ exchanged c ∷ chars t
unfolding replacement
exchanged_char c t e = go (is_char c) refl
  where
    whole : (c : List ℕ) → 0 < length c → char_width c ≡ length c → chars (c ++ t) ≡ c ∷ chars t
    whole c pos h = chars_char c t pos (char_width-append c t (omega arith) ∙ h)

    go : (d : Bool) → is_char c ≡ d → chars (cond d c replacement ++ t) ≡ cond d c replacement ∷ chars t
    go true one = whole c (cut-some c e) (cut_whole c e one)
    go false one = whole replacement (omega arith) replacement-wide

exchanged_chars : (cs : List (List ℕ)) → all cut cs ≡ true → chars (join_map exchanged cs) ≡ map exchanged cs
exchanged_chars [] e = chars-nil
exchanged_chars (c ∷ cs) e =
    exchanged_char c (join_map exchanged cs) (and_left (cut c) (all cut cs) e)
    ∙ ap (λ (l : List (List ℕ)). exchanged c ∷ l) (exchanged_chars cs (and_right (cut c) (all cut cs) e))

exchanged_shown : (c : List ℕ) → spaced (exchanged c) ≡ shown c
unfolding shown mark replacement
exchanged_shown c = go (is_char c)
  where
    go : (d : Bool) → spaced (cond d c replacement) ≡ cond d (spaced c) replacement
    go true = refl
    go false = refl

all_shown : (cs : List (List ℕ)) → join_map spaced (map exchanged cs) ≡ join_map shown cs
all_shown [] = refl
all_shown (c ∷ cs) = ap₂ ◌++◌ (exchanged_shown c) (all_shown cs)

-- Only a space is shown by bytes that begin with one.
shown_begins : (c : List ℕ) → cut c ≡ true → (0 < length (shown c)) × (get_or (shown c) 0 0 ≡ 0x20 → length (shown c) ≡ 1)
unfolding shown space replacement char_forms
shown_begins c e = go (is_char c) refl (same c mark)
  where
    pos : 0 < length c
    pos = cut-some c e

    go : (d : Bool) → is_char c ≡ d → (s : Bool)
        → (0 < length (cond d (cond s space c) replacement)) × (get_or (cond d (cond s space c) replacement) 0 0 ≡ 0x20 → length (cond d (cond s space c) replacement) ≡ 1)
    go true one true = (omega arith, λ q. refl)
    go true one false = (pos, λ q. sym (cut_whole c e one) ∙ char_width_lead 0 c pos (omega arith) (omega arith))
    go false one s = (omega arith, λ q. absurd (omega arith))

space_alone : (s r : List ℕ) → 0 < length s → (get_or s 0 0 ≡ 0x20 → length s ≡ 1) → starts_with space (s ++ r) ≡ same s space
unfolding space
space_alone [] r pos alone = absurd (omega arith)
space_alone (x ∷ s) r pos alone = ⊎_elim is-space other (either (eqb x 0x20))
  where
    is-space : eqb x 0x20 ≡ true → starts_with space (x ∷ s ++ r) ≡ same (x ∷ s) space
    is-space q =
        let here = eqb-true x 0x20 q in
        let one = alone here in
        rw (here, no_elements s (omega arith))

    other : eqb x 0x20 ≡ false → starts_with space (x ∷ s ++ r) ≡ same (x ∷ s) space
    other q = rw (q, ne_eqb 0x20 x (λ p. eqb-false x 0x20 q (sym p)))

text_shown : (gone : Bool) (cs : List (List ℕ)) → all cut cs ≡ true → leading_space_gone gone (join_map shown cs) ≡ shown_text gone cs
unfolding leading_space_gone shown_first space
text_shown false [] e = refl
text_shown true [] e = refl
text_shown false (c ∷ cs) e = refl
text_shown true (c ∷ cs) e =
    let begins = shown_begins c (and_left (cut c) (all cut cs) e) in
    rw (space_alone (shown c) (join_map shown cs) begins.0 begins.1) (⊎_elim is-space (λ q. rw q) (either (same (shown c) space)))
  where
    is-space : same (shown c) space ≡ true
        → cond (same (shown c) space) (drop 1 (shown c ++ join_map shown cs)) (shown c ++ join_map shown cs) ≡ cond (same (shown c) space) [] (shown c) ++ join_map shown cs
    is-space q = rw q (ap (λ (l : List ℕ). drop 1 (l ++ join_map shown cs)) (same-eq (shown c) space q))

pub shown_text_lem : (gone : Bool) (bytes : List ℕ) → leading_space_gone gone (marks_spaced (strays_replaced bytes)) ≡ shown_text gone (chars bytes)
unfolding marks_spaced strays_replaced
shown_text_lem gone bytes =
    let cs = chars bytes in
    ap (λ (l : List (List ℕ)). leading_space_gone gone (join_map spaced l)) (exchanged_chars cs (chars-cut bytes))
    ∙ ap (leading_space_gone gone) (all_shown cs)
    ∙ text_shown gone cs (chars-cut bytes)

-- ---- how much is shown

pub shown-size : (c : List ℕ) → 0 < length c → length (shown c) ≤ 3 * length c
unfolding shown space replacement
shown-size c pos = go (is_char c) (same c mark) pos
  where
    go : (d s : Bool) → 0 < length c → length (cond d (cond s space c) replacement) ≤ 3 * length c
    go true true pos = omega arith
    go true false pos = omega arith
    go false s pos = omega arith

all-size : (cs : List (List ℕ)) → all cut cs ≡ true → length (join_map shown cs) ≤ 3 * length (join cs)
all-size [] e = omega arith
all-size (c ∷ cs) e =
    let here = shown-size c (cut-some c (and_left (cut c) (all cut cs) e)) in
    let rest = all-size cs (and_right (cut c) (all cut cs) e) in
    omega (arith, length-append (shown c) (join_map shown cs), length-append c (join cs))

pub first-size : (gone : Bool) (cs : List (List ℕ)) → length (shown_text gone cs) ≤ length (join_map shown cs)
unfolding shown_first
first-size gone [] = omega arith
first-size gone (c ∷ cs) = go (gone && same (shown c) space)
  where
    go : (d : Bool) → length (cond d [] (shown c) ++ join_map shown cs) ≤ length (shown c ++ join_map shown cs)
    go true = omega (arith, length-append (shown c) (join_map shown cs))
    go false = omega arith

pub shown-length : (gone : Bool) (bytes : List ℕ) → length (shown_text gone (chars bytes)) ≤ 3 * length bytes
shown-length gone bytes =
    omega (arith, first-size gone (chars bytes), all-size (chars bytes) (chars-cut bytes), ap length (join-chars bytes))

-- ---- the bytes that ids stand for

-- An id without a piece reads as the empty one.
no_piece : (pieces : List (List ℕ)) (id : ℕ) → has_piece pieces id ≡ false → piece pieces id ≡ []
unfolding has_piece piece
no_piece pieces id h = get_or-eq_default pieces [] (ltb-false id (length pieces) h)

pub joined-all : (pieces : List (List ℕ)) (ids : List ℕ) → joined_bytes pieces ids ≡ join_map (piece pieces) ids
unfolding joined_bytes
joined-all pieces [] = refl
joined-all pieces (id ∷ ids) = go (has_piece pieces id) refl (joined-all pieces ids)
  where
    go : (d : Bool) → has_piece pieces id ≡ d → join_map (piece pieces) (filter (has_piece pieces) ids) ≡ join_map (piece pieces) ids
        → join_map (piece pieces) (cond d (id ∷ filter (has_piece pieces) ids) (filter (has_piece pieces) ids)) ≡ piece pieces id ++ join_map (piece pieces) ids
    go true h rest = ap (λ (l : List ℕ). piece pieces id ++ l) rest
    go false h rest = ap₂ ◌++◌ (sym (no_piece pieces id h)) rest

module _ (pieces : List (List ℕ)) (ids : List ℕ) (i : ℕ) where
  -- From a place on: the piece of the id there, then those of the others.
  pub joined-next : i < length ids → joined_bytes pieces (drop i ids) ≡ piece pieces (get_or ids i 0) ++ joined_bytes pieces (drop (i + 1) ids)
  joined-next h =
      joined-all pieces (drop i ids)
      ∙ rw (add-one, drop-cons ids i 0 h) (ap (λ (l : List ℕ). piece pieces (get_or ids i 0) ++ l) (sym (joined-all pieces (drop (suc i) ids))))

  pub joined-ended : length ids ≤ i → joined_bytes pieces (drop i ids) ≡ []
  unfolding joined_bytes
  joined-ended h = rw (drop_of_length-le ids {i = i} h)

pub joined_length : (pieces : List (List ℕ)) (n : ℕ) → ((i : ℕ) → length (get_or pieces i []) ≤ n) → (ids : List ℕ) → length (joined_bytes pieces ids) ≤ n * length ids
unfolding piece
joined_length pieces n short ids = rw (joined-all pieces ids) (go ids)
  where
    go : (ids : List ℕ) → length (join_map (piece pieces) ids) ≤ n * length ids
    go [] = omega arith
    go (id ∷ ids) =
        let here = short id in
        let rest = go ids in
        omega (arith, length-append (piece pieces id) (join_map (piece pieces) ids), mul-suc n (length ids))

pub decoded_text : (m : Model) (ids : List ℕ) → decoded_bytes m ids ≡ shown_text (prepends_space m.metaspace (steps_of m)) (chars (joined_bytes (pieces_of m) ids))
unfolding decoded_bytes
decoded_text m ids = shown_text_lem (prepends_space m.metaspace (steps_of m)) (joined_bytes (pieces_of m) ids)
