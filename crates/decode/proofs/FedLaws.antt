-- Laws of bytes fed one after the other: what is settled and what is held stand for the bytes that were fed. Assumes nothing.
use Prim.Native.Nat.{ℕ, zero, suc, max}
use native.Mathlib.Omega.{arith}
use mathlib.Core.Path.{◌≡◌, refl, sym, ap, ◌∙◌}
use mathlib.Core.Bool.{Bool, true, false, not, cond, ◌||◌}
use mathlib.Core.List.{List, [], ◌∷◌, ◌++◌, append-nil, append_assoc}
use borrow.Author.Tests.{ltb-false, not-true}
use lib.ListN.{length-append}
use Rattle.utf8.specs.Lists.{all, is_empty, within}
use Rattle.utf8.specs.Chars.{tail, char_width, chars, is_char}
use Rattle.utf8.proofs.Tests.{and_left, and_right, and_both, or_left, or_right}
use Rattle.utf8.proofs.Characters.{char_width-le-length, char_width-append, char_width-tail, chars_char, chars-nil, chars_step}
use Rattle.decode.specs.inner.Feeding.{is_open, is_broken, grown, singles, settled_by, held_next, settled, held_after}
use Rattle.decode.proofs.FormLaws.{open_width, open_tails, whole_later, whole_length, stray_alone}

-- ---- what is held

empty_open : is_open [] ≡ true
unfolding is_open
empty_open = refl

pub held_open : (h : List ℕ) (b : ℕ) → is_open (held_next h b) ≡ true
unfolding held_next
held_open h b = go (is_open (grown h b)) refl
  where
    go : (d : Bool) → is_open (grown h b) ≡ d → is_open (cond d (grown h b) []) ≡ true
    go true e = e
    go false e = empty_open

pub held_open_after : (h bytes : List ℕ) → is_open h ≡ true → is_open (held_after h bytes) ≡ true
held_open_after h [] e = e
held_open_after h (b ∷ bytes) e = held_open_after (held_next h b) bytes (held_open h b)

pub held-append : (h xs ys : List ℕ) → held_after h (xs ++ ys) ≡ held_after (held_after h xs) ys
held-append h [] ys = refl
held-append h (b ∷ xs) ys = held-append (held_next h b) xs ys

pub settled-append : (h xs ys : List ℕ) → settled h (xs ++ ys) ≡ settled h xs ++ settled (held_after h xs) ys
settled-append h [] ys = refl
settled-append h (b ∷ xs) ys =
    ap (λ (l : List (List ℕ)). settled_by h b ++ l) (settled-append (held_next h b) xs ys)
    ∙ sym (append_assoc (settled_by h b) (settled (held_next h b) xs) (settled (held_after (held_next h b) xs) ys))

-- ---- bytes that stand alone

one_stray : (b : ℕ) (t : List ℕ) → char_width (b ∷ t) ≡ 0 → chars (b ∷ t) ≡ (b ∷ []) ∷ chars t
one_stray b t none =
    let one : max 1 (char_width (b ∷ t)) ≡ 1 = omega arith in
    chars_step (b ∷ t) (omega arith) ∙ rw one

tails_alone : (t ys : List ℕ) → all (within tail) t ≡ true → chars (t ++ ys) ≡ singles t ++ chars ys
tails_alone [] ys e = refl
tails_alone (b ∷ t) ys e =
    let here = and_left (within tail b) (all (within tail) t) e in
    one_stray b (t ++ ys) (char_width-tail (b ∷ t ++ ys) (and_both here refl))
    ∙ ap (λ (l : List (List ℕ)). (b ∷ []) ∷ l) (tails_alone t ys (and_right (within tail b) (all (within tail) t) e))

-- What was open and makes no character stands alone, byte by byte.
open_alone : (h ys : List ℕ) → is_open h ≡ true → char_width (h ++ ys) ≡ 0 → chars (h ++ ys) ≡ singles h ++ chars ys
open_alone [] ys e none = refl
open_alone (a ∷ t) ys e none = one_stray a (t ++ ys) none ∙ ap (λ (l : List (List ℕ)). (a ∷ []) ∷ l) (tails_alone t ys (open_tails a t e))

pub chars_open : (h : List ℕ) → is_open h ≡ true → chars h ≡ singles h
chars_open h e =
    ap chars (sym (append-nil h))
    ∙ open_alone h [] e (ap char_width (append-nil h) ∙ open_width h e)
    ∙ ap (λ (l : List (List ℕ)). singles h ++ l) chars-nil
    ∙ append-nil (singles h)

-- ---- one byte more

not_char : (t : List ℕ) → is_char t ≡ false → char_width t ≡ 0
unfolding is_char
not_char t e = omega (arith, ltb-false 0 (char_width t) e)

-- A byte that can't begin a character stands alone, or is one.
first_settles : (b : ℕ) (ys : List ℕ) → is_open (b ∷ []) ≡ false → chars (b ∷ ys) ≡ (b ∷ []) ∷ chars ys
first_settles b ys shut = go (char_width (b ∷ [])) refl
  where
    go : (w : ℕ) → char_width (b ∷ []) ≡ w → chars (b ∷ ys) ≡ (b ∷ []) ∷ chars ys
    go zero none = one_stray b ys (stray_alone (b ∷ []) ys (omega arith) shut none)
    go (suc w) one =
        let same = char_width-append (b ∷ []) ys (omega arith) in
        chars_char (b ∷ []) ys (omega arith) (omega (arith, char_width-le-length (b ∷ [])))

-- A byte that ends what was open makes a character of it.
last_settles : (a b : ℕ) (t ys : List ℕ) → is_open (a ∷ t) ≡ true → is_broken (a ∷ t) b ≡ false → is_open (a ∷ t ++ (b ∷ [])) ≡ false
    → chars ((a ∷ t ++ (b ∷ [])) ++ ys) ≡ (a ∷ t ++ (b ∷ [])) ∷ chars ys
last_settles a b t ys e fits shut =
    let c = a ∷ t ++ (b ∷ []) in
    let wide = whole_length a b t e (whole_later (a ∷ t) b (omega arith) fits shut) in
    chars_char c ys (omega arith) (char_width-append c ys (omega arith) ∙ wide)

-- What is put together with the next byte stays held or is settled.
held-or-settled : (c ys : List ℕ) → (is_open c ≡ false → chars (c ++ ys) ≡ c ∷ chars ys)
    → chars (c ++ ys) ≡ cond (is_open c) [] (c ∷ []) ++ chars (cond (is_open c) c [] ++ ys)
held-or-settled c ys settles = go (is_open c) settles
  where
    go : (d : Bool) → (d ≡ false → chars (c ++ ys) ≡ c ∷ chars ys) → chars (c ++ ys) ≡ cond d [] (c ∷ []) ++ chars (cond d c [] ++ ys)
    go true f = refl
    go false f = f refl

broken_width : (h : List ℕ) (b : ℕ) (ys : List ℕ) → is_broken h b ≡ true → char_width (h ++ (b ∷ ys)) ≡ 0
unfolding is_broken
broken_width h b ys i =
    let c = h ++ (b ∷ []) in
    let neither = not-true (is_open c || is_char c) (and_right (not (is_empty h)) (not (is_open c || is_char c)) i) in
    ap char_width (sym (append_assoc h (b ∷ []) ys))
    ∙ stray_alone c ys (omega (arith, length-append h (b ∷ []))) (or_left (is_open c) (is_char c) neither) (not_char c (or_right (is_open c) (is_char c) neither))

fed_by : (h : List ℕ) (b : ℕ) (ys : List ℕ) → is_open h ≡ true → (d : Bool) → is_broken h b ≡ d
    → chars (h ++ (b ∷ ys))
    ≡ (cond d (singles h) [] ++ cond (is_open (cond d [] h ++ (b ∷ []))) [] ((cond d [] h ++ (b ∷ [])) ∷ []))
    ++ chars (cond (is_open (cond d [] h ++ (b ∷ []))) (cond d [] h ++ (b ∷ [])) [] ++ ys)
fed_by h b ys e true i =
    open_alone h (b ∷ ys) e (broken_width h b ys i)
    ∙ ap (λ (l : List (List ℕ)). singles h ++ l) (held-or-settled (b ∷ []) ys (first_settles b ys))
    ∙ sym (append_assoc (singles h) (cond (is_open (b ∷ [])) [] ((b ∷ []) ∷ [])) (chars (cond (is_open (b ∷ [])) (b ∷ []) [] ++ ys)))
fed_by [] b ys e false i = held-or-settled (b ∷ []) ys (first_settles b ys)
fed_by (a ∷ t) b ys e false i =
    ap chars (sym (append_assoc (a ∷ t) (b ∷ []) ys)) ∙ held-or-settled (a ∷ t ++ (b ∷ [])) ys (last_settles a b t ys e i)

pub chars-fed-one : (h : List ℕ) (b : ℕ) (ys : List ℕ) → is_open h ≡ true → chars (h ++ (b ∷ ys)) ≡ settled_by h b ++ chars (held_next h b ++ ys)
unfolding settled_by held_next grown
chars-fed-one h b ys e = fed_by h b ys e (is_broken h b) refl

-- The lemma of a decoder that is fed a text in parts: what it settled, and the characters of what it holds with the rest behind it.
pub chars-fed : (h bytes ys : List ℕ) → is_open h ≡ true → chars (h ++ (bytes ++ ys)) ≡ settled h bytes ++ chars (held_after h bytes ++ ys)
chars-fed h [] ys e = refl
chars-fed h (b ∷ bytes) ys e =
    chars-fed-one h b (bytes ++ ys) e
    ∙ ap (λ (l : List (List ℕ)). settled_by h b ++ l) (chars-fed (held_next h b) bytes ys (held_open h b))
    ∙ sym (append_assoc (settled_by h b) (settled (held_next h b) bytes) (chars (held_after (held_next h b) bytes ++ ys)))
