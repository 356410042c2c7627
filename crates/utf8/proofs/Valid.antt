-- Laws of valid texts: the longest valid prefix is a prefix, it is valid, and no longer one is. Assumes nothing.
use Prim.Native.Nat.{ℕ, zero, suc, ◌+◌, ◌-◌, ◌≤◌, ◌<◌, max}
use native.Mathlib.Omega.{arith}
use mathlib.Core.Path.{◌≡◌, refl, sym, ap, ap₂, ◌∙◌}
use mathlib.Core.Bool.{Bool, true, false, ◌&&◌}
use mathlib.Core.Logic.{⊎_elim}
use mathlib.Core.List.{List, [], ◌∷◌, ◌++◌}
use borrow.Author.Tests.{lt-ltb, eq-eqb, ne_eqb, eqb-true, eqb-false}
use lib.Dec.{ltb, eqb}
use lib.ListN.{length, take, drop, length-append, length-take, length-drop}
use lib.Seq.{take-add, length-take-le, drop_at, drop-drop, take-append-le, drop-append-le}
use Rattle.utf8.specs.Lists.{all, take_while, join}
use Rattle.utf8.specs.Chars.{char_width, chars, is_char, valid, longest_valid_prefix}
use Rattle.utf8.proofs.Tests.{either, clash}
use Rattle.utf8.proofs.Lists.{all_append}
use Rattle.utf8.proofs.Characters.{char_width-le-length, char_width-append, char_width-take, char_width-first, char_width-front, chars-nil, chars_step, chars-append, starts_in_tail, by_chars}

-- The first element of `chars` is a character where one stands at the head.
first-is_char : (t : List ℕ) → is_char (take (max 1 (char_width t)) t) ≡ ltb 0 (char_width t)
unfolding is_char
first-is_char t = ap (ltb 0) (char_width-first t)

-- No character at the head of what is left: nothing of it is valid.
pub prefix_stops : (t : List ℕ) → char_width t ≡ 0 → longest_valid_prefix t ≡ []
unfolding longest_valid_prefix
prefix_stops [] h = ap (λ (cs : List (List ℕ)). join (take_while is_char cs)) chars-nil
prefix_stops (b ∷ t) h =
    let none = first-is_char (b ∷ t) ∙ ap (ltb 0) h in
    ap (λ (cs : List (List ℕ)). join (take_while is_char cs)) (chars_step (b ∷ t) (omega arith)) ∙ rw none

-- A character at the head belongs to the prefix.
pub prefix_step : (t : List ℕ) → 0 < char_width t → longest_valid_prefix t ≡ take (char_width t) t ++ longest_valid_prefix (drop (char_width t) t)
unfolding longest_valid_prefix
prefix_step t h =
    let wide : max 1 (char_width t) ≡ char_width t = omega arith in
    let one = first-is_char t ∙ lt-ltb 0 (char_width t) h in
    ap (λ (cs : List (List ℕ)). join (take_while is_char cs)) (chars_step t (omega (arith, char_width-le-length t)))
    ∙ rw one (rw wide)

valid-nil : valid [] ≡ true
unfolding valid
valid-nil = ap (all is_char) chars-nil

pub valid_stops : (t : List ℕ) → 0 < length t → char_width t ≡ 0 → valid t ≡ false
unfolding valid
valid_stops t pos h =
    let none = first-is_char t ∙ ap (ltb 0) h in
    ap (all is_char) (chars_step t pos) ∙ rw none

pub valid_step : (t : List ℕ) → 0 < char_width t → valid t ≡ valid (drop (char_width t) t)
unfolding valid
valid_step t h =
    let wide : max 1 (char_width t) ≡ char_width t = omega arith in
    let one = first-is_char t ∙ lt-ltb 0 (char_width t) h in
    ap (all is_char) (chars_step t (omega (arith, char_width-le-length t))) ∙ rw one (rw wide)

-- The prefix's length where a character stands at the head.
pub prefix_length : (t : List ℕ) → 0 < char_width t
    → length (longest_valid_prefix t) ≡ char_width t + length (longest_valid_prefix (drop (char_width t) t))
prefix_length t h =
    ap length (prefix_step t h)
    ∙ length-append (take (char_width t) t) (longest_valid_prefix (drop (char_width t) t))
    ∙ ap (λ (n : ℕ). n + length (longest_valid_prefix (drop (char_width t) t))) (length-take-le (char_width t) t (char_width-le-length t))

-- The same at a place within a text.
pub prefix_next : (s : List ℕ) (i : ℕ) → 0 < char_width (drop i s)
    → length (longest_valid_prefix (drop i s)) ≡ char_width (drop i s) + length (longest_valid_prefix (drop (i + char_width (drop i s)) s))
prefix_next s i h =
    prefix_length (drop i s) h
    ∙ ap (λ (l : List ℕ). char_width (drop i s) + length (longest_valid_prefix l)) (drop-drop (char_width (drop i s)) i s)

eqb_same : (a b c d : ℕ) → (a ≡ b → c ≡ d) → (c ≡ d → a ≡ b) → eqb a b ≡ eqb c d
eqb_same a b c d to from =
    ⊎_elim
    (λ e. e ∙ sym (eq-eqb c d (to (eqb-true a b e))))
    (λ e. e ∙ sym (ne_eqb c d (λ q. eqb-false a b e (from q))))
    (either (eqb a b))

-- A text is valid if its longest valid prefix is all of it.
pub valid_by_prefix : (t : List ℕ) → valid t ≡ eqb (length (longest_valid_prefix t)) (length t)
valid_by_prefix = by_chars (λ (t : List ℕ). valid t ≡ eqb (length (longest_valid_prefix t)) (length t)) stop step
  where
    stop : (t : List ℕ) → char_width t ≡ 0 → valid t ≡ eqb (length (longest_valid_prefix t)) (length t)
    stop [] h = valid-nil ∙ sym (eq-eqb (length (longest_valid_prefix [])) 0 (ap length (prefix_stops [] h)))
    stop (b ∷ t) h =
        let none = ap length (prefix_stops (b ∷ t) h) in
        valid_stops (b ∷ t) (omega arith) h ∙ sym (ne_eqb (length (longest_valid_prefix (b ∷ t))) (suc (length t)) (λ q. omega arith))

    step : (t : List ℕ) → 0 < char_width t
        → valid (drop (char_width t) t) ≡ eqb (length (longest_valid_prefix (drop (char_width t) t))) (length (drop (char_width t) t))
        → valid t ≡ eqb (length (longest_valid_prefix t)) (length t)
    step t h ih =
        let whole = prefix_length t h in
        let rest = length-drop (char_width t) t in
        let fits = char_width-le-length t in
        valid_step t h ∙ ih
        ∙ eqb_same (length (longest_valid_prefix (drop (char_width t) t))) (length (drop (char_width t) t)) (length (longest_valid_prefix t)) (length t) (λ q. omega arith) (λ q. omega arith)

pub longest-is_prefix : (t : List ℕ) → longest_valid_prefix t ≡ take (length (longest_valid_prefix t)) t
longest-is_prefix = by_chars (λ (t : List ℕ). longest_valid_prefix t ≡ take (length (longest_valid_prefix t)) t) stop step
  where
    stop : (t : List ℕ) → char_width t ≡ 0 → longest_valid_prefix t ≡ take (length (longest_valid_prefix t)) t
    stop t h = rw (prefix_stops t h)

    step : (t : List ℕ) → 0 < char_width t
        → longest_valid_prefix (drop (char_width t) t) ≡ take (length (longest_valid_prefix (drop (char_width t) t))) (drop (char_width t) t)
        → longest_valid_prefix t ≡ take (length (longest_valid_prefix t)) t
    step t h ih =
        prefix_step t h
        ∙ ap (λ (l : List ℕ). take (char_width t) t ++ l) ih
        ∙ sym (take-add (char_width t) (length (longest_valid_prefix (drop (char_width t) t))) t)
        ∙ ap (λ (n : ℕ). take n t) (sym (prefix_length t h))

pub longest-is-valid : (t : List ℕ) → valid (longest_valid_prefix t) ≡ true
longest-is-valid = by_chars (λ (t : List ℕ). valid (longest_valid_prefix t) ≡ true) stop step
  where
    stop : (t : List ℕ) → char_width t ≡ 0 → valid (longest_valid_prefix t) ≡ true
    stop t h = ap valid (prefix_stops t h) ∙ valid-nil

    step : (t : List ℕ) → 0 < char_width t → valid (longest_valid_prefix (drop (char_width t) t)) ≡ true → valid (longest_valid_prefix t) ≡ true
    step t h ih =
        let c = take (char_width t) t in
        let rest = longest_valid_prefix (drop (char_width t) t) in
        let long : length c ≡ char_width t = length-take-le (char_width t) t (char_width-le-length t) in
        let wide : char_width c ≡ char_width t = char_width-take t (char_width t) (omega arith) in
        let same : char_width (c ++ rest) ≡ char_width t = char_width-append c rest (omega arith) ∙ wide in
        ap valid (prefix_step t h)
        ∙ valid_step (c ++ rest) (omega arith)
        ∙ ap (λ (n : ℕ). valid (drop n (c ++ rest))) same
        ∙ ap valid (drop_at c rest (char_width t) long)
        ∙ ih

pub starts_with_char : (t : List ℕ) → 0 < length t → valid t ≡ true → 0 < char_width t
starts_with_char t pos v = go (char_width t) refl
  where
    go : (w : ℕ) → char_width t ≡ w → 0 < char_width t
    go zero e = clash (valid_stops t pos e) v
    go (suc w) e = omega arith

pub longest-is-longest : (t : List ℕ) (n : ℕ) → valid (take n t) ≡ true → length (take n t) ≤ length (longest_valid_prefix t)
longest-is-longest = by_chars (λ (t : List ℕ). (n : ℕ) → valid (take n t) ≡ true → length (take n t) ≤ length (longest_valid_prefix t)) stop step
  where
    stop : (t : List ℕ) → char_width t ≡ 0 → (n : ℕ) → valid (take n t) ≡ true → length (take n t) ≤ length (longest_valid_prefix t)
    stop t h n v = go (length (take n t)) refl
      where
        go : (l : ℕ) → length (take n t) ≡ l → length (take n t) ≤ length (longest_valid_prefix t)
        go zero e = omega arith
        go (suc l) e =
            let here = starts_with_char (take n t) (omega arith) v in
            absurd (omega (arith, char_width-front t n here))

    step : (t : List ℕ) → 0 < char_width t
        → ((m : ℕ) → valid (take m (drop (char_width t) t)) ≡ true → length (take m (drop (char_width t) t)) ≤ length (longest_valid_prefix (drop (char_width t) t)))
        → (n : ℕ) → valid (take n t) ≡ true → length (take n t) ≤ length (longest_valid_prefix t)
    step t h ih n v = go (length (take n t)) refl
      where
        w : ℕ
        w = char_width t

        go : (l : ℕ) → length (take n t) ≡ l → length (take n t) ≤ length (longest_valid_prefix t)
        go zero e = omega arith
        go (suc l) e =
            let here = starts_with_char (take n t) (omega arith) v in
            let same : char_width (take n t) ≡ w = sym (char_width-front t n here) in
            let inside : w ≤ n = omega (arith, char_width-le-length (take n t), length-take n t) in
            let count : n ≡ w + (n - w) = omega arith in
            let parts : take n t ≡ take w t ++ take (n - w) (drop w t) = ap (λ (k : ℕ). take k t) count ∙ take-add w (n - w) t in
            let long : length (take w t) ≡ w = length-take-le w t (char_width-le-length t) in
            let rest : valid (take (n - w) (drop w t)) ≡ true =
            ap valid (sym (drop_at (take w t) (take (n - w) (drop w t)) w long))
            ∙ ap (λ (l : List ℕ). valid (drop w l)) (sym parts)
            ∙ ap (λ (k : ℕ). valid (drop k (take n t))) (sym same)
            ∙ sym (valid_step (take n t) here)
            ∙ v in
            omega (arith, ih (n - w) rest, prefix_length t h, ap length parts, length-append (take w t) (take (n - w) (drop w t)))

-- After a valid text another begins anew.
pub chars-valid-append : (p r : List ℕ) → valid p ≡ true → chars (p ++ r) ≡ chars p ++ chars r
chars-valid-append p r = by_chars (λ (p : List ℕ). valid p ≡ true → chars (p ++ r) ≡ chars p ++ chars r) stop step p
  where
    stop : (p : List ℕ) → char_width p ≡ 0 → valid p ≡ true → chars (p ++ r) ≡ chars p ++ chars r
    stop [] h v = ap (λ (cs : List (List ℕ)). cs ++ chars r) (sym chars-nil)
    stop (b ∷ p) h v = clash (valid_stops (b ∷ p) (omega arith) h) v

    step : (p : List ℕ) → 0 < char_width p
        → (valid (drop (char_width p) p) ≡ true → chars (drop (char_width p) p ++ r) ≡ chars (drop (char_width p) p) ++ chars r)
        → valid p ≡ true → chars (p ++ r) ≡ chars p ++ chars r
    step p h ih v =
        let w = char_width p in
        let fits = char_width-le-length p in
        let here : max 1 w ≡ w = omega arith in
        let there : max 1 (char_width (p ++ r)) ≡ w = omega (arith, char_width-append p r h) in
        chars_step (p ++ r) (omega (arith, length-append p r))
        ∙ ap (λ (n : ℕ). take n (p ++ r) ∷ chars (drop n (p ++ r))) there
        ∙ ap₂ {C = List (List ℕ)} ◌∷◌ (take-append-le w p r fits) (ap chars (drop-append-le w p r fits) ∙ ih (sym (valid_step p h) ∙ v))
        ∙ ap {B = List (List ℕ)} (λ cs. cs ++ chars r)
        (ap (λ (n : ℕ). take n p ∷ chars (drop n p)) (sym here) ∙ sym (chars_step p (omega arith)))

module _ (p r : List ℕ) (v : valid p ≡ true) where
  pub valid-append : valid (p ++ r) ≡ valid r
  unfolding valid
  valid-append =
      ap (all is_char) (chars-valid-append p r v)
      ∙ all_append is_char (chars p) (chars r)
      ∙ ap (λ (b : Bool). b && all is_char (chars r)) v

-- A text that is cut before no UTF8-tail is valid if both parts are.
pub valid-cut : (q r : List ℕ) → starts_in_tail r ≡ false → valid (q ++ r) ≡ (valid q && valid r)
unfolding valid
valid-cut q r h = ap (all is_char) (chars-append q r h) ∙ all_append is_char (chars q) (chars r)
