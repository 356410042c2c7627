-- Laws of White_Space at the ends of a text. Assumes nothing.
use Prim.Native.Nat.{ℕ, zero, suc, ◌+◌, ◌-◌, ◌≤◌, ◌<◌, max, zero-le}
use native.Mathlib.Nat.{not-suc-le-zero, sub_self}
use native.Mathlib.Omega.{arith}
use mathlib.Core.Path.{◌≡◌, refl, sym, ap, ◌∙◌}
use mathlib.Core.Bool.{Bool, true, false, cond, ◌&&◌}
use mathlib.Core.Logic.{◌⊎◌, inl, inr}
use mathlib.Core.List.{List, [], ◌∷◌, reverse, reverse-append, reverse-reverse}
use borrow.Author.Tests.{lt-ltb}
use lib.Dec.{ltb}
use lib.ListN.{length, take, drop, length-append, length-drop, drop_of_length-le}
use lib.Seq.{length-take-le, take-length, take_all, take-take, take_at, drop-drop, drop-nil}
use Rattle.utf8.specs.Lists.{drop_while, last_or, join}
use Rattle.utf8.specs.Chars.{char_width, chars, is_char, code_point}
use Rattle.utf8.specs.inner.Ends.{last_width, white_width, white_end}
use Rattle.utf8.specs.WhiteSpace.{is_white_space, is_white, trim_start, trim_end}
use Rattle.utf8.proofs.Lists.{by_length}
use Rattle.utf8.proofs.Characters.{char_width-nil, char_width-le-length, char_width-take, chars-nil, chars_step, join-chars}
use Rattle.utf8.proofs.Last.{Last, first_sort, last_of, last_or-last, last-place, last_fits}

-- A character at the head: its number decides.
pub white_width-some : (t : List ℕ) → 0 < char_width t
    → white_width t ≡ cond (is_white_space (code_point (take (char_width t) t))) (char_width t) 0
unfolding white_width is_white is_white_space is_char
white_width-some t h =
    let one = ap (ltb 0) (char_width-take t (char_width t) (omega arith)) ∙ lt-ltb 0 (char_width t) h in
    ap (λ (b : Bool). cond (b && is_white_space (code_point (take (char_width t) t))) (char_width t) 0) one

pub white_width-le : (t : List ℕ) → white_width t ≤ char_width t
unfolding white_width
white_width-le t = go (is_white (take (char_width t) t))
  where
    go : (b : Bool) → cond b (char_width t) 0 ≤ char_width t
    go true = omega arith
    go false = zero-le

pub white_width-nil : white_width [] ≡ 0
white_width-nil = omega (arith, white_width-le [], char_width-nil)

-- White_Space at the head is one whole character.
pub white_width_whole : (t : List ℕ) → 0 < white_width t → white_width t ≡ char_width t
unfolding white_width
white_width_whole t h = go (is_white (take (char_width t) t)) h
  where
    go : (b : Bool) → 0 < cond b (char_width t) 0 → cond b (char_width t) 0 ≡ char_width t
    go true p = refl
    go false p = absurd (not-suc-le-zero p)

white_width-take : (t : List ℕ) (n : ℕ) → char_width t ≤ n → white_width (take n t) ≡ white_width t
unfolding white_width
white_width-take t n h =
    ap (λ (w : ℕ). cond (is_white (take w (take n t))) w 0) (char_width-take t n h)
    ∙ ap (λ (c : List ℕ). cond (is_white c) (char_width t) 0) (take-take (char_width t) n t h)

is_white_stray : (c : List ℕ) → char_width c ≡ 0 → is_white c ≡ false
unfolding is_white is_char
is_white_stray c e = rw e

-- An element of `chars` is White_Space if it has a width as White_Space.
is_white_width : (c : List ℕ) → (char_width c ≡ 0) ⊎ (char_width c ≡ length c) → is_white c ≡ ltb 0 (white_width c)
unfolding white_width
is_white_width c (inl e) =
    let none : white_width c ≡ 0 = omega (arith, white_width-le c) in
    is_white_stray c e ∙ ap (ltb 0) (sym none)
is_white_width c (inr e) = go (char_width c) refl
  where
    go : (w : ℕ) → char_width c ≡ w → is_white c ≡ ltb 0 (white_width c)
    go zero z =
        let none : white_width c ≡ 0 = omega (arith, white_width-le c) in
        is_white_stray c z ∙ ap (ltb 0) (sym none)
    go (suc w) z = test (is_white c) ∙ ap (λ (l : List ℕ). ltb 0 (cond (is_white l) (char_width c) 0)) (sym (take_all (char_width c) c (omega arith)))
      where
        test : (b : Bool) → b ≡ ltb 0 (cond b (char_width c) 0)
        test true = sym (lt-ltb 0 (char_width c) (omega arith))
        test false = refl

first-is_white : (t : List ℕ) → 0 < length t → is_white (take (max 1 (char_width t)) t) ≡ ltb 0 (white_width t)
first-is_white t pos =
    is_white_width (take (max 1 (char_width t)) t) (first_sort t pos)
    ∙ ap (ltb 0) (white_width-take t (max 1 (char_width t)) (omega arith))

pub trim_start_stops : (t : List ℕ) → white_width t ≡ 0 → trim_start t ≡ t
unfolding trim_start
trim_start_stops [] h = ap (λ (cs : List (List ℕ)). join (drop_while is_white cs)) chars-nil
trim_start_stops (b ∷ u) h =
    let t = b ∷ u in
    let other = first-is_white t (omega arith) ∙ ap (ltb 0) h in
    ap (λ (cs : List (List ℕ)). join (drop_while is_white cs)) (chars_step t (omega arith))
    ∙ ap (λ (d : Bool). join (cond d (drop_while is_white (chars (drop (max 1 (char_width t)) t))) (take (max 1 (char_width t)) t ∷ chars (drop (max 1 (char_width t)) t)))) other
    ∙ ap join (sym (chars_step t (omega arith)))
    ∙ join-chars t

pub trim_start_step : (t : List ℕ) → 0 < white_width t → trim_start t ≡ trim_start (drop (white_width t) t)
unfolding trim_start
trim_start_step t h =
    let some : 0 < length t = omega (arith, white_width-le t, char_width-le-length t) in
    let white = first-is_white t some ∙ lt-ltb 0 (white_width t) h in
    let wide : max 1 (char_width t) ≡ white_width t = omega (arith, white_width_whole t h) in
    ap (λ (cs : List (List ℕ)). join (drop_while is_white cs)) (chars_step t some)
    ∙ ap (λ (d : Bool). join (cond d (drop_while is_white (chars (drop (max 1 (char_width t)) t))) (take (max 1 (char_width t)) t ∷ chars (drop (max 1 (char_width t)) t)))) white
    ∙ ap (λ (n : ℕ). join (drop_while is_white (chars (drop n t)))) wide

-- The same at a place within a text.
pub trim_start-next : (s : List ℕ) (i : ℕ) → 0 < white_width (drop i s) → trim_start (drop i s) ≡ trim_start (drop (i + white_width (drop i s)) s)
trim_start-next s i h = trim_start_step (drop i s) h ∙ ap trim_start (drop-drop (white_width (drop i s)) i s)

-- The White_Space at a place ends within the text.
pub white_ends : (s : List ℕ) (i : ℕ) → i ≤ length s → i + white_width (drop i s) ≤ length s
white_ends s i h = omega (arith, white_width-le (drop i s), char_width-le-length (drop i s), length-drop i s)

-- The last character decides whether anything is trimmed at the right end.
module _ (t : List ℕ) (r : Last t) where
  reversed : reverse (chars t) ≡ r.last ∷ reverse (chars r.before)
  reversed = ap reverse r.parts ∙ reverse-append (chars r.before) (r.last ∷ [])

  trim_end_white : is_white r.last ≡ true → trim_end t ≡ trim_end r.before
  unfolding trim_end
  trim_end_white e =
      ap (λ (cs : List (List ℕ)). join (reverse (drop_while is_white cs))) reversed
      ∙ ap (λ (d : Bool). join (reverse (cond d (drop_while is_white (reverse (chars r.before))) (r.last ∷ reverse (chars r.before))))) e

  trim_end_other : is_white r.last ≡ false → trim_end t ≡ t
  unfolding trim_end
  trim_end_other e =
      ap (λ (cs : List (List ℕ)). join (reverse (drop_while is_white cs))) reversed
      ∙ ap (λ (d : Bool). join (reverse (cond d (drop_while is_white (reverse (chars r.before))) (r.last ∷ reverse (chars r.before))))) e
      ∙ ap (λ (cs : List (List ℕ)). join (reverse cs)) (sym reversed)
      ∙ ap join (reverse-reverse (chars t))
      ∙ join-chars t

  white_end-last : white_end t ≡ white_width r.last
  unfolding white_end
  white_end-last = ap white_width (last_or-last t r)

  last-is_white : is_white r.last ≡ ltb 0 (white_end t)
  last-is_white = is_white_width r.last r.sort ∙ ap (ltb 0) (sym white_end-last)

white_end-nil : white_end [] ≡ 0
unfolding white_end
white_end-nil = ap (λ (cs : List (List ℕ)). white_width (last_or [] cs)) chars-nil ∙ white_width-nil

pub trim_end_stops : (t : List ℕ) → white_end t ≡ 0 → trim_end t ≡ t
unfolding trim_end
trim_end_stops [] h = ap (λ (cs : List (List ℕ)). join (reverse (drop_while is_white (reverse cs)))) chars-nil
trim_end_stops (b ∷ u) h =
    let r = last_of (b ∷ u) (omega arith) in
    trim_end_other (b ∷ u) r (last-is_white (b ∷ u) r ∙ ap (ltb 0) h)

-- White_Space at the right end is the last character, and no more.
whole_last : (t : List ℕ) (r : Last t) → 0 < white_end t → white_end t ≡ length r.last
whole_last t r h = go r.sort
  where
    go : (char_width r.last ≡ 0) ⊎ (char_width r.last ≡ length r.last) → white_end t ≡ length r.last
    go (inl e) = absurd (omega (arith, h, white_end-last t r, white_width-le r.last))
    go (inr e) =
        let same = white_end-last t r in
        omega (arith, h, white_width_whole r.last (omega (arith, h)))

pub trim_end_step : (t : List ℕ) → 0 < white_end t → trim_end t ≡ trim_end (take (length t - white_end t) t)
trim_end_step [] h = absurd (omega (arith, white_end-nil))
trim_end_step (b ∷ u) h =
    let t = b ∷ u in
    let r = last_of t (omega arith) in
    let place : length r.before ≡ length t - white_end t = omega (arith, whole_last t r h, ap length r.whole, length-append r.before r.last) in
    trim_end_white t r (last-is_white t r ∙ lt-ltb 0 (white_end t) h)
    ∙ ap trim_end (sym (take_at r.before r.last (length t - white_end t) place))
    ∙ ap (λ (l : List ℕ). trim_end (take (length t - white_end t) l)) (sym r.whole)

pub white_end-le : (t : List ℕ) → white_end t ≤ length t
white_end-le [] = omega (arith, white_end-nil)
white_end-le (b ∷ u) =
    let r = last_of (b ∷ u) (omega arith) in
    omega (arith, white_end-last (b ∷ u) r, white_width-le r.last, char_width-le-length r.last, last_fits (b ∷ u) r)

-- The same at an end within a text.
pub trim_end-next : (s : List ℕ) (e : ℕ) → e ≤ length s → 0 < white_end (take e s)
    → trim_end (take e s) ≡ trim_end (take (e - white_end (take e s)) s)
trim_end-next s e h some =
    trim_end_step (take e s) some
    ∙ ap (λ (n : ℕ). trim_end (take (n - white_end (take e s)) (take e s))) (length-take-le e s h)
    ∙ ap trim_end (take-take (e - white_end (take e s)) e s (omega arith))

pub white_begins : (s : List ℕ) (e : ℕ) → e ≤ length s → white_end (take e s) ≤ e
white_begins s e h = omega (arith, white_end-le (take e s), length-take-le e s h)

-- The White_Space at the right end is that at the place where the last character starts.
pub white_end_by_width : (t : List ℕ) → white_end t ≡ white_width (drop (length t - last_width t) t)
unfolding last_width
white_end_by_width [] = white_end-nil ∙ sym (ap white_width (drop-nil (0 - last_width [])) ∙ white_width-nil)
white_end_by_width (b ∷ u) = go (last_of (b ∷ u) (omega arith))
  where
    t : List ℕ
    t = b ∷ u

    go : Last t → white_end t ≡ white_width (drop (length t - last_width t) t)
    go r = white_end-last t r ∙ sorted r.sort
      where
        width : last_width t ≡ char_width r.last
        width = ap char_width (last_or-last t r)

        sorted : (char_width r.last ≡ 0) ⊎ (char_width r.last ≡ length r.last) → white_width r.last ≡ white_width (drop (length t - last_width t) t)
        sorted (inl e) =
            let none : white_width r.last ≡ 0 = omega (arith, white_width-le r.last) in
            none ∙ sym (ap white_width (drop_of_length-le t {i = length t - last_width t} (omega (arith, width))) ∙ white_width-nil)
        sorted (inr e) =
            ap white_width (sym (last-place t r)) ∙ ap (λ (n : ℕ). white_width (drop (length t - n) t)) (sym (width ∙ e))

-- What is left starts with no White_Space, and is the end of the text.
pub record TrimmedStart (t l : List ℕ) : Type 0 where
  pub short : length l ≤ length t
  pub part : l ≡ drop (length t - length l) t
  pub clear : white_width l ≡ 0

pub trim_start_trimmed : (t : List ℕ) → TrimmedStart t (trim_start t)
trim_start_trimmed = by_length (λ (t : List ℕ). TrimmedStart t (trim_start t)) turn
  where
    turn : (t : List ℕ) → ((u : List ℕ) → length u < length t → TrimmedStart u (trim_start u)) → TrimmedStart t (trim_start t)
    turn t ih = go (white_width t) refl
      where
        go : (w : ℕ) → white_width t ≡ w → TrimmedStart t (trim_start t)
        go zero e = rw (trim_start_stops t e) (record {
          short = omega arith;
          part = ap (λ (n : ℕ). drop n t) (sym (sub_self (length t)));
          clear = e;
        })
        go (suc w) e =
            let n = white_width t in
            let u = drop n t in
            let left = length-drop n t in
            let fits : n ≤ length t = omega (arith, white_width-le t, char_width-le-length t) in
            let r = ih u (omega arith) in
            let x = trim_start u in
            let same : n + (length u - length x) ≡ length t - length x = omega (arith, r.short) in
            rw (trim_start_step t (omega arith)) (record {
              short = omega (arith, r.short);
              part = r.part ∙ drop-drop (length u - length x) n t ∙ ap (λ (k : ℕ). drop k t) same;
              clear = r.clear;
            })

-- What is left ends with no White_Space, and is the front of the text.
pub record TrimmedEnd (t l : List ℕ) : Type 0 where
  pub short : length l ≤ length t
  pub part : l ≡ take (length l) t
  pub clear : white_end l ≡ 0

pub trim_end_trimmed : (t : List ℕ) → TrimmedEnd t (trim_end t)
trim_end_trimmed = by_length (λ (t : List ℕ). TrimmedEnd t (trim_end t)) turn
  where
    turn : (t : List ℕ) → ((u : List ℕ) → length u < length t → TrimmedEnd u (trim_end u)) → TrimmedEnd t (trim_end t)
    turn t ih = go (white_end t) refl
      where
        go : (w : ℕ) → white_end t ≡ w → TrimmedEnd t (trim_end t)
        go zero e = rw (trim_end_stops t e) (record {
          short = omega arith;
          part = sym (take-length t);
          clear = e;
        })
        go (suc w) e =
            let n = length t - white_end t in
            let u = take n t in
            let fits = white_end-le t in
            let left : length u ≡ n = length-take-le n t (omega arith) in
            let r = ih u (omega arith) in
            let x = trim_end u in
            rw (trim_end_step t (omega arith)) (record {
              short = omega (arith, r.short);
              part = r.part ∙ take-take (length x) n t (omega (arith, r.short));
              clear = r.clear;
            })
