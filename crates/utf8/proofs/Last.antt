-- Laws of a text's last character. Assumes nothing.
use Prim.Native.Nat.{ℕ, zero, suc, ◌+◌, ◌-◌, ◌≤◌, ◌<◌, min, max}
use native.Mathlib.Nat.{eq-or-lt_of_le}
use native.Mathlib.Omega.{arith}
use mathlib.Core.Path.{◌≡◌, refl, sym, ap, ap₂, ◌∙◌}
use mathlib.Core.Logic.{◌⊎◌, inl, inr, ⊎_elim}
use mathlib.Core.List.{List, [], ◌∷◌, ◌++◌, append-nil, append_assoc}
use lib.ListN.{length, take, drop, length-append, length-take, length-drop, take-append-drop}
use lib.Seq.{take_at, drop_at, length-take-le}
use Rattle.utf8.specs.Lists.{last_or}
use Rattle.utf8.specs.Chars.{char_width, chars}
use Rattle.utf8.specs.inner.Ends.{last_width}
use Rattle.utf8.proofs.Lists.{by_length, last_or-append}
use Rattle.utf8.proofs.Characters.{char_width-nil, char_width-le-length, char_width-le_four, char_width-take, char_width-first, chars-nil, chars_step, chars-last}

-- The first element of `chars`: as long as it says, or a stray byte.
pub first_sort : (t : List ℕ) → 0 < length t
    → (char_width (take (max 1 (char_width t)) t) ≡ 0) ⊎ (char_width (take (max 1 (char_width t)) t) ≡ length (take (max 1 (char_width t)) t))
first_sort t pos = go (char_width t) refl
  where
    go : (w : ℕ) → char_width t ≡ w
        → (char_width (take (max 1 (char_width t)) t) ≡ 0) ⊎ (char_width (take (max 1 (char_width t)) t) ≡ length (take (max 1 (char_width t)) t))
    go zero e = inl (char_width-first t ∙ e)
    go (suc w) e = inr (omega (arith, char_width-first t, length-take (max 1 (char_width t)) t, char_width-le-length t))

-- A text that is not empty, taken apart before its last character, or the stray byte that stands last.
pub record Last (t : List ℕ) : Type 0 where
  pub before : List ℕ
  pub last : List ℕ
  pub whole : t ≡ before ++ last
  pub parts : chars t ≡ chars before ++ (last ∷ [])
  pub some : 0 < length last
  pub sort : (char_width last ≡ 0) ⊎ (char_width last ≡ length last)

module _ (t : List ℕ) (pos : 0 < length t) where
  abbrev n : ℕ
  n = max 1 (char_width t)

  inside : n ≤ length t
  inside = omega (arith, char_width-le-length t)

  -- One character alone.
  only : length (drop n t) ≡ 0 → Last t
  only e = record {
    before = [];
    last = take n t;
    whole = sym (take-append-drop n t) ∙ ap (λ (l : List ℕ). take n t ++ l) (empty (drop n t) e) ∙ append-nil (take n t);
    parts = chars_step t pos ∙ ap (λ (l : List ℕ). take n t ∷ chars l) (empty (drop n t) e) ∙ ap (λ (cs : List (List ℕ)). take n t ∷ cs) chars-nil ∙ ap (λ (cs : List (List ℕ)). cs ++ (take n t ∷ [])) (sym chars-nil);
    some = omega (arith, length-take-le n t inside);
    sort = first_sort t pos;
  }
    where
      empty : (l : List ℕ) → length l ≡ 0 → l ≡ []
      empty [] h = refl
      empty (x ∷ l) h = absurd (omega arith)

  -- One character more in front.
  more : Last (drop n t) → Last t
  more r = record {
    before = take n t ++ r.before;
    last = r.last;
    whole = split;
    parts = chars_step t pos ∙ ap {B = List (List ℕ)} (λ cs. take n t ∷ cs) r.parts ∙ ap {B = List (List ℕ)} (λ cs. cs ++ (r.last ∷ [])) (sym front);
    some = r.some;
    sort = r.sort;
  }
    where
      split : t ≡ (take n t ++ r.before) ++ r.last
      split = sym (take-append-drop n t) ∙ ap (λ (l : List ℕ). take n t ++ l) r.whole ∙ sym (append_assoc (take n t) r.before r.last)

      p : List ℕ
      p = take n t ++ r.before

      long : length (take n t) ≡ n
      long = length-take-le n t inside

      taken : take (length p) t ≡ p
      taken = ap (take (length p)) split ∙ take_at p r.last (length p) refl

      width : char_width p ≡ char_width t
      width = ap char_width (sym taken) ∙ char_width-take t (length p) (omega (arith, long, length-append (take n t) r.before))

      front : chars p ≡ take n t ∷ chars r.before
      front =
          chars_step p (omega (arith, long, length-append (take n t) r.before))
          ∙ ap (λ (w : ℕ). take (max 1 w) p ∷ chars (drop (max 1 w) p)) width
          ∙ ap₂ {C = List (List ℕ)} ◌∷◌ (take_at (take n t) r.before n long) (ap chars (drop_at (take n t) r.before n long))

pub last_of : (t : List ℕ) → 0 < length t → Last t
last_of = by_length (λ (t : List ℕ). 0 < length t → Last t) turn
  where
    turn : (t : List ℕ) → ((u : List ℕ) → length u < length t → 0 < length u → Last u) → 0 < length t → Last t
    turn t ih pos = go (length (drop (max 1 (char_width t)) t)) refl
      where
        go : (l : ℕ) → length (drop (max 1 (char_width t)) t) ≡ l → Last t
        go zero e = only t pos e
        go (suc l) e = more t pos (ih (drop (max 1 (char_width t)) t) (omega (arith, length-drop (max 1 (char_width t)) t)) (omega arith))

pub last_or-last : (t : List ℕ) (r : Last t) → last_or [] (chars t) ≡ r.last
last_or-last t r = ap (last_or []) r.parts ∙ last_or-append [] r.last (chars r.before)

-- A whole character at the right end is the last.
module _ (t : List ℕ) (k : ℕ) (pos : 0 < k) (h : k ≤ length t) (e : char_width (drop (length t - k) t) ≡ k) where
  pub last_char : Last t
  last_char = record {
    before = take (length t - k) t;
    last = drop (length t - k) t;
    whole = sym (take-append-drop (length t - k) t);
    parts = ap chars (sym (take-append-drop (length t - k) t)) ∙ chars-last (take (length t - k) t) (drop (length t - k) t) some' (e ∙ sym long);
    some = some';
    sort = inr (e ∙ sym long);
  }
    where
      long : length (drop (length t - k) t) ≡ k
      long = omega (arith, length-drop (length t - k) t)

      some' : 0 < length (drop (length t - k) t)
      some' = omega (arith, long)

  pub last_width_found : last_width t ≡ k
  unfolding last_width last_char
  last_width_found = ap char_width (last_or-last t last_char) ∙ e

pub last_width-nil : last_width [] ≡ 0
unfolding last_width
last_width-nil = ap (λ (cs : List (List ℕ)). char_width (last_or [] cs)) chars-nil ∙ char_width-nil

-- Where the last character has a width, it is as wide as it is long, and stands at the right end.
pub last-place : (t : List ℕ) (r : Last t) → drop (length t - length r.last) t ≡ r.last
last-place t r =
    let long : length r.before ≡ length t - length r.last = omega (arith, ap length r.whole, length-append r.before r.last) in
    ap (drop (length t - length r.last)) r.whole ∙ drop_at r.before r.last (length t - length r.last) long

pub last_fits : (t : List ℕ) (r : Last t) → length r.last ≤ length t
last_fits t r = omega (arith, ap length r.whole, length-append r.before r.last)

pub last_width-le : (t : List ℕ) → last_width t ≤ length t
unfolding last_width
last_width-le [] = omega (arith, last_width-nil)
last_width-le (b ∷ u) =
    let r = last_of (b ∷ u) (omega arith) in
    omega (arith, ap char_width (last_or-last (b ∷ u) r), char_width-le-length r.last, last_fits (b ∷ u) r)

-- No whole character of a width below k stands at the right end.
abbrev pub NoneBelow : List ℕ → ℕ → Type 0
NoneBelow t k = (j : ℕ) → 0 < j → j < k → j ≤ length t → char_width (drop (length t - j) t) ≡ j → ⊥

pub none_more : (t : List ℕ) (k : ℕ) → NoneBelow t k → (char_width (drop (length t - k) t) ≡ k → ⊥) → NoneBelow t (k + 1)
none_more t k none here j pos below fits e = ⊎_elim same less (eq-or-lt_of_le (omega arith))
  where
    same : j ≡ k → ⊥
    same q = here (ap (λ (i : ℕ). char_width (drop (length t - i) t)) (sym q) ∙ e ∙ q)

    less : j < k → ⊥
    less l = none j pos l fits e

-- All widths are tried: none stands there.
pub last_width-none : (t : List ℕ) (k : ℕ) → NoneBelow t k → min (length t) 4 < k → last_width t ≡ 0
unfolding last_width
last_width-none [] k none tried = last_width-nil
last_width-none (b ∷ u) k none tried = go (last_of (b ∷ u) (omega arith))
  where
    t : List ℕ
    t = b ∷ u

    go : Last t → last_width t ≡ 0
    go r = ap char_width (last_or-last t r) ∙ sorted r.sort
      where
        sorted : (char_width r.last ≡ 0) ⊎ (char_width r.last ≡ length r.last) → char_width r.last ≡ 0
        sorted (inl e) = e
        sorted (inr e) =
            absurd
            (none (length r.last) r.some (omega (arith, tried, char_width-le_four r.last, last_fits t r)) (last_fits t r)
            (ap char_width (last-place t r) ∙ e))
