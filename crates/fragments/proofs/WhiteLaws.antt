-- White space between two places of a text: what the one has behind it, the other has before it. Assumes nothing.
use Prim.Native.Nat.{ℕ, ◌+◌, ◌≤◌, ◌<◌, max}
use native.Mathlib.Omega.{arith}
use mathlib.Core.Path.{◌≡◌, refl, sym, ap, ◌∙◌}
use mathlib.Core.Bool.{Bool, true, false, not, cond, ◌&&◌}
use mathlib.Core.Logic.{⊎_elim}
use mathlib.Core.List.{List, [], ◌∷◌, ◌++◌, reverse, reverse-append, reverse-reverse, append-nil}
use lib.ListN.{length, take, drop, length-append, length-take, length-drop, take-append-drop}
use lib.Seq.{slice, length-take-le, take-take, drop-append-le}
use Rattle.utf8.specs.Lists.{is_empty, all, drop_while, join}
use Rattle.utf8.specs.Chars.{tail, has_form, chars}
use Rattle.utf8.specs.WhiteSpace.{is_white, trim_start, trim_end}
use Rattle.utf8.proofs.Tests.{either, clash, and_left, and_right}
use Rattle.utf8.proofs.Lists.{all_append, join-append}
use Rattle.utf8.proofs.Elements.{not-empty-long}
use Rattle.utf8.proofs.Characters.{chars-append, join-chars}
use Rattle.utf8.proofs.Joins.{chars-some}
use Rattle.utf8.proofs.Trim.{trim_start_trimmed, trim_end_trimmed}
use Rattle.sections.specs.Sections.{white_length}
use Rattle.sections.specs.inner.Strips.{stop_at}
use Rattle.fragments.specs.inner.Reach.{Edge}

-- ---- lists of parts

reverse-cons {ℓ} : {A : Type ℓ} (x : A) (xs : List A) → reverse (x ∷ xs) ≡ reverse xs ++ (x ∷ [])
reverse-cons x xs = reverse-append (x ∷ []) xs

all-reverse {ℓ} : {A : Type ℓ} (test : A → Bool) (xs : List A) → all test (reverse xs) ≡ all test xs
all-reverse test [] = refl
all-reverse test (x ∷ xs) =
    ap (all test) (reverse-cons x xs) ∙ all_append test (reverse xs) (x ∷ []) ∙ rw (all-reverse test xs) (turn (all test xs) (test x))
  where
    turn : (a b : Bool) → (a && (b && true)) ≡ (b && a)
    turn true true = refl
    turn true false = refl
    turn false true = refl
    turn false false = refl

module _ (test : List ℕ → Bool) where
  drop_all : (xs ys : List (List ℕ)) → all test xs ≡ true → drop_while test (xs ++ ys) ≡ drop_while test ys
  drop_all [] ys e = refl
  drop_all (x ∷ xs) ys e = rw (and_left (test x) (all test xs) e) (drop_all xs ys (and_right (test x) (all test xs) e))

  drop-part : (xs ys : List (List ℕ)) → all test xs ≡ false → drop_while test (xs ++ ys) ≡ drop_while test xs ++ ys
  drop-part [] ys e = clash e refl
  drop-part (x ∷ xs) ys e = go (test x) (drop-part xs ys) e
    where
      go : (b : Bool) → (all test xs ≡ false → drop_while test (xs ++ ys) ≡ drop_while test xs ++ ys) → (b && all test xs) ≡ false
          → cond b (drop_while test (xs ++ ys)) (x ∷ xs ++ ys) ≡ cond b (drop_while test xs) (x ∷ xs) ++ ys
      go true later e = later e
      go false later e = refl

  drop-some : (xs : List (List ℕ)) → all test xs ≡ false → all (λ (c : List ℕ). not (is_empty c)) xs ≡ true → 0 < length (join (drop_while test xs))
  drop-some [] e f = clash e refl
  drop-some (x ∷ xs) e f = go (test x) (drop-some xs) e
    where
      rest_some : all (λ (c : List ℕ). not (is_empty c)) xs ≡ true
      rest_some = and_right (not (is_empty x)) (all (λ (c : List ℕ). not (is_empty c)) xs) f

      long : 0 < length x
      long = not-empty-long x (and_left (not (is_empty x)) (all (λ (c : List ℕ). not (is_empty c)) xs) f)

      go : (b : Bool) → (all test xs ≡ false → all (λ (c : List ℕ). not (is_empty c)) xs ≡ true → 0 < length (join (drop_while test xs))) → (b && all test xs) ≡ false
          → 0 < length (join (cond b (drop_while test xs) (x ∷ xs)))
      go true later e = later e rest_some
      go false later e = omega (arith, long, length-append x (join xs))

-- ---- two texts that are parted where a character starts

starts_front : (b c : List ℕ) → has_form (tail ∷ []) (b ++ c) ≡ false → has_form (tail ∷ []) b ≡ false
starts_front [] c e = refl
starts_front (x ∷ b) c e = e

module _ (a b c : List ℕ) (eb : has_form (tail ∷ []) (b ++ c) ≡ false) (ec : has_form (tail ∷ []) c ≡ false) where
  start_white : all is_white (chars b) ≡ true → trim_start (b ++ c) ≡ trim_start c
  unfolding trim_start
  start_white e = ap (λ (cs : List (List ℕ)). join (drop_while is_white cs)) (chars-append b c ec) ∙ ap join (drop_all is_white (chars b) (chars c) e)

  start_other : all is_white (chars b) ≡ false → length c < length (trim_start (b ++ c))
  unfolding trim_start
  start_other e =
      let whole = ap (λ (cs : List (List ℕ)). join (drop_while is_white cs)) (chars-append b c ec) ∙ ap join (drop-part is_white (chars b) (chars c) e) ∙ join-append (drop_while is_white (chars b)) (chars c) in
      let some = drop-some is_white (chars b) e (chars-some b) in
      omega (arith, ap length whole, length-append (join (drop_while is_white (chars b))) (join (chars c)), some, ap length (join-chars c))

  turned : reverse (chars (a ++ b)) ≡ reverse (chars b) ++ reverse (chars a)
  turned = ap reverse (chars-append a b (starts_front b c eb)) ∙ reverse-append (chars a) (chars b)

  end_white : all is_white (chars b) ≡ true → trim_end (a ++ b) ≡ trim_end a
  unfolding trim_end
  end_white e =
      ap (λ (cs : List (List ℕ)). join (reverse (drop_while is_white cs))) turned
      ∙ ap (λ (cs : List (List ℕ)). join (reverse cs)) (drop_all is_white (reverse (chars b)) (reverse (chars a)) (all-reverse is_white (chars b) ∙ e))

  end_none : all is_white (chars b) ≡ true → trim_end b ≡ []
  unfolding trim_end
  end_none e =
      ap (λ (cs : List (List ℕ)). join (reverse (drop_while is_white cs))) (sym (append-nil (reverse (chars b))))
      ∙ ap (λ (cs : List (List ℕ)). join (reverse cs)) (drop_all is_white (reverse (chars b)) [] (all-reverse is_white (chars b) ∙ e))

  end_other : all is_white (chars b) ≡ false → trim_end (a ++ b) ≡ a ++ trim_end b
  unfolding trim_end
  end_other e =
      ap (λ (cs : List (List ℕ)). join (reverse (drop_while is_white cs))) turned
      ∙ ap (λ (cs : List (List ℕ)). join (reverse cs)) (drop-part is_white (reverse (chars b)) (reverse (chars a)) (all-reverse is_white (chars b) ∙ e))
      ∙ ap join (reverse-append (drop_while is_white (reverse (chars b))) (reverse (chars a)))
      ∙ join-append (reverse (reverse (chars a))) (reverse (drop_while is_white (reverse (chars b))))
      ∙ ap (λ (l : List ℕ). l ++ join (reverse (drop_while is_white (reverse (chars b))))) (ap join (reverse-reverse (chars a)) ∙ join-chars a)

  length_turned : (xs : List (List ℕ)) → length (join (reverse xs)) ≡ length (join xs)
  length_turned [] = refl
  length_turned (x ∷ xs) =
      ap (λ (l : List (List ℕ)). length (join l)) (reverse-cons x xs)
      ∙ ap length (join-append (reverse xs) (x ∷ []))
      ∙ omega (arith, length-append (join (reverse xs)) (x ++ []), length-append x [], length-append x (join xs), length_turned xs)

  end-some : all is_white (chars b) ≡ false → 0 < length (trim_end b)
  unfolding trim_end
  end-some e =
      omega (arith, length_turned (drop_while is_white (reverse (chars b))), drop-some is_white (reverse (chars b)) (all-reverse is_white (chars b) ∙ e) (all-reverse (λ (c : List ℕ). not (is_empty c)) (chars b) ∙ chars-some b))

-- ---- the places

-- How long the text up to a place is once its right end is trimmed.
abbrev pub trimmed : List ℕ → ℕ → ℕ
trimmed text p = length (trim_end (take p text))

-- Where the white space behind a place ends.
abbrev pub white_end : List ℕ → ℕ → ℕ
white_end text p = p + white_length (drop p text)

pub trimmed_le : (text : List ℕ) (p : ℕ) → trimmed text p ≤ p
trimmed_le text p = omega (arith, (trim_end_trimmed (take p text)).short, length-take p text)

pub white_end-le : (text : List ℕ) (p : ℕ) → p ≤ length text → white_end text p ≤ length text
unfolding white_length
white_end-le text p h = omega (arith, length-drop p text)

module _ (text : List ℕ) (y x : ℕ) (h : y ≤ x) (k : x ≤ length text) (ey : Edge text y) (ex : Edge text x) where
  abbrev gap : List ℕ
  gap = slice y x text

  before : take y text ++ gap ≡ take x text
  before = ap (λ (l : List ℕ). l ++ gap) (sym (take-take y x text h)) ∙ take-append-drop y (take x text)

  behind : gap ++ drop x text ≡ drop y text
  behind =
      sym (drop-append-le y (take x text) (drop x text) (omega (arith, length-take x text)))
      ∙ ap (drop y) (take-append-drop x text)

  edge : has_form (tail ∷ []) (gap ++ drop x text) ≡ false
  edge = ap (has_form (tail ∷ [])) behind ∙ ey

  long : length (take y text) ≡ y
  long = length-take-le y text (omega arith)

  -- Nothing but white space between them,
  record White : Type 0 where
    ends : white_end text y ≡ white_end text x
    trims : trimmed text x ≡ trimmed text y
    stops : stop_at true text y x ≡ y

  white : all is_white (chars gap) ≡ true → White
  unfolding white_length stop_at
  white e =
      let s = ap length (ap trim_start (sym behind) ∙ start_white (take y text) gap (drop x text) edge ex e) in
      let n = ap length (end_none (take y text) gap (drop x text) edge ex e) in
      let short = (trim_start_trimmed (drop x text)).short in
      record {
        ends = omega (arith, s, short, length-drop y text, length-drop x text);
        trims = ap length (ap trim_end (sym before) ∙ end_white (take y text) gap (drop x text) edge ex e);
        stops = omega (arith, n);
      }

  -- or something else too.
  record Other : Type 0 where
    ends : white_end text y < x
    stops : stop_at true text y x ≡ trimmed text x
    trims : y < trimmed text x

  other : all is_white (chars gap) ≡ false → Other
  unfolding white_length stop_at
  other e =
      let s = start_other (take y text) gap (drop x text) edge ex e in
      let same = ap length (ap trim_start (sym behind)) in
      let t = ap length (ap trim_end (sym before) ∙ end_other (take y text) gap (drop x text) edge ex e) in
      let some = end-some (take y text) gap (drop x text) edge ex e in
      let parts = length-append (take y text) (trim_end gap) in
      record {
        ends = omega (arith, s, same, (trim_start_trimmed (drop y text)).short, length-drop y text, length-drop x text);
        stops = omega (arith, t, parts, long);
        trims = omega (arith, t, parts, long, some);
      }

  pub trims_behind : x ≤ white_end text y → trimmed text x ≤ y
  trims_behind r = ⊎_elim (λ e. omega (arith, (white e).trims, trimmed_le text y)) (λ e. absurd (omega (arith, (other e).ends, r))) (either (all is_white (chars gap)))

  pub ends_before : trimmed text x ≤ y → x ≤ white_end text y
  ends_before r = ⊎_elim (λ e. omega (arith, (white e).ends)) (λ e. absurd (omega (arith, (other e).trims, r))) (either (all is_white (chars gap)))

  pub same_end : x ≤ white_end text y → white_end text y ≡ white_end text x
  same_end r = ⊎_elim (λ e. (white e).ends) (λ e. absurd (omega (arith, (other e).ends, r))) (either (all is_white (chars gap)))

  pub stops_at : stop_at true text y x ≡ max y (trimmed text x)
  stops_at =
      ⊎_elim (λ e. omega (arith, (white e).stops, (white e).trims, trimmed_le text y)) (λ e. omega (arith, (other e).stops, (other e).trims)) (either (all is_white (chars gap)))
