-- Laws of lists that are joined, of what a text starts and ends with, and of parts of valid texts. Assumes nothing.
use Rattle.std.specs.Prelude.{Some}
use Rattle.std.proofs.lemmas.Option.{none-some, same_Some}
use Prim.Native.Nat.{ℕ, zero, suc, ◌-◌, ◌<◌, max}
use native.Mathlib.Omega.{arith}
use native.Mathlib.Nat.{suc-ne-zero}
use mathlib.Core.Path.{◌≡◌, refl, sym, ap, ap₂, ◌∙◌}
use mathlib.Core.Bool.{Bool, true, false, not, cond}
use mathlib.Core.Logic.{⊎_elim}
use mathlib.Core.List.{List, [], ◌∷◌, ◌++◌, map, append_assoc}
use borrow.Author.Tests.{ltb-true, ltb-false, lt-ltb}
use lib.Dec.{ltb}
use lib.ListN.{length, take, drop, get_or, length-append, length-take, length-drop, take-append-drop}
use lib.Seq.{drop-append_seam, drop_at, get_or-take}
use Rattle.utf8.specs.Lists.{is_empty, all, find, join, join_map, same, starts_with, ends_with, within}
use Rattle.utf8.specs.Chars.{tail, char_forms, char_width, chars, valid}
use Rattle.utf8.proofs.Tests.{either, within_low, and_left, and_right, and_both, clash}
use Rattle.utf8.proofs.Lists.{by_length}
use Rattle.utf8.proofs.Characters.{starts_in_tail, char_starts, char_width_lead, char_width-le-length, char_tails, chars-nil, chars_step}
use Rattle.utf8.proofs.Valid.{starts_with_char}
use Rattle.utf8.proofs.Starts.{not-empty, starts_front, same_refl, same-eq}
use Rattle.utf8.proofs.Elements.{all_by_places}

module _ {A : Type 0} where
  pub append_cancel : (xs ys zs : List A) → xs ++ ys ≡ xs ++ zs → ys ≡ zs
  append_cancel xs ys zs e = sym (drop-append_seam xs ys) ∙ ap (drop (length xs)) e ∙ drop-append_seam xs zs

  -- What a search finds stands at some place, and passes the test.
  pub record FoundIn (test : A → Bool) (xs : List A) (d x : A) : Type 0 where
    pub place : ℕ
    pub inside : place < length xs
    pub there : get_or xs place d ≡ x
    pub passes : test x ≡ true

  pub find-some : (test : A → Bool) (xs : List A) (d x : A) → find test xs ≡ Some x → FoundIn test xs d x
  find-some test [] d x e = absurd (none-some x e)
  find-some test (y ∷ xs) d x e = go (find-some test xs d x) (test y) refl e
    where
      go : (find test xs ≡ Some x → FoundIn test xs d x) → (b : Bool) → test y ≡ b → cond b (Some y) (find test xs) ≡ Some x → FoundIn test (y ∷ xs) d x
      go later true t e =
          let same : y ≡ x = same_Some y x e in
          record { place = 0; inside = omega arith; there = same; passes = ap test (sym same) ∙ t }
      go later false t e =
          let f = later e in
          record { place = suc f.place; inside = omega (arith, f.inside); there = f.there; passes = f.passes }

module _ {ℓ κ} {A : Type ℓ} {B : Type κ} (f : A → List B) where
  pub join_map-append : (xs ys : List A) → join_map f (xs ++ ys) ≡ join_map f xs ++ join_map f ys
  join_map-append [] ys = refl
  join_map-append (x ∷ xs) ys = ap (λ (l : List B). f x ++ l) (join_map-append xs ys) ∙ sym (append_assoc (f x) (join_map f xs) (join_map f ys))

  pub join_map-join : (xss : List (List A)) → join (map (join_map f) xss) ≡ join_map f (join xss)
  join_map-join [] = refl
  join_map-join (xs ∷ xss) = ap (λ (l : List B). join_map f xs ++ l) (join_map-join xss) ∙ sym (join_map-append xs (join xss))

-- ---- what a text starts and ends with

pub starts_rest : (p t : List ℕ) → starts_with p t ≡ true → t ≡ p ++ drop (length p) t
starts_rest p t e = sym (take-append-drop (length p) t) ∙ ap (λ (l : List ℕ). l ++ drop (length p) t) (starts_front p t e)

pub ends_append : (s p : List ℕ) → ends_with p (s ++ p) ≡ true
ends_append s p = ap (same p) (drop_at s p (length (s ++ p) - length p) (omega (arith, length-append s p))) ∙ same_refl p

pub ends_split : (p t : List ℕ) → ends_with p t ≡ true → t ≡ take (length t - length p) t ++ p
ends_split p t e =
    sym (take-append-drop (length t - length p) t)
    ∙ ap (λ (l : List ℕ). take (length t - length p) t ++ l) (sym (same-eq p (drop (length t - length p) t) e))

-- The last of a list that is not empty.
pub record Snoc (l : List ℕ) : Type 0 where
  pub front : List ℕ
  pub last : ℕ
  pub whole : l ≡ front ++ (last ∷ [])

pub snoc : (l : List ℕ) → 0 < length l → Snoc l
snoc [] pos = absurd (omega arith)
snoc (x ∷ []) pos = record { front = []; last = x; whole = refl }
snoc (x ∷ y ∷ l) pos =
    let s = snoc (y ∷ l) (omega arith) in
    record { front = x ∷ s.front; last = s.last; whole = ap {B = List ℕ} (λ r. x ∷ r) s.whole }

-- ---- parts of a text

-- A part with one byte, or with a first byte and UTF8-tails.
abbrev pub one_start : List ℕ → Bool
one_start [] = false
one_start (b ∷ bytes) = all (within tail) bytes

-- Where two lists of parts come together.
pub record Seam (parts : List (List ℕ)) (x y : List ℕ) : Type 0 where
  pub front : List (List ℕ)
  pub back : List (List ℕ)
  pub whole : parts ≡ front ++ back
  pub before : x ≡ join front
  pub after : y ≡ join back

record Past (bytes t x y : List ℕ) : Type 0 where
  more : List ℕ
  front : x ≡ bytes ++ more
  rest : t ≡ more ++ y

past_tails : (bytes t x y : List ℕ) → all (within tail) bytes ≡ true → starts_in_tail y ≡ false → bytes ++ t ≡ x ++ y → Past bytes t x y
past_tails [] t x y tails clear e = record { more = x; front = refl; rest = e }
past_tails (b ∷ bytes) t [] y tails clear e =
    clash (ap starts_in_tail e ∙ clear) (and_both (and_left (within tail b) (all (within tail) bytes) tails) refl)
past_tails (b ∷ bytes) t (c ∷ x) y tails clear e =
    let p = past_tails bytes t x y (and_right (within tail b) (all (within tail) bytes) tails) clear (ap (drop 1) e) in
    record { more = p.more; front = ap₂ {C = List ℕ} ◌∷◌ (sym (ap (λ (l : List ℕ). get_or l 0 0) e)) p.front; rest = p.rest }

-- What starts in no UTF8-tail begins where a part does.
pub begins_between : (parts : List (List ℕ)) (x y : List ℕ) → all one_start parts ≡ true → starts_in_tail y ≡ false → join parts ≡ x ++ y → Seam parts x y
begins_between [] [] y one clear e = record { front = []; back = []; whole = refl; before = refl; after = sym e }
begins_between [] (a ∷ x) y one clear e = absurd (suc-ne-zero (length (x ++ y)) (sym (ap length e)))
begins_between ([] ∷ parts) x y one clear e = clash refl one
begins_between ((b ∷ bytes) ∷ parts) [] y one clear e = record { front = []; back = (b ∷ bytes) ∷ parts; whole = refl; before = refl; after = sym e }
begins_between ((b ∷ bytes) ∷ parts) (a ∷ x) y one clear e =
    let p = past_tails bytes (join parts) x y (and_left (all (within tail) bytes) (all one_start parts) one) clear (ap (drop 1) e) in
    let s = begins_between parts p.more y (and_right (all (within tail) bytes) (all one_start parts) one) clear p.rest in
    record {
      front = (b ∷ bytes) ∷ s.front;
      back = s.back;
      whole = ap {B = List (List ℕ)} (λ l. (b ∷ bytes) ∷ l) s.whole;
      before = ap₂ {C = List ℕ} ◌∷◌ (sym (ap (λ (l : List ℕ). get_or l 0 0) e)) (p.front ∙ ap (λ (l : List ℕ). bytes ++ l) s.before);
      after = s.after;
    }

-- A valid text that is not empty starts in no UTF8-tail.
pub valid_starts : (t : List ℕ) → 0 < length t → valid t ≡ true → starts_in_tail t ≡ false
valid_starts t pos v = char_starts t (starts_with_char t pos v)

-- No element of `chars` is empty.
pub chars-some : (t : List ℕ) → all (λ (c : List ℕ). not (is_empty c)) (chars t) ≡ true
chars-some = by_length (λ (t : List ℕ). all (λ (c : List ℕ). not (is_empty c)) (chars t) ≡ true) turn
  where
    turn : (t : List ℕ) → ((u : List ℕ) → length u < length t → all (λ (c : List ℕ). not (is_empty c)) (chars u) ≡ true) → all (λ (c : List ℕ). not (is_empty c)) (chars t) ≡ true
    turn [] rest = ap (all (λ (c : List ℕ). not (is_empty c))) chars-nil
    turn (b ∷ t) rest =
        let w = max 1 (char_width (b ∷ t)) in
        ap (all (λ (c : List ℕ). not (is_empty c))) (chars_step (b ∷ t) (omega arith))
        ∙ and_both (ap not (not-empty (take w (b ∷ t)) (omega (arith, length-take w (b ∷ t))))) (rest (drop w (b ∷ t)) (omega (arith, length-drop w (b ∷ t))))

-- No byte of a character of two bytes or more is below 0x80.
pub wide_high : (t : List ℕ) → 1 < char_width t → all (ltb 0x7F) (take (char_width t) t) ≡ true
unfolding char_forms
wide_high t wide = all_by_places (ltb 0x7F) (take (char_width t) t) 0 at
  where
    high : (i : ℕ) → i < char_width t → 0x7F < get_or t i 0
    high zero h = ⊎_elim (λ e. ltb-true 0x7F (get_or t 0 0) e) (λ e. absurd (omega (arith, char_width_lead 0 t (omega (arith, char_width-le-length t)) (omega arith) (ltb-false 0x7F (get_or t 0 0) e)))) (either (ltb 0x7F (get_or t 0 0)))
    high (suc i) h = within_low tail (get_or t (suc i) 0) (char_tails t (suc i) (omega arith) h)

    at : (i : ℕ) → i < length (take (char_width t) t) → ltb 0x7F (get_or (take (char_width t) t) i 0) ≡ true
    at i h =
        let inside : i < char_width t = omega (arith, length-take (char_width t) t) in
        lt-ltb 0x7F (get_or (take (char_width t) t) i 0) (rw (get_or-take (char_width t) t i 0 inside) (high i inside))
