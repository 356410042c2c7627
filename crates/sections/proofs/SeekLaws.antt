-- Laws of the search for tokens: the bytes that contents begin with, the longest content at a place, the leftmost place that has one.
use Rattle.std.specs.Prelude.{Option, None, Some}
use Prim.Native.Nat.{ℕ, suc, ◌+◌, ◌-◌, ◌≤◌, ◌<◌}
use native.Mathlib.Omega.{arith}
use native.Mathlib.Numerals.{add-one}
use mathlib.Core.Path.{◌≡◌, refl, sym, ap, ◌∙◌}
use mathlib.Core.Bool.{Bool, true, false, not, cond, ◌||◌}
use mathlib.Core.Logic.{⊎_elim}
use mathlib.Core.List.{List, [], ◌∷◌, map}
use borrow.Author.Tests.{eqb-true, eqb-false, ltb-true, ltb-false, le-leb, lt-leb}
use lib.Dec.{eqb, ltb}
use lib.ListN.{length, get_or, set, drop, replicate, length-set, length-replicate, get_or-replicate, length-map, drop_of_length-le, get_or-map, get_or-eq_default}
use lib.Seq.{drop-cons, ext_get_or, get_or-set_same, get_or-set_other}
use Rattle.utf8.specs.Lists.{is_empty, any, filter, below, numbered_from, numbered, starts_with}
use Rattle.utf8.proofs.Tests.{either, clash, or_left, or_right}
use Rattle.utf8.proofs.Places.{get_or_inside, length-count_from, get_or_count_from, length-numbered, get_or_numbered}
use Rattle.model.specs.Check.{empty_or_no_text, bad_token}
use Rattle.sections.specs.declared.Match.{Match}
use Rattle.sections.specs.Matches.{longer, longest, longest_at, match_or, first_match}
use Rattle.sections.specs.Beginnings.{begins_with, beginnings}
use Rattle.sections.specs.inner.Seek.{note_first, note_firsts, may_begin, row_in, row_at, row_by, placed, match_by}

-- ---- the bytes that contents begin with

length-note_first : (c row : List ℕ) → length (note_first c row) ≡ length row
length-note_first [] row = refl
length-note_first (x ∷ c) row = length-set row x 1

note_first-at : (c row : List ℕ) (b : ℕ) → b < length row → get_or (note_first c row) b 0 ≡ cond (begins_with b c) 1 (get_or row b 0)
note_first-at [] row b h = refl
note_first-at (x ∷ c) row b h = go (eqb x b) refl
  where
    go : (t : Bool) → eqb x b ≡ t → get_or (set row x 1) b 0 ≡ cond t 1 (get_or row b 0)
    go true q = rw (eqb-true x b q) (get_or-set_same row b 1 0 h)
    go false q = get_or-set_other row x b 1 0 (λ e. eqb-false x b q (sym e))

length-note_firsts : (contents : List (List ℕ)) (row : List ℕ) → length (note_firsts contents row) ≡ length row
length-note_firsts [] row = refl
length-note_firsts (c ∷ contents) row = length-note_firsts contents (note_first c row) ∙ length-note_first c row

note_firsts-at : (contents : List (List ℕ)) (row : List ℕ) (b : ℕ) → b < length row
    → get_or (note_firsts contents row) b 0 ≡ cond (any (begins_with b) contents) 1 (get_or row b 0)
note_firsts-at [] row b h = refl
note_firsts-at (c ∷ contents) row b h =
    note_firsts-at contents (note_first c row) b (omega (arith, length-note_first c row))
    ∙ ap (cond (any (begins_with b) contents) 1) (note_first-at c row b h)
    ∙ go (begins_with b c) (any (begins_with b) contents)
  where
    go : (s t : Bool) → cond t 1 (cond s 1 (get_or row b 0)) ≡ cond (s || t) 1 (get_or row b 0)
    go true true = refl
    go true false = refl
    go false t = refl

beginnings-at : (contents : List (List ℕ)) (n b d : ℕ) → b < n → get_or (beginnings contents n) b d ≡ cond (any (begins_with b) contents) 1 0
unfolding beginnings
beginnings-at contents n b d h =
    let f : ℕ → ℕ = λ b. cond (any (begins_with b) contents) 1 0 in
    get_or_inside (map f (below n)) b d (f 0) (omega (arith, length-map (below n) f, length-count_from 0 n))
    ∙ get_or-map f (below n) b 0
    ∙ ap f (get_or_count_from 0 n b 0 h ∙ omega arith)

pub length-beginnings : (contents : List (List ℕ)) (n : ℕ) → length (beginnings contents n) ≡ n
unfolding beginnings
length-beginnings contents n = length-map (below n) _ ∙ length-count_from 0 n

-- Noting the contents one by one in a row of zeros makes the row.
pub noted-first : (contents : List (List ℕ)) (n : ℕ) → note_firsts contents (replicate n 0) ≡ beginnings contents n
noted-first contents n =
    let long : length (note_firsts contents (replicate n 0)) ≡ n = length-note_firsts contents (replicate n 0) ∙ length-replicate {A = ℕ} n 0 in
    ext_get_or 0 (note_firsts contents (replicate n 0)) (beginnings contents n) (long ∙ sym (length-beginnings contents n))
    (λ b h. note_firsts-at contents (replicate n 0) b (omega (arith, length-replicate {A = ℕ} n 0))
    ∙ ap (cond (any (begins_with b) contents) 1) (get_or-replicate n b 0 0 (omega arith))
    ∙ sym (beginnings-at contents n b 0 (omega arith)))

module _ (contents : List (List ℕ)) (row : List ℕ) (i : ℕ) where
  pub noted-next : i < length contents → note_firsts (drop i contents) row ≡ note_firsts (drop (i + 1) contents) (note_first (get_or contents i []) row)
  noted-next h = rw (add-one, drop-cons contents i [] h)

  pub noted-ended : length contents ≤ i → note_firsts (drop i contents) row ≡ row
  noted-ended h = rw (drop_of_length-le contents h)

-- What such a row rules out begins no content.
pub record Sound (begins : List ℕ) (contents : List (List ℕ)) : Type 0 where
  pub none_begins : (b : ℕ) → may_begin begins b ≡ false → any (begins_with b) contents ≡ false

pub first_sound : (contents : List (List ℕ)) (n : ℕ) → Sound (beginnings contents n) contents
unfolding may_begin
first_sound contents n = record { none_begins = λ b e. at_byte b e }
  where
    inside : (b : ℕ) (t : Bool) → not (eqb (cond t 1 0) 0) ≡ false → t ≡ false
    inside b true e = clash e refl
    inside b false e = refl

    at_byte : (b : ℕ) → may_begin (beginnings contents n) b ≡ false → any (begins_with b) contents ≡ false
    at_byte b e = ⊎_elim (λ q. inside b (any (begins_with b) contents) (rw (beginnings-at contents n b 1 (ltb-true b n q)) at e)) (λ q. clash e (rw (get_or-eq_default (beginnings contents n) 1 {n = b} (omega (arith, length-beginnings contents n, ltb-false b n q))))) (either (ltb b n))

-- ---- the longest content at the head of a text

-- The rows from i on begin with that of i.
pub numbered-at : (contents : List (List ℕ)) (i : ℕ) → i < length contents → drop i (numbered contents) ≡ (i, get_or contents i []) ∷ drop (suc i) (numbered contents)
numbered-at contents i h =
    drop-cons (numbered contents) i (0, []) (omega (arith, length-numbered contents))
    ∙ ap (λ (c : ℕ × List ℕ). c ∷ drop (suc i) (numbered contents)) (get_or_numbered contents i 0 [] h)

-- The longest of those from row i on.
abbrev pub longest_from : List (List ℕ) → List ℕ → ℕ → Option (ℕ × List ℕ)
longest_from contents text i = longest (filter (λ (c : ℕ × List ℕ). starts_with c.1 text) (drop i (numbered contents)))

-- What a row says of it, and how long that is.
abbrev pub held : List (List ℕ) → Option ℕ → Option (ℕ × List ℕ)
held contents None = None
held contents (Some row) = Some (row, get_or contents row [])

abbrev pub length_of : Option (ℕ × List ℕ) → ℕ
length_of None = 0
length_of (Some c) = length c.1

-- Of the rows from i on the longest content stands at best, and is long bytes long.
pub record Best (contents : List (List ℕ)) (text : List ℕ) (i : ℕ) (best : Option ℕ) (long : ℕ) : Type 0 where
  pub is : longest_from contents text i ≡ held contents best
  pub size : long ≡ length_of (held contents best)

module _ (contents : List (List ℕ)) (text : List ℕ) where
  pub best_start : (i : ℕ) → length contents ≤ i → Best contents text i None 0
  best_start i h = record { is = rw (drop_of_length-le (numbered contents) {i = i} (omega (arith, length-numbered contents))); size = refl }

  pub best_ended : (best : Option ℕ) (long : ℕ) → Best contents text 0 best long → best ≡ row_at contents text
  unfolding row_at longest_at
  best_ended best long b = go best ∙ sym (ap row_in b.is)
    where
      go : (f : Option ℕ) → f ≡ row_in (held contents f)
      go None = refl
      go (Some row) = refl

  -- One row more, from the last to the first.
  module _ (row : ℕ) (best : Option ℕ) (long : ℕ) (some_left : 0 < row) (h : row ≤ length contents) (b : Best contents text row best long) where
    abbrev content : List ℕ
    content = get_or contents (row - 1) []

    one_more : (t : Bool) → starts_with content text ≡ t
        → longest_from contents text (row - 1) ≡ longest (cond t ((row - 1, content) ∷ filter (λ (c : ℕ × List ℕ). starts_with c.1 text) (drop row (numbered contents))) (filter (λ (c : ℕ × List ℕ). starts_with c.1 text) (drop row (numbered contents))))
    one_more t e = rw (whole, e)
      where
        next : suc (row - 1) ≡ row
        next = omega arith

        whole : drop (row - 1) (numbered contents) ≡ (row - 1, content) ∷ drop row (numbered contents)
        whole = numbered-at contents (row - 1) (omega arith) ∙ ap (λ (n : ℕ). (row - 1, content) ∷ drop n (numbered contents)) next

    pub best_apart : starts_with content text ≡ false → Best contents text (row - 1) best long
    best_apart e = record { is = one_more false e ∙ b.is; size = b.size }

    pub best_taken : starts_with content text ≡ true → long ≤ length content → Best contents text (row - 1) (Some (row - 1)) (length content)
    best_taken e l = record { is = one_more true e ∙ rw b.is (ap Some (go best b.size)); size = refl }
      where
        go : (f : Option ℕ) → long ≡ length_of (held contents f) → longer (row - 1, content) (held contents f) ≡ (row - 1, content)
        go None q = refl
        go (Some other) q = rw (le-leb (length (get_or contents other [])) (length content) (omega arith))

    pub best_short : length content < long → Best contents text (row - 1) best long
    best_short l = ⊎_elim stands (λ e. best_apart e) (either (starts_with content text))
      where
        go : (f : Option ℕ) → long ≡ length_of (held contents f) → Some (longer (row - 1, content) (held contents f)) ≡ held contents f
        go None q = absurd (omega arith)
        go (Some other) q = rw (lt-leb (length (get_or contents other [])) (length content) (omega arith))

        stands : starts_with content text ≡ true → Best contents text (row - 1) best long
        stands e = record { is = one_more true e ∙ rw b.is (go best b.size); size = b.size }

-- ---- the leftmost place

module _ (begins : List ℕ) (contents : List (List ℕ)) (text : List ℕ) (place : ℕ) where
  pub match_next : place < length text
      → match_by begins contents place (drop place text) ≡ placed place (row_by begins contents (drop place text)) (match_by begins contents (place + 1) (drop (place + 1) text))
  match_next h = rw (drop-cons text place 0 h, add-one)

  pub match_ended : length text ≤ place → match_by begins contents place (drop place text) ≡ None
  match_ended h = rw (drop_of_length-le text h)

-- ---- with a sound row nothing is passed over

no_empty : (contents : List (List ℕ)) → bad_token contents ≡ false → any is_empty contents ≡ false
unfolding bad_token empty_or_no_text
no_empty [] e = refl
no_empty (c ∷ contents) e = rw (or_left (is_empty c) _ (or_left (empty_or_no_text c) (any empty_or_no_text contents) e)) (no_empty contents (or_right (empty_or_no_text c) (any empty_or_no_text contents) e))

none_stands : (contents : List (List ℕ)) (p b : ℕ) (text : List ℕ) → any is_empty contents ≡ false → any (begins_with b) contents ≡ false
    → filter (λ (c : ℕ × List ℕ). starts_with c.1 (b ∷ text)) (numbered_from p contents) ≡ []
none_stands [] p b text e f = refl
none_stands ([] ∷ contents) p b text e f = clash e refl
none_stands ((x ∷ c) ∷ contents) p b text e f =
    rw (or_left (eqb x b) (any (begins_with b) contents) f) (none_stands contents (suc p) b text e (or_right (eqb x b) (any (begins_with b) contents) f))

none-longest : (contents : List (List ℕ)) (b : ℕ) (text : List ℕ) → any is_empty contents ≡ false → any (begins_with b) contents ≡ false → longest_at contents (b ∷ text) ≡ None
unfolding longest_at
none-longest contents b text e f = ap longest (none_stands contents 0 b text e f)

-- A search that passes over what a sound row rules out finds the first match.
pub match_first : (begins : List ℕ) (contents : List (List ℕ)) → Sound begins contents → bad_token contents ≡ false
    → (place : ℕ) (text : List ℕ) → match_by begins contents place text ≡ first_match contents place text
unfolding row_at
match_first begins contents sound fine place [] = refl
match_first begins contents sound fine place (b ∷ text) = go (may_begin begins b) refl (match_first begins contents sound fine (suc place) text)
  where
    same_match : (l : Option (ℕ × List ℕ)) {x y : Option Match} → x ≡ y → placed place (row_in l) x ≡ match_or place l y
    same_match None e = e
    same_match (Some c) e = refl

    go : (t : Bool) → may_begin begins b ≡ t → match_by begins contents (suc place) text ≡ first_match contents (suc place) text
        → placed place (cond t (row_at contents (b ∷ text)) None) (match_by begins contents (suc place) text) ≡ match_or place (longest_at contents (b ∷ text)) (first_match contents (suc place) text)
    go true q e = same_match (longest_at contents (b ∷ text)) e
    go false q e = rw (none-longest contents b text (no_empty contents fine) (sound.none_begins b q)) e
