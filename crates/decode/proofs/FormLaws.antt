-- Laws of characters by the form of their first byte: what can still become a character, and what the next byte makes of it. Assumes nothing.
use Prim.Native.Nat.{ℕ, zero, suc, ◌+◌, ◌≤◌, ◌<◌}
use native.Mathlib.Omega.{arith}
use mathlib.Core.Path.{◌≡◌, refl, sym, ap, ap₂, ◌∙◌}
use mathlib.Core.Bool.{Bool, true, false, not, cond, ◌&&◌, ◌||◌, or-false}
use mathlib.Core.Logic.{◌⊎◌, inl, inr, ⊎_elim}
use mathlib.Core.List.{List, [], ◌∷◌, ◌++◌}
use borrow.Author.Tests.{leb-true, leb-false, eqb-true, lt-ltb, lt-leb, not-false}
use lib.Dec.{ltb, leb, eqb, leb-suc-suc}
use lib.ListN.{length, drop, get_or, length-append}
use Rattle.utf8.specs.Lists.{all, Range, within}
use Rattle.utf8.specs.Chars.{tail, char_forms, has_form, width_among, char_width, is_char}
use Rattle.utf8.proofs.Tests.{either, clash, and_left, and_right, and_both, or_also, within_low, within-high, within_in}
use Rattle.utf8.proofs.Places.{all_holds}
use Rattle.utf8.proofs.Forms.{begins_apart, apart, first_of, inside, within-apart, width_among-apart, none_in_empty}
use Rattle.utf8.proofs.Characters.{char_width-nil}
use Rattle.decode.specs.inner.Feeding.{form_among, form_of, begins_form, is_open, is_broken}

abbrev Form : Type 0
Form = List Range

-- ---- the form of a byte

among_apart : (range : Range) (forms : List Form) → all (begins_apart range) forms ≡ true → (b : ℕ) → within range b ≡ true → form_among forms b ≡ []
among_apart range [] e b h = refl
among_apart range ([] ∷ forms) e b h = clash refl e
among_apart range ((first ∷ form) ∷ forms) e b h =
    let here = and_left (begins_apart range (first ∷ form)) (all (begins_apart range) forms) e in
    let rest = and_right (begins_apart range (first ∷ form)) (all (begins_apart range) forms) e in
    ap (λ (d : Bool). cond d (first ∷ form) (form_among forms b)) (within-apart range first form b here h) ∙ among_apart range forms rest b h

-- Of forms that begin apart only one can begin with the byte.
among_lead : (forms : List Form) → apart forms ≡ true → (k b : ℕ) → within (first_of (get_or forms k [])) b ≡ true → form_among forms b ≡ get_or forms k []
among_lead [] e k b h = refl
among_lead ([] ∷ forms) e k b h = clash refl e
among_lead ((first ∷ form) ∷ forms) e zero b h = ap (λ (d : Bool). cond d (first ∷ form) (form_among forms b)) h
among_lead ((first ∷ form) ∷ forms) e (suc k) b h =
    let later = among_lead forms (and_right (all (begins_apart first) forms) (apart forms) e) k b h in
    ⊎_elim (both later) (λ i. ap (λ (d : Bool). cond d (first ∷ form) (form_among forms b)) i ∙ later) (either (within first b))
  where
    both : form_among forms b ≡ get_or forms k [] → within first b ≡ true → form_among ((first ∷ form) ∷ forms) b ≡ get_or forms k []
    both later i =
        let none = among_apart first forms (and_left (all (begins_apart first) forms) (apart forms) e) b i in
        none_in_empty b (ap (λ (f : Form). within (first_of f) b) (sym none ∙ later) ∙ h)

width_among_lem : (forms : List Form) → apart forms ≡ true
    → (b : ℕ) (t : List ℕ) → width_among forms (b ∷ t) ≡ cond (has_form (form_among forms b) (b ∷ t)) (length (form_among forms b)) 0
width_among_lem [] e b t = refl
width_among_lem ([] ∷ forms) e b t = clash refl e
width_among_lem ((first ∷ form) ∷ forms) e b t = ⊎_elim hit (miss (width_among_lem forms (and_right (all (begins_apart first) forms) (apart forms) e) b t)) (either (within first b))
  where
    none : within first b ≡ true → width_among forms (b ∷ t) ≡ 0
    none i = width_among-apart first forms (and_left (all (begins_apart first) forms) (apart forms) e) b t i

    hit : within first b ≡ true
        → width_among ((first ∷ form) ∷ forms) (b ∷ t)
        ≡ cond (has_form (form_among ((first ∷ form) ∷ forms) b) (b ∷ t)) (length (form_among ((first ∷ form) ∷ forms) b)) 0
    hit i = rw (i, none i) (rw i)

    miss : width_among forms (b ∷ t) ≡ cond (has_form (form_among forms b) (b ∷ t)) (length (form_among forms b)) 0
        → within first b ≡ false
        → width_among ((first ∷ form) ∷ forms) (b ∷ t)
        ≡ cond (has_form (form_among ((first ∷ form) ∷ forms) b) (b ∷ t)) (length (form_among ((first ∷ form) ∷ forms) b)) 0
    miss ih i = rw i ih

-- The form that is found passes what all pass, and the byte lies in its first range.
among_passes : (test : Form → Bool) (forms : List Form) → test [] ≡ true → all test forms ≡ true → (b : ℕ) → test (form_among forms b) ≡ true
among_passes test [] none e b = none
among_passes test ([] ∷ forms) none e b = among_passes test forms none (and_right (test []) (all test forms) e) b
among_passes test ((first ∷ form) ∷ forms) none e b = go (within first b) (among_passes test forms none (and_right (test (first ∷ form)) (all test forms) e) b)
  where
    go : (d : Bool) → test (form_among forms b) ≡ true → test (cond d (first ∷ form) (form_among forms b)) ≡ true
    go true later = and_left (test (first ∷ form)) (all test forms) e
    go false later = later

among_first : (forms : List Form) (b : ℕ) → 0 < length (form_among forms b) → within (first_of (form_among forms b)) b ≡ true
among_first [] b pos = absurd (omega arith)
among_first ([] ∷ forms) b pos = among_first forms b pos
among_first ((first ∷ form) ∷ forms) b pos = go (within first b) refl (among_first forms b) pos
  where
    go : (d : Bool) → within first b ≡ d → (0 < length (form_among forms b) → within (first_of (form_among forms b)) b ≡ true)
        → 0 < length (cond d (first ∷ form) (form_among forms b)) → within (first_of (cond d (first ∷ form) (form_among forms b))) b ≡ true
    go true i later pos = i
    go false i later pos = later pos

pub width_by_form : (b : ℕ) (t : List ℕ) → char_width (b ∷ t) ≡ cond (has_form (form_of b) (b ∷ t)) (length (form_of b)) 0
unfolding char_width char_forms form_of
width_by_form b t = width_among_lem char_forms refl b t

pub form_lead : (k b : ℕ) → within (first_of (get_or char_forms k [])) b ≡ true → form_of b ≡ get_or char_forms k []
unfolding char_forms form_of
form_lead k b h = among_lead char_forms refl k b h

pub form-apart : (range : Range) → all (begins_apart range) char_forms ≡ true → (b : ℕ) → within range b ≡ true → form_of b ≡ []
unfolding form_of
form-apart range e b h = among_apart range char_forms e b h

pub ascii_form : (b : ℕ) → b ≤ 0x7F → form_of b ≡ ((0x00, 0x7F) ∷ [])
unfolding char_forms
ascii_form b h = form_lead 0 b (within_in (0x00, 0x7F) b (omega arith) h)

form-first : (b : ℕ) → 0 < length (form_of b) → within (first_of (form_of b)) b ≡ true
unfolding form_of
form-first b pos = among_first char_forms b pos

form_short : (b : ℕ) → length (form_of b) ≤ 4
unfolding char_forms form_of
form_short b = leb-true (length (form_of b)) 4 (among_passes (λ (form : Form). leb (length form) 4) char_forms refl refl b)

-- ---- bytes that a form begins with

begins_short : (form : Form) (t : List ℕ) → begins_form form t ≡ true → length t < length form
begins_short [] t e = clash refl e
begins_short (range ∷ form) [] e = omega arith
begins_short (range ∷ form) (b ∷ t) e = omega (arith, begins_short form t (and_right (within range b) (begins_form form t) e))

begins_lacks : (form : Form) (t : List ℕ) → begins_form form t ≡ true → has_form form t ≡ false
begins_lacks [] t e = clash refl e
begins_lacks (range ∷ form) [] e = refl
begins_lacks (range ∷ form) (b ∷ t) e =
    rw (and_left (within range b) (begins_form form t) e) (begins_lacks form t (and_right (within range b) (begins_form form t) e))

-- What has the form with more bytes behind it has it, or begins it.
has_front : (form : Form) (t more : List ℕ) → has_form form (t ++ more) ≡ true → (has_form form t || begins_form form t) ≡ true
has_front [] t more e = refl
has_front (range ∷ form) [] more e = refl
has_front (range ∷ form) (b ∷ t) more e =
    let here = and_left (within range b) (has_form form (t ++ more)) e in
    rw here (has_front form t more (and_right (within range b) (has_form form (t ++ more)) e))

-- What one byte more makes of them: it lies in the next range, and then the form goes on or is whole.
module _ (b : ℕ) where
  begins_next : (form : Form) (h : List ℕ) → begins_form form h ≡ true
      → begins_form form (h ++ (b ∷ [])) ≡ (within (get_or form (length h) (1, 0)) b && ltb (suc (length h)) (length form))
  begins_next [] h e = clash refl e
  begins_next (range ∷ []) [] e = refl
  begins_next (range ∷ next ∷ form) [] e = ap (λ (d : Bool). within range b && d) (sym (lt-ltb 1 (suc (suc (length form))) (omega arith)))
  begins_next (range ∷ form) (c ∷ h) e =
      let here = and_left (within range c) (begins_form form h) e in
      rw (here, leb-suc-suc (suc (suc (length h))) (length form)) (begins_next form h (and_right (within range c) (begins_form form h) e))

  has_next : (form : Form) (h : List ℕ) → begins_form form h ≡ true
      → has_form form (h ++ (b ∷ [])) ≡ (within (get_or form (length h) (1, 0)) b && leb (length form) (suc (length h)))
  has_next [] h e = clash refl e
  has_next (range ∷ []) [] e = refl
  has_next (range ∷ next ∷ form) [] e = ap (λ (d : Bool). within range b && d) (sym (lt-leb (suc (suc (length form))) 1 (omega arith)))
  has_next (range ∷ form) (c ∷ h) e =
      let here = and_left (within range c) (begins_form form h) e in
      rw (here, leb-suc-suc (length form) (suc (length h))) (has_next form h (and_right (within range c) (begins_form form h) e))

  next-within : (form : Form) (h : List ℕ) → begins_form form h ≡ true
      → (begins_form form (h ++ (b ∷ [])) || has_form form (h ++ (b ∷ []))) ≡ within (get_or form (length h) (1, 0)) b
  next-within form h e = rw (begins_next form h e, has_next form h e) (go (within (get_or form (length h) (1, 0)) b) (either (leb (length form) (suc (length h)))))
    where
      go : (d : Bool) → (leb (length form) (suc (length h)) ≡ true) ⊎ (leb (length form) (suc (length h)) ≡ false)
          → ((d && ltb (suc (length h)) (length form)) || (d && leb (length form) (suc (length h)))) ≡ d
      go false fits = refl
      go true (inl i) = or_also (ltb (suc (length h)) (length form)) i
      go true (inr i) = rw (lt-ltb (suc (length h)) (length form) (leb-false (length form) (suc (length h)) i))

-- Where the later ranges of a form lie within another, so do the bytes.
begins_inside : (outer : Range) (form : Form) (t : List ℕ) → all (inside outer) form ≡ true → begins_form form t ≡ true → all (within outer) t ≡ true
begins_inside outer form [] e h = refl
begins_inside outer [] (b ∷ t) e h = clash refl h
begins_inside outer (range ∷ form) (b ∷ t) e h =
    let fits = and_left (inside outer range) (all (inside outer) form) e in
    let here = and_left (within range b) (begins_form form t) h in
    let low = leb-true outer.0 range.0 (and_left (leb outer.0 range.0) (leb range.1 outer.1) fits) in
    let high = leb-true range.1 outer.1 (and_right (leb outer.0 range.0) (leb range.1 outer.1) fits) in
    and_both
    (within_in outer b (omega (arith, within_low range b here)) (omega (arith, within-high range b here)))
    (begins_inside outer form t (and_right (inside outer range) (all (inside outer) form) e) (and_right (within range b) (begins_form form t) h))

-- ---- what can still become a character

pub open_width : (t : List ℕ) → is_open t ≡ true → char_width t ≡ 0
unfolding is_open
open_width [] e = char_width-nil
open_width (b ∷ t) e = width_by_form b t ∙ rw (begins_lacks (form_of b) (b ∷ t) e)

pub open_tails : (a : ℕ) (t : List ℕ) → is_open (a ∷ t) ≡ true → all (within tail) t ≡ true
unfolding char_forms form_of is_open
open_tails a t e = go (form_of a) (among_passes (λ (form : Form). all (inside tail) (drop 1 form)) char_forms refl refl a) e
  where
    go : (form : Form) → all (inside tail) (drop 1 form) ≡ true → begins_form form (a ∷ t) ≡ true → all (within tail) t ≡ true
    go [] i h = clash refl h
    go (first ∷ form) i h = begins_inside tail form t i (and_right (within first a) (begins_form form t) h)

pub open_short : (t : List ℕ) → is_open t ≡ true → length t ≤ 3
unfolding is_open
open_short [] e = omega arith
open_short (b ∷ t) e = omega (arith, begins_short (form_of b) (b ∷ t) e, form_short b)

pub open_first : (b : ℕ) → is_open (b ∷ []) ≡ ltb 1 (length (form_of b))
unfolding is_open
open_first b = go (form_of b) (form-first b)
  where
    go : (form : Form) → (0 < length form → within (first_of form) b ≡ true) → begins_form form (b ∷ []) ≡ ltb 1 (length form)
    go [] i = refl
    go (first ∷ []) i = rw (i (omega arith))
    go (first ∷ second ∷ form) i = rw (i (omega arith)) (sym (lt-ltb 1 (suc (suc (length form))) (omega arith)))

form-begun : (a : ℕ) (t : List ℕ) → is_open (a ∷ t) ≡ true → begins_form (form_of a) (a ∷ t) ≡ true
unfolding is_open
form-begun a t e = e

-- A byte behind what is open.
module _ (a b : ℕ) (t : List ℕ) (e : is_open (a ∷ t) ≡ true) where
  char_next : is_char (a ∷ t ++ (b ∷ [])) ≡ has_form (form_of a) (a ∷ t ++ (b ∷ []))
  unfolding is_char
  char_next = ap (ltb 0) (width_by_form a (t ++ (b ∷ []))) ∙ go (has_form (form_of a) (a ∷ t ++ (b ∷ [])))
    where
      go : (d : Bool) → ltb 0 (cond d (length (form_of a)) 0) ≡ d
      go true = lt-ltb 0 (length (form_of a)) (omega (arith, begins_short (form_of a) (a ∷ t) (form-begun a t e)))
      go false = refl

  broken_at : is_broken (a ∷ t) b ≡ not (within (get_or (form_of a) (suc (length t)) (1, 0)) b)
  unfolding is_broken is_open
  broken_at = rw char_next (ap not (next-within b (form_of a) (a ∷ t) (form-begun a t e)))

  -- Where it makes a character, the character is all of it.
  pub whole_length : is_char (a ∷ t ++ (b ∷ [])) ≡ true → char_width (a ∷ t ++ (b ∷ [])) ≡ length (a ∷ t ++ (b ∷ []))
  whole_length h =
      let has = sym char_next ∙ h in
      let fits = within (get_or (form_of a) (suc (length t)) (1, 0)) b in
      let last = and_right fits (leb (length (form_of a)) (suc (suc (length t)))) (sym (has_next b (form_of a) (a ∷ t) (form-begun a t e)) ∙ has) in
      let long = leb-true (length (form_of a)) (suc (suc (length t))) last in
      let wide : char_width (a ∷ t ++ (b ∷ [])) ≡ length (form_of a) = width_by_form a (t ++ (b ∷ [])) ∙ rw has in
      omega (arith, begins_short (form_of a) (a ∷ t) (form-begun a t e), length-append t (b ∷ []))

pub broken_none : (b : ℕ) → is_broken [] b ≡ false
unfolding is_broken
broken_none b = refl

pub broken_second : (a b : ℕ) → is_open (a ∷ []) ≡ true → is_broken (a ∷ []) b ≡ not (within (get_or (form_of a) 1 (1, 0)) b)
broken_second a b e = broken_at a b [] e

-- Two ranges with the same bounds.
abbrev equal : Range → Range → Bool
equal range other = eqb range.0 other.0 && eqb range.1 other.1

later_tail : (form : Form) (i b : ℕ) → all (equal tail) (drop 2 form) ≡ true → suc (suc i) < length form → within (get_or form (suc (suc i)) (1, 0)) b ≡ within tail b
later_tail [] i b e h = absurd (omega arith)
later_tail (first ∷ []) i b e h = absurd (omega arith)
later_tail (first ∷ second ∷ form) i b e h =
    let range = get_or form i (1, 0) in
    let here = all_holds (equal tail) form i (1, 0) e (omega arith) in
    let low = eqb-true 0x80 range.0 (and_left (eqb 0x80 range.0) (eqb 0xBF range.1) here) in
    let high = eqb-true 0xBF range.1 (and_right (eqb 0x80 range.0) (eqb 0xBF range.1) here) in
    ap₂ (λ (l h : ℕ). leb l b && leb b h) (sym low) (sym high)

-- From its third on, every range of every form is that of the UTF8-tails.
form_tails : (a : ℕ) → all (equal tail) (drop 2 (form_of a)) ≡ true
unfolding char_forms form_of
form_tails a = among_passes (λ (form : Form). all (equal tail) (drop 2 form)) char_forms refl refl a

pub broken_later : (a c b : ℕ) (t : List ℕ) → is_open (a ∷ c ∷ t) ≡ true → is_broken (a ∷ c ∷ t) b ≡ not (within tail b)
broken_later a c b t e =
    broken_at a b (c ∷ t) e
    ∙ ap not (later_tail (form_of a) (length t) b (form_tails a) (begins_short (form_of a) (a ∷ c ∷ t) (form-begun a (c ∷ t) e)))

pub open_later : (a b : ℕ) (t : List ℕ) → is_open (a ∷ t) ≡ true → is_broken (a ∷ t) b ≡ false → is_open ((a ∷ t) ++ (b ∷ [])) ≡ ltb (length t + 2) (length (form_of a))
unfolding is_open
open_later a b t e whole =
    let inside = not-false (within (get_or (form_of a) (suc (length t)) (1, 0)) b) (sym (broken_at a b t e) ∙ whole) in
    let two : length t + 2 ≡ suc (suc (length t)) = omega arith in
    begins_next b (form_of a) (a ∷ t) e ∙ rw (inside, two)

pub whole_later : (h : List ℕ) (b : ℕ) → 0 < length h → is_broken h b ≡ false → is_open (h ++ (b ∷ [])) ≡ false → is_char (h ++ (b ∷ [])) ≡ true
unfolding is_broken
whole_later [] b pos whole shut = absurd (omega arith)
whole_later (a ∷ t) b pos whole shut = rw shut at (not-false (is_open (a ∷ t ++ (b ∷ [])) || is_char (a ∷ t ++ (b ∷ []))) whole)

-- Where no character stands at the head and none can begin there, more bytes make none.
pub stray_alone : (t ys : List ℕ) → 0 < length t → is_open t ≡ false → char_width t ≡ 0 → char_width (t ++ ys) ≡ 0
unfolding is_open
stray_alone [] ys pos shut none = absurd (omega arith)
stray_alone (b ∷ t) ys pos shut none = ⊎_elim has (λ h. width_by_form b (t ++ ys) ∙ rw h) (either (has_form (form_of b) (b ∷ t ++ ys)))
  where
    has : has_form (form_of b) (b ∷ t ++ ys) ≡ true → char_width (b ∷ t ++ ys) ≡ 0
    has h =
        let front : has_form (form_of b) (b ∷ t) ≡ true = sym (or-false (has_form (form_of b) (b ∷ t))) ∙ rw shut at (has_front (form_of b) (b ∷ t) ys h) in
        let empty : length (form_of b) ≡ 0 = rw front at (sym (width_by_form b t) ∙ none) in
        width_by_form b (t ++ ys) ∙ rw h empty
