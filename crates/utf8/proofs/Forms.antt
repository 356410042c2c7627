-- Laws of a table of forms: what the bytes at the head of a text can be, by the table's ranges alone. Assumes nothing.
use Prim.Native.Nat.{ℕ, zero, suc, ◌≤◌, ◌<◌, zero-le, suc-le-suc}
use native.Mathlib.Nat.{not-suc-le-zero, le_of_suc-le-suc}
use native.Mathlib.Omega.{arith}
use mathlib.Core.Path.{◌≡◌, refl, sym, ap, ap₂, ◌∙◌}
use mathlib.Core.Bool.{Bool, true, false, not, cond, ◌&&◌, ◌||◌}
use mathlib.Core.Logic.{⊎_elim}
use mathlib.Core.List.{List, [], ◌∷◌, ◌++◌}
use borrow.Author.Tests.{ltb-true, leb-true, eq-eqb}
use lib.Dec.{ltb, leb, eqb}
use lib.ListN.{length, take, drop, get_or, length-drop, take-append-drop}
use lib.Seq.{drop-cons}
use Rattle.utf8.specs.Lists.{Range, within, all}
use Rattle.utf8.specs.Chars.{has_form, width_among}
use Rattle.utf8.proofs.Tests.{either, clash, and_left, and_right, and_both, within_low, within-high, within_in, within-below, within_above}

abbrev Form : Type 0
Form = List Range

-- The width of a table with one form more, by whether the bytes have it.
width_hit : (form : Form) (forms : List Form) (t : List ℕ) → has_form form t ≡ true → width_among (form ∷ forms) t ≡ length form
width_hit form forms t e = ap (λ (b : Bool). cond b (length form) (width_among forms t)) e

width_miss : (form : Form) (forms : List Form) (t : List ℕ) → has_form form t ≡ false → width_among (form ∷ forms) t ≡ width_among forms t
width_miss form forms t e = ap (λ (b : Bool). cond b (length form) (width_among forms t)) e

pub has_form-length : (form : Form) (t : List ℕ) → has_form form t ≡ true → length form ≤ length t
has_form-length [] t e = zero-le
has_form-length (range ∷ form) [] e = clash refl e
has_form-length (range ∷ form) (b ∷ t) e = suc-le-suc (has_form-length form t (and_right (within range b) (has_form form t) e))

-- What holds of the table's width where the bytes have the first form, and where they do not, holds.
by_first {ℓ} : (P : ℕ → Type ℓ) (form : Form) (forms : List Form) (t : List ℕ)
    → (has_form form t ≡ true → P (length form))
    → (has_form form t ≡ false → P (width_among forms t))
    → P (width_among (form ∷ forms) t)
by_first P form forms t hit miss = go (has_form form t) hit miss
  where
    go : (b : Bool) → (b ≡ true → P (length form)) → (b ≡ false → P (width_among forms t)) → P (cond b (length form) (width_among forms t))
    go true hit miss = hit refl
    go false hit miss = miss refl

pub width_among-le-length : (forms : List Form) (t : List ℕ) → width_among forms t ≤ length t
width_among-le-length [] t = zero-le
width_among-le-length (form ∷ forms) t =
    by_first (λ (n : ℕ). n ≤ length t) form forms t (has_form-length form t) (λ _. width_among-le-length forms t)

-- No width is above that of the widest form.
pub width_among-le : (n : ℕ) (forms : List Form) → all (λ (form : Form). leb (length form) n) forms ≡ true → (t : List ℕ) → width_among forms t ≤ n
width_among-le n [] e t = zero-le
width_among-le n (form ∷ forms) e t =
    let rest = all (λ (form : Form). leb (length form) n) forms in
    by_first (λ (w : ℕ). w ≤ n) form forms t
    (λ _. leb-true (length form) n (and_left (leb (length form) n) rest e))
    (λ _. width_among-le n forms (and_right (leb (length form) n) rest e) t)

-- What lies past a form's bytes does not matter to it.
has_form-take : (form : Form) (t : List ℕ) (n : ℕ) → length form ≤ n → has_form form (take n t) ≡ has_form form t
has_form-take [] t n h = refl
has_form-take (range ∷ form) t zero h = absurd (not-suc-le-zero h)
has_form-take (range ∷ form) [] (suc n) h = refl
has_form-take (range ∷ form) (b ∷ t) (suc n) h = ap (λ (d : Bool). within range b && d) (has_form-take form t n (le_of_suc-le-suc h))

has_form-append : (form : Form) (p r : List ℕ) → has_form form p ≡ true → has_form form (p ++ r) ≡ true
has_form-append [] p r e = refl
has_form-append (range ∷ form) [] r e = clash refl e
has_form-append (range ∷ form) (b ∷ p) r e =
    and_both (and_left (within range b) (has_form form p) e)
    (has_form-append form p r (and_right (within range b) (has_form form p) e))

has_form_of_take : (form : Form) (t : List ℕ) (n : ℕ) → has_form form t ≡ false → has_form form (take n t) ≡ false
has_form_of_take form t n e =
    ⊎_elim
    (λ h. clash e (rw (take-append-drop n t) at (has_form-append form (take n t) (drop n t) h)))
    (λ h. h)
    (either (has_form form (take n t)))

-- A front that holds the character at the head has its width.
pub width_among-take : (forms : List Form) (t : List ℕ) (n : ℕ) → width_among forms t ≤ n → width_among forms (take n t) ≡ width_among forms t
width_among-take [] t n h = refl
width_among-take (form ∷ forms) t n h = ⊎_elim hit (miss (width_among-take forms t n)) (either (has_form form t))
  where
    hit : has_form form t ≡ true → width_among (form ∷ forms) (take n t) ≡ width_among (form ∷ forms) t
    hit e =
        let here = width_hit form forms t e in
        let same = has_form-take form t n (omega arith) in
        width_hit form forms (take n t) (same ∙ e) ∙ sym here

    miss : (width_among forms t ≤ n → width_among forms (take n t) ≡ width_among forms t)
        → has_form form t ≡ false → width_among (form ∷ forms) (take n t) ≡ width_among (form ∷ forms) t
    miss ih e =
        let here = width_miss form forms t e in
        width_miss form forms (take n t) (has_form_of_take form t n e) ∙ ih (omega arith) ∙ sym here

-- The form's bytes begin outside the range.
abbrev pub begins_apart : Range → Form → Bool
begins_apart range [] = false
begins_apart range (first ∷ form) = ltb range.1 first.0 || ltb first.1 range.0

-- No two forms can begin with the same byte.
abbrev pub apart : List Form → Bool
apart [] = true
apart ([] ∷ forms) = false
apart ((first ∷ form) ∷ forms) = all (begins_apart first) forms && apart forms

pub within-apart : (range first : Range) (form : Form) (b : ℕ) → begins_apart range (first ∷ form) ≡ true → within range b ≡ true → within first b ≡ false
within-apart range first form b e h = ⊎_elim low high (either (ltb range.1 first.0))
  where
    low : ltb range.1 first.0 ≡ true → within first b ≡ false
    low l = within-below first b (omega (arith, ltb-true range.1 first.0 l, within-high range b h))

    high : ltb range.1 first.0 ≡ false → within first b ≡ false
    high l =
        let l' : ltb first.1 range.0 ≡ true = rw l at e in
        within_above first b (omega (arith, ltb-true first.1 range.0 l', within_low range b h))

-- A byte of a range that no form begins in begins no character.
pub width_among-apart : (range : Range) (forms : List Form) → all (begins_apart range) forms ≡ true
    → (b : ℕ) (t : List ℕ) → within range b ≡ true → width_among forms (b ∷ t) ≡ 0
width_among-apart range [] e b t h = refl
width_among-apart range ([] ∷ forms) e b t h = clash refl e
width_among-apart range ((first ∷ form) ∷ forms) e b t h =
    let here = and_left (begins_apart range (first ∷ form)) (all (begins_apart range) forms) e in
    let rest = and_right (begins_apart range (first ∷ form)) (all (begins_apart range) forms) e in
    width_miss (first ∷ form) forms (b ∷ t) (ap (λ (d : Bool). d && has_form form t) (within-apart range first form b here h))
    ∙ width_among-apart range forms rest b t h

abbrev pub first_of : Form → Range
first_of [] = (1, 0)
first_of (first ∷ form) = first

pub none_in_empty {ℓ} : {A : Type ℓ} (b : ℕ) → within (1, 0) b ≡ true → A
none_in_empty b h = absurd (omega (arith, within_low (1, 0) b h, within-high (1, 0) b h))

apart-at : (range : Range) (forms : List Form) → all (begins_apart range) forms ≡ true
    → (k b : ℕ) → within (first_of (get_or forms k [])) b ≡ true → within range b ≡ false
apart-at range [] e k b h = none_in_empty b h
apart-at range ([] ∷ forms) e k b h = clash refl e
apart-at range ((first ∷ form) ∷ forms) e zero b h =
    let here = and_left (begins_apart range (first ∷ form)) (all (begins_apart range) forms) e in
    ⊎_elim (λ i. clash (within-apart range first form b here i) h) (λ i. i) (either (within range b))
apart-at range ((first ∷ form) ∷ forms) e (suc k) b h =
    apart-at range forms (and_right (begins_apart range (first ∷ form)) (all (begins_apart range) forms) e) k b h

-- By its first byte a character can have one form only: the one that begins with the byte.
pub width_among_lead : (forms : List Form) → apart forms ≡ true
    → (k b : ℕ) (t : List ℕ) → within (first_of (get_or forms k [])) b ≡ true
    → width_among forms (b ∷ t) ≡ cond (has_form (drop 1 (get_or forms k [])) t) (length (get_or forms k [])) 0
width_among_lead [] e k b t h = none_in_empty b h
width_among_lead ([] ∷ forms) e k b t h = clash refl e
width_among_lead ((first ∷ form) ∷ forms) e zero b t h =
    ap₂ (λ (d : Bool) (w : ℕ). cond (d && has_form form t) (suc (length form)) w) h
    (width_among-apart first forms (and_left (all (begins_apart first) forms) (apart forms) e) b t h)
width_among_lead ((first ∷ form) ∷ forms) e (suc k) b t h =
    let other = apart-at first forms (and_left (all (begins_apart first) forms) (apart forms) e) k b h in
    width_miss (first ∷ form) forms (b ∷ t) (ap (λ (d : Bool). d && has_form form t) other)
    ∙ width_among_lead forms (and_right (all (begins_apart first) forms) (apart forms) e) k b t h

width_among-nil : (forms : List Form) → apart forms ≡ true → width_among forms [] ≡ 0
width_among-nil [] e = refl
width_among-nil ([] ∷ forms) e = clash refl e
width_among-nil ((first ∷ form) ∷ forms) e = width_among-nil forms (and_right (all (begins_apart first) forms) (apart forms) e)

-- What follows a whole character does not change it.
pub width_among-append : (forms : List Form) → apart forms ≡ true
    → (p r : List ℕ) → 0 < width_among forms p → width_among forms (p ++ r) ≡ width_among forms p
width_among-append forms e [] r h = absurd (omega (arith, width_among-nil forms e))
width_among-append [] e (b ∷ p) r h = refl
width_among-append ([] ∷ forms) e (b ∷ p) r h = clash refl e
width_among-append ((first ∷ form) ∷ forms) e (b ∷ p) r h =
    ⊎_elim ours (others (width_among-append forms (and_right (all (begins_apart first) forms) (apart forms) e) (b ∷ p) r))
    (either (within first b))
  where
    whole : Form
    whole = first ∷ form

    ours : within first b ≡ true → width_among (whole ∷ forms) (b ∷ p ++ r) ≡ width_among (whole ∷ forms) (b ∷ p)
    ours i = ⊎_elim has lacks (either (has_form whole (b ∷ p)))
      where
        has : has_form whole (b ∷ p) ≡ true → width_among (whole ∷ forms) (b ∷ p ++ r) ≡ width_among (whole ∷ forms) (b ∷ p)
        has f = width_hit whole forms (b ∷ p ++ r) (has_form-append whole (b ∷ p) r f) ∙ sym (width_hit whole forms (b ∷ p) f)

        lacks : has_form whole (b ∷ p) ≡ false → width_among (whole ∷ forms) (b ∷ p ++ r) ≡ width_among (whole ∷ forms) (b ∷ p)
        lacks f =
            let none = width_among-apart first forms (and_left (all (begins_apart first) forms) (apart forms) e) b p i in
            absurd (omega (arith, h, width_miss whole forms (b ∷ p) f, none))

    others : (0 < width_among forms (b ∷ p) → width_among forms (b ∷ p ++ r) ≡ width_among forms (b ∷ p))
        → within first b ≡ false → width_among (whole ∷ forms) (b ∷ p ++ r) ≡ width_among (whole ∷ forms) (b ∷ p)
    others ih i =
        let miss = width_miss whole forms (b ∷ p) (ap (λ (d : Bool). d && has_form form p) i) in
        width_miss whole forms (b ∷ p ++ r) (ap (λ (d : Bool). d && has_form form (p ++ r)) i) ∙ ih (omega arith) ∙ sym miss

-- The range lies within the other.
abbrev pub inside : Range → Range → Bool
inside outer range = leb outer.0 range.0 && leb range.1 outer.1

within_inside : (outer range : Range) (b : ℕ) → inside outer range ≡ true → within range b ≡ true → within outer b ≡ true
within_inside outer range b e h =
    let low = leb-true outer.0 range.0 (and_left (leb outer.0 range.0) (leb range.1 outer.1) e) in
    let high = leb-true range.1 outer.1 (and_right (leb outer.0 range.0) (leb range.1 outer.1) e) in
    within_in outer b (omega (arith, within_low range b h)) (omega (arith, within-high range b h))

has_form_keeps : (outer : Range) (form : Form) → all (inside outer) form ≡ true
    → (q r : List ℕ) → has_form (outer ∷ []) r ≡ false → has_form form (q ++ r) ≡ has_form form q
has_form_keeps outer [] e q r h = refl
has_form_keeps outer (range ∷ form) e [] [] h = refl
has_form_keeps outer (range ∷ form) e [] (b ∷ r) h = ⊎_elim (λ i. clash h (and_both (into i) refl)) out (either (within range b))
  where
    into : within range b ≡ true → within outer b ≡ true
    into i = within_inside outer range b (and_left (inside outer range) (all (inside outer) form) e) i

    out : within range b ≡ false → (within range b && has_form form r) ≡ false
    out i = ap (λ (d : Bool). d && has_form form r) i
has_form_keeps outer (range ∷ form) e (b ∷ q) r h =
    ap (λ (d : Bool). within range b && d) (has_form_keeps outer form (and_right (inside outer range) (all (inside outer) form) e) q r h)

-- Where every byte of a character but its first lies in a range, what begins outside the range does not change what stands before it.
pub width_among_keeps : (outer : Range) (forms : List Form) → all (λ (form : Form). all (inside outer) (drop 1 form)) forms ≡ true
    → (b : ℕ) (q r : List ℕ) → has_form (outer ∷ []) r ≡ false → width_among forms (b ∷ q ++ r) ≡ width_among forms (b ∷ q)
width_among_keeps outer [] e b q r h = refl
width_among_keeps outer ([] ∷ forms) e b q r h = refl
width_among_keeps outer ((first ∷ form) ∷ forms) e b q r h =
    let rest = all (λ (form : Form). all (inside outer) (drop 1 form)) forms in
    ap₂ (λ (d : Bool) (w : ℕ). cond (within first b && d) (suc (length form)) w)
    (has_form_keeps outer form (and_left (all (inside outer) form) rest e) q r h)
    (width_among_keeps outer forms (and_right (all (inside outer) form) rest e) b q r h)

-- The bounds of the bytes from a place on, by a form.
abbrev pub Bounds : ℕ → Form → List ℕ → Type 0
Bounds i [] t = i ≤ length t
Bounds i (range ∷ form) t = (range.0 ≤ get_or t i 0) × (get_or t i 0 ≤ range.1) × Bounds (suc i) form t

bounds_from : (i : ℕ) (form : Form) (t : List ℕ) → i ≤ length t → has_form form (drop i t) ≡ true → Bounds i form t
bounds_from i [] t h e = h
bounds_from i (range ∷ form) t h e =
    let here : i < length t = omega (arith, has_form-length (range ∷ form) (drop i t) e, length-drop i t) in
    let both : (within range (get_or t i 0) && has_form form (drop (suc i) t)) ≡ true = rw (drop-cons t i 0 here) at e in
    let first = and_left (within range (get_or t i 0)) (has_form form (drop (suc i) t)) both in
    let rest = and_right (within range (get_or t i 0)) (has_form form (drop (suc i) t)) both in
    (within_low range (get_or t i 0) first, within-high range (get_or t i 0) first, bounds_from (suc i) form t here rest)

has_form_inside : (outer : Range) (form : Form) → all (inside outer) form ≡ true
    → (t : List ℕ) → has_form form t ≡ true → (i : ℕ) → i < length form → within outer (get_or t i 0) ≡ true
has_form_inside outer [] e t f i h = absurd (not-suc-le-zero h)
has_form_inside outer (range ∷ form) e [] f i h = clash refl f
has_form_inside outer (range ∷ form) e (b ∷ t) f zero h =
    within_inside outer range b (and_left (inside outer range) (all (inside outer) form) e) (and_left (within range b) (has_form form t) f)
has_form_inside outer (range ∷ form) e (b ∷ t) f (suc i) h =
    has_form_inside outer form (and_right (inside outer range) (all (inside outer) form) e) t
    (and_right (within range b) (has_form form t) f) i (le_of_suc-le-suc h)

-- And every byte of a character but its first does lie in that range.
pub width_among_inside : (outer : Range) (forms : List Form) → all (λ (form : Form). all (inside outer) (drop 1 form)) forms ≡ true
    → (b : ℕ) (t : List ℕ) (i : ℕ) → suc i < width_among forms (b ∷ t) → within outer (get_or t i 0) ≡ true
width_among_inside outer [] e b t i = λ h. absurd (not-suc-le-zero h)
width_among_inside outer ([] ∷ forms) e b t i = λ h. absurd (not-suc-le-zero h)
width_among_inside outer ((first ∷ form) ∷ forms) e b t i =
    by_first (λ (w : ℕ). suc i < w → within outer (get_or t i 0) ≡ true) (first ∷ form) forms (b ∷ t)
    (λ f h. has_form_inside outer form (and_left (all (inside outer) form) rest e) t (and_right (within first b) (has_form form t) f) i (le_of_suc-le-suc h))
    (λ _. width_among_inside outer forms (and_right (all (inside outer) form) rest e) b t i)
  where
    rest : Bool
    rest = all (λ (form : Form). all (inside outer) (drop 1 form)) forms

-- The second form's ranges lie within those of the first, one by one.
abbrev pub covers : Form → Form → Bool
covers [] [] = true
covers [] (range ∷ form) = false
covers (outer ∷ cover) [] = false
covers (outer ∷ cover) (range ∷ form) = inside outer range && covers cover form

has_form_covers : (cover form : Form) → covers cover form ≡ true → (t : List ℕ) → has_form form t ≡ true → has_form cover t ≡ true
has_form_covers [] [] e t h = refl
has_form_covers [] (range ∷ form) e t h = clash refl e
has_form_covers (outer ∷ cover) [] e t h = clash refl e
has_form_covers (outer ∷ cover) (range ∷ form) e [] h = clash refl h
has_form_covers (outer ∷ cover) (range ∷ form) e (b ∷ t) h =
    and_both
    (within_inside outer range b (and_left (inside outer range) (covers cover form) e) (and_left (within range b) (has_form form t) h))
    (has_form_covers cover form (and_right (inside outer range) (covers cover form) e) t (and_right (within range b) (has_form form t) h))

-- Every form that is as long as the cover lies within it.
abbrev pub covers_all : Form → List Form → Bool
covers_all cover [] = true
covers_all cover (form ∷ forms) = (not (eqb (length form) (length cover)) || covers cover form) && covers_all cover forms

-- Of a character's width its bytes' ranges can be told.
width_among_covers : (cover : Form) (forms : List Form) → covers_all cover forms ≡ true → 0 < length cover
    → (t : List ℕ) → width_among forms t ≡ length cover → has_form cover t ≡ true
width_among_covers cover [] e pos t h = absurd (omega arith)
width_among_covers cover (form ∷ forms) e pos t h =
    ⊎_elim hit (miss (width_among_covers cover forms (and_right here (covers_all cover forms) e) pos t)) (either (has_form form t))
  where
    here : Bool
    here = not (eqb (length form) (length cover)) || covers cover form

    hit : has_form form t ≡ true → has_form cover t ≡ true
    hit f =
        let same = eq-eqb (length form) (length cover) (sym (width_hit form forms t f) ∙ h) in
        let covered : covers cover form ≡ true = rw same at (and_left here (covers_all cover forms) e) in
        has_form_covers cover form covered t f

    miss : (width_among forms t ≡ length cover → has_form cover t ≡ true) → has_form form t ≡ false → has_form cover t ≡ true
    miss ih f = ih (sym (width_miss form forms t f) ∙ h)

pub width_among-bounds : (cover : Form) (forms : List Form) → covers_all cover forms ≡ true → 0 < length cover
    → (t : List ℕ) → width_among forms t ≡ length cover → Bounds 0 cover t
width_among-bounds cover forms e pos t h = bounds_from 0 cover t zero-le (width_among_covers cover forms e pos t h)
