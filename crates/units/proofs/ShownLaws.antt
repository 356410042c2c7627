-- Laws of a text as it is spelled, each raw space as the mark: where its parts come from, where it holds no mark. Assumes nothing.
use Prim.Native.Nat.{ℕ, zero, suc}
use native.Mathlib.Nat.{suc-ne-zero}
use mathlib.Core.Path.{◌≡◌, refl, sym, ap, ap₂, ◌∙◌}
use mathlib.Core.Bool.{Bool, true, false, not, cond, ◌&&◌, ◌||◌}
use mathlib.Core.Logic.{◌⊎◌, inl, inr}
use mathlib.Core.List.{List, [], ◌∷◌, ◌++◌, map}
use borrow.Author.Tests.{eqb-true, eq-eqb}
use lib.Dec.{eqb, ltb}
use lib.ListN.{length, drop, get_or}
use lib.Seq.{drop-append_seam}
use Rattle.utf8.specs.Lists.{all, any, join, join_map, count_from, starts_with, ends_with}
use Rattle.utf8.proofs.Lists.{drop-map}
use Rattle.utf8.proofs.Tests.{clash, and_left, and_right, and_both, or_right}
use Rattle.utf8.proofs.Characters.{starts_in_tail}
use Rattle.utf8.proofs.Joins.{append_cancel, join_map-append, starts_rest, ends_append, one_start, begins_between}
use Rattle.model.specs.Mark.{mark, space, mark_width, starts_with_mark, ends_with_mark}
use Rattle.units.specs.Kinds.{holds_mark}

-- A byte as it is spelled.
abbrev pub shown_byte : Bool → ℕ → List ℕ
shown_byte raw b = cond (raw && eqb b 0x20) mark (b ∷ [])

abbrev pub shown : Bool → List ℕ → List ℕ
shown raw bytes = join_map (shown_byte raw) bytes

-- A virtual mark, where there is one.
abbrev pub prefix : Bool → List ℕ
prefix virtual = cond virtual mark []

pub shown-append : (raw : Bool) (s t : List ℕ) → shown raw (s ++ t) ≡ shown raw s ++ shown raw t
shown-append raw s t = join_map-append (shown_byte raw) s t

space-long : length space ≡ 1
unfolding space
space-long = refl

mark-long : length mark ≡ 3
unfolding mark
mark-long = refl

-- A byte is a raw space and spelled as the mark, or stays itself.
data Reading (raw : Bool) (b : ℕ) : Type 0 where
  turned : raw ≡ true → b ≡ 0x20 → shown_byte raw b ≡ mark → Reading raw b
  itself : shown_byte raw b ≡ b ∷ [] → Reading raw b

reading : (raw : Bool) (b : ℕ) → Reading raw b
reading false b = itself refl
reading true b = go (eqb b 0x20) refl
  where
    go : (x : Bool) → eqb b 0x20 ≡ x → Reading true b
    go true e = turned refl (eqb-true b 0x20 e) (rw e)
    go false e = itself (rw e)

shown-some : (raw : Bool) (b : ℕ) (bytes : List ℕ) → shown raw (b ∷ bytes) ≡ [] → ⊥
unfolding mark
shown-some raw b bytes e = go (reading raw b)
  where
    go : Reading raw b → ⊥
    go (turned r s t) = suc-ne-zero _ (ap length (ap (λ (l : List ℕ). l ++ shown raw bytes) (sym t) ∙ e))
    go (itself t) = suc-ne-zero _ (ap length (ap (λ (l : List ℕ). l ++ shown raw bytes) (sym t) ∙ e))

-- ---- a mark at the head

shown_three : (raw : Bool) (u : List ℕ) → shown raw (mark ++ u) ≡ mark ++ shown raw u
unfolding mark
shown_three true u = refl
shown_three false u = refl

shown-space : (u : List ℕ) → shown true (space ++ u) ≡ mark ++ shown true u
unfolding mark space
shown-space u = refl

pub shown-mark : (raw : Bool) (t : List ℕ) → starts_with_mark raw t ≡ true → shown raw t ≡ mark ++ shown raw (drop (mark_width raw t) t)
unfolding starts_with_mark mark_width
shown-mark raw t e = go (starts_with mark t) refl e
  where
    one : (raw : Bool) (t : List ℕ) → (b : Bool) → (raw && starts_with space t) ≡ b → ltb 0 (cond b 1 0) ≡ true → shown raw t ≡ mark ++ shown raw (drop (cond b 1 0) t)
    one raw t false p e = clash refl e
    one false t true p e = clash refl p
    one true t true p e =
        ap (shown true) (starts_rest space t p)
        ∙ shown-space (drop (length space) t)
        ∙ ap (λ (n : ℕ). mark ++ shown true (drop n t)) space-long

    go : (b : Bool) → starts_with mark t ≡ b → ltb 0 (cond b 3 (cond (raw && starts_with space t) 1 0)) ≡ true → shown raw t ≡ mark ++ shown raw (drop (cond b 3 (cond (raw && starts_with space t) 1 0)) t)
    go true p e =
        ap (shown raw) (starts_rest mark t p)
        ∙ shown_three raw (drop (length mark) t)
        ∙ ap (λ (n : ℕ). mark ++ shown raw (drop n t)) mark-long
    go false p e = one raw t (raw && starts_with space t) refl e

-- ---- no mark

any_later : (test : ℕ → Bool) (first n : ℕ) → any test (count_from (suc first) n) ≡ any (λ (k : ℕ). test (suc k)) (count_from first n)
any_later test first zero = refl
any_later test first (suc n) = ap (λ (b : Bool). test (suc first) || b) (any_later test (suc first) n)

holds_cons : (b : ℕ) (bytes : List ℕ) → holds_mark (b ∷ bytes) ≡ (starts_with_mark true (b ∷ bytes) || holds_mark bytes)
unfolding holds_mark
holds_cons b bytes =
    ap (λ (x : Bool). starts_with_mark true (b ∷ bytes) || x) (any_later (λ (p : ℕ). starts_with_mark true (drop p (b ∷ bytes))) 0 (length bytes))

-- What starts with a mark holds one.
pub mark-held : (bytes : List ℕ) → holds_mark (mark ++ bytes) ≡ true
unfolding mark starts_with_mark mark_width
mark-held bytes = holds_cons 0xE2 (0x96 ∷ 0x81 ∷ bytes)

-- A spelling that holds no mark is the text itself.
pub shown-unmarked : (raw : Bool) (s : List ℕ) → holds_mark (shown raw s) ≡ false → shown raw s ≡ s
shown-unmarked raw [] e = refl
shown-unmarked raw (b ∷ s) e = go (shown-unmarked raw s) (reading raw b)
  where
    go : (holds_mark (shown raw s) ≡ false → shown raw s ≡ s) → Reading raw b → shown raw (b ∷ s) ≡ b ∷ s
    go rest (turned r q t) = clash (ap (λ (l : List ℕ). holds_mark (l ++ shown raw s)) (sym t) ∙ e) (mark-held (shown raw s))
    go rest (itself t) =
        ap (λ (l : List ℕ). l ++ shown raw s) t
        ∙ ap {B = List ℕ} (λ l. b ∷ l)
        (rest (or_right (starts_with_mark true (b ∷ shown raw s)) (holds_mark (shown raw s)) (sym (holds_cons b (shown raw s)) ∙ ap (λ (l : List ℕ). holds_mark (l ++ shown raw s)) (sym t) ∙ e)))

-- ---- what a spelling begins with

-- It does not end within a mark.
pub record Complete (y : List ℕ) : Type 0 where
  pub one : (front : List ℕ) → y ≡ front ++ (0xE2 ∷ []) → ⊥
  pub two : (front : List ℕ) → y ≡ front ++ (0xE2 ∷ 0x96 ∷ []) → ⊥

complete_rest : (b : ℕ) (y : List ℕ) → Complete (b ∷ y) → Complete y
complete_rest b y c =
    record {
      one = λ front e. c.one (b ∷ front) (ap {B = List ℕ} (λ l. b ∷ l) e);
      two = λ front e. c.two (b ∷ front) (ap {B = List ℕ} (λ l. b ∷ l) e);
    }

at_0 : List ℕ → ℕ
at_0 l = get_or l 0 0

-- A front of a mark and what follows it holds the mark, or ends within it.
pub within-mark : (b : ℕ) (y t u : List ℕ) → mark ++ u ≡ b ∷ (y ++ t) → holds_mark (b ∷ y) ≡ false → Complete (b ∷ y) → ⊥
unfolding mark at_0
within-mark b [] t u e none c = c.one [] (ap {B = List ℕ} (λ (x : ℕ). x ∷ []) (sym (ap at_0 e)))
within-mark b (x ∷ []) t u e none c = c.two [] (ap₂ {C = List ℕ} (λ (x y : ℕ). x ∷ y ∷ []) (sym (ap at_0 e)) (sym (ap at_0 (ap (drop 1) e))))
within-mark b (x ∷ z ∷ y) t u e none c =
    clash (ap holds_mark (ap {B = List ℕ} (λ (b : ℕ). b ∷ 0x96 ∷ 0x81 ∷ y) (ap at_0 e) ∙ ap₂ {C = List ℕ} (λ (x z : ℕ). b ∷ x ∷ z ∷ y) (ap at_0 (ap (drop 1) e)) (ap at_0 (ap (drop 2) e))) ∙ none)
    (mark-held y)

-- What a spelling begins with, if it holds no mark and ends within none, the text begins with.
pub shown-start : (raw : Bool) (s y t : List ℕ) → shown raw s ≡ y ++ t → holds_mark y ≡ false → Complete y → starts_with y s ≡ true
shown-start raw s [] t e none c = refl
shown-start raw [] (b ∷ y) t e none c = absurd (suc-ne-zero (length (y ++ t)) (sym (ap length e)))
shown-start raw (a ∷ s) (b ∷ y) t e none c = go (λ q. shown-start raw s y t q (or_right (starts_with_mark true (b ∷ y)) (holds_mark y) (sym (holds_cons b y) ∙ none)) (complete_rest b y c)) (reading raw a)
  where
    go : (shown raw s ≡ y ++ t → starts_with y s ≡ true) → Reading raw a → (eqb b a && starts_with y s) ≡ true
    go rest (turned r q u) = absurd (within-mark b y t (shown raw s) (ap (λ (l : List ℕ). l ++ shown raw s) (sym u) ∙ e) none c)
    go rest (itself u) =
        let whole : a ∷ shown raw s ≡ b ∷ (y ++ t) = ap (λ (l : List ℕ). l ++ shown raw s) (sym u) ∙ e in
        and_both (eq-eqb b a (sym (ap (λ (l : List ℕ). get_or l 0 0) whole))) (rest (ap (drop 1) whole))

-- ---- what a spelling ends with

map_back : (f : ℕ → List ℕ) (s : List ℕ) (front back : List (List ℕ)) → map f s ≡ front ++ back → back ≡ map f (drop (length front) s)
map_back f s front back e = sym (drop-append_seam front back) ∙ ap (drop (length front)) (sym e) ∙ drop-map f (length front) s

shown_starts : (raw : Bool) (s : List ℕ) → all one_start (map (shown_byte raw) s) ≡ true
unfolding mark
shown_starts raw [] = refl
shown_starts raw (b ∷ s) = go (reading raw b) (shown_starts raw s)
  where
    go : Reading raw b → all one_start (map (shown_byte raw) s) ≡ true → (one_start (shown_byte raw b) && all one_start (map (shown_byte raw) s)) ≡ true
    go (turned r q t) rest = and_both (ap one_start t) rest
    go (itself t) rest = and_both (ap one_start t) rest

mark_starts : one_start mark ≡ true
unfolding mark
mark_starts = refl

-- What a spelling ends with, and starts in no UTF8-tail, is the virtual mark and all, or the spelling of an end of the text.
pub shown-end : (raw virtual : Bool) (s front y : List ℕ) → prefix virtual ++ shown raw s ≡ front ++ y → starts_in_tail y ≡ false
    → (y ≡ mark ++ shown raw s) ⊎ ((n : ℕ) × (y ≡ shown raw (drop n s)))
shown-end raw false s front y e clear =
    let b = begins_between (map (shown_byte raw) s) front y (shown_starts raw s) clear e in
    inr (length b.front, b.after ∙ ap join (map_back (shown_byte raw) s b.front b.back b.whole))
shown-end raw true s front y e clear =
    let b = begins_between (mark ∷ map (shown_byte raw) s) front y (and_both mark_starts (shown_starts raw s)) clear e in
    go b.front b.back b.whole b.after
  where
    go : (f k : List (List ℕ)) → mark ∷ map (shown_byte raw) s ≡ f ++ k → y ≡ join k → (y ≡ mark ++ shown raw s) ⊎ ((n : ℕ) × (y ≡ shown raw (drop n s)))
    go [] k p q = inl (q ∙ ap join (sym p))
    go (x ∷ f) k p q = inr (length f, q ∙ ap join (map_back (shown_byte raw) s f k (ap (drop 1) p)))

-- A spelling without E2 is the text itself.
pub shown-plain : (raw : Bool) (s y : List ℕ) → shown raw s ≡ y → all (λ (b : ℕ). not (eqb b 0xE2)) y ≡ true → s ≡ y
unfolding mark
shown-plain raw [] y e h = e
shown-plain raw (b ∷ s) [] e h = absurd (shown-some raw b s e)
shown-plain raw (b ∷ s) (c ∷ y) e h = go (λ q. shown-plain raw s y q (and_right (not (eqb c 0xE2)) (all (λ (b : ℕ). not (eqb b 0xE2)) y) h)) (reading raw b)
  where
    go : (shown raw s ≡ y → s ≡ y) → Reading raw b → b ∷ s ≡ c ∷ y
    go rest (turned r q t) =
        let is = ap (λ (l : List ℕ). get_or l 0 0) (ap (λ (l : List ℕ). l ++ shown raw s) (sym t) ∙ e) in
        clash (sym (ap (λ (x : ℕ). not (eqb x 0xE2)) is)) (and_left (not (eqb c 0xE2)) (all (λ (b : ℕ). not (eqb b 0xE2)) y) h)
    go rest (itself t) =
        let is : b ∷ shown raw s ≡ c ∷ y = ap (λ (l : List ℕ). l ++ shown raw s) (sym t) ∙ e in
        ap₂ {C = List ℕ} ◌∷◌ (ap (λ (l : List ℕ). get_or l 0 0) is) (rest (ap (drop 1) is))

or-true : (b : Bool) → cond b true true ≡ true
or-true true = refl
or-true false = refl

-- A text whose end is spelled as the mark ends with a mark.
pub shown_ends_mark : (raw : Bool) (front s : List ℕ) → shown raw s ≡ mark → ends_with_mark raw (front ++ s) ≡ true
unfolding ends_with_mark mark space
shown_ends_mark raw front [] e = absurd (suc-ne-zero 2 (sym (ap length e)))
shown_ends_mark raw front (b ∷ s) e = go (reading raw b)
  where
    go : Reading raw b → ends_with_mark raw (front ++ b ∷ s) ≡ true
    go (turned r q t) =
        let rest : s ≡ [] = shown-plain raw s [] (append_cancel mark (shown raw s) [] (ap (λ (l : List ℕ). l ++ shown raw s) (sym t) ∙ e)) refl in
        let is : b ∷ s ≡ space = ap₂ {C = List ℕ} ◌∷◌ q rest in
        ap (λ (l : List ℕ). ends_with_mark raw (front ++ l)) is
        ∙ ap (λ (x : Bool). ends_with_mark x (front ++ space)) r
        ∙ ap (λ (x : Bool). cond (ends_with mark (front ++ space)) true x) (ends_append front space)
        ∙ or-true (ends_with mark (front ++ space))
    go (itself t) =
        let whole : b ∷ shown raw s ≡ mark = ap (λ (l : List ℕ). l ++ shown raw s) (sym t) ∙ e in
        let rest : s ≡ 0x96 ∷ 0x81 ∷ [] = shown-plain raw s (0x96 ∷ 0x81 ∷ []) (ap (drop 1) whole) refl in
        let is : b ∷ s ≡ mark = ap₂ {C = List ℕ} ◌∷◌ (ap (λ (l : List ℕ). get_or l 0 0) whole) rest in
        ap (λ (l : List ℕ). ends_with_mark raw (front ++ l)) is ∙ ap (λ (x : Bool). cond x true (raw && ends_with space (front ++ mark))) (ends_append front mark)
