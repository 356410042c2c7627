-- The characters of units: what they spell, and what they are joined. Assumes nothing.
use Prim.Native.Nat.{ℕ, ◌<◌, max}
use native.Mathlib.Omega.{arith}
use mathlib.Core.Path.{◌≡◌, refl, sym, ap, ap₂, ◌∙◌}
use mathlib.Core.Bool.{Bool, true, false, not, cond, ◌&&◌, and-true, and-false}
use mathlib.Core.Logic.{⊎_elim}
use mathlib.Core.List.{List, [], ◌∷◌, ◌++◌, map, append-nil}
use borrow.Author.Tests.{ltb-true, ltb-false, ne_eqb}
use lib.Dec.{eqb, ltb}
use lib.ListN.{length, take, drop, length-drop, take-append-drop}
use Rattle.utf8.specs.Lists.{is_empty, all, join, join_map, same}
use Rattle.utf8.specs.Chars.{char_width, chars}
use Rattle.utf8.proofs.Tests.{either, clash, and_left, and_right, and_both}
use Rattle.utf8.proofs.Lists.{by_length}
use Rattle.utf8.proofs.Characters.{chars-nil, chars_step}
use Rattle.utf8.proofs.Starts.{same-eq}
use Rattle.utf8.proofs.Joins.{chars-some, wide_high}
use Rattle.model.specs.Mark.{mark, space}
use Rattle.merge.specs.Start.{as_mark, unit_chars, with_virtual_mark}
use Rattle.units.proofs.ShownLaws.{shown_byte, shown, prefix, shown-append}
use Rattle.units.proofs.UnitLaws.{spelled_units}
use Rattle.stretches.specs.Stretches.{Stretch}
use Rattle.stretches.proofs.ModelLaws.{chars-join}
use Rattle.theorems.specs.UnitsKeepIds.{all_chars}

-- ---- a character as it is spelled

shown-high : (raw : Bool) (c : List ℕ) → all (ltb 0x7F) c ≡ true → shown raw c ≡ c
shown-high raw [] e = refl
shown-high raw (b ∷ c) e =
    let high = ltb-true 0x7F b (and_left (ltb 0x7F b) (all (ltb 0x7F) c) e) in
    ap (λ (t : Bool). cond (raw && t) mark (b ∷ []) ++ shown raw c) (ne_eqb b 0x20 (λ q. omega arith))
    ∙ ap (λ (t : Bool). cond t mark (b ∷ []) ++ shown raw c) (and-false raw)
    ∙ ap {B = List ℕ} (λ l. b ∷ l) (shown-high raw c (and_right (ltb 0x7F b) (all (ltb 0x7F) c) e))

as_mark-high : (raw : Bool) (c : List ℕ) → all (ltb 0x7F) c ≡ true → as_mark raw c ≡ c
unfolding as_mark space
as_mark-high raw c e =
    let apart : same c space ≡ false = ⊎_elim (λ s. clash refl (ap (all (ltb 0x7F)) (sym (same-eq c space s)) ∙ e)) (λ s. s) (either (same c space)) in
    ap (λ (t : Bool). cond (raw && t) mark c) apart ∙ ap (λ (t : Bool). cond t mark c) (and-false raw)

as_mark_byte : (raw : Bool) (b : ℕ) → as_mark raw (b ∷ []) ≡ shown raw (b ∷ [])
unfolding as_mark space
as_mark_byte raw b = ap (λ (t : Bool). cond (raw && t) mark (b ∷ [])) (and-true (eqb b 0x20)) ∙ sym (append-nil (shown_byte raw b))

as_mark-first : (raw : Bool) (b : ℕ) (t : List ℕ) → as_mark raw (take (max 1 (char_width (b ∷ t))) (b ∷ t)) ≡ shown raw (take (max 1 (char_width (b ∷ t))) (b ∷ t))
as_mark-first raw b t = go (ltb 1 (char_width (b ∷ t))) refl
  where
    go : (x : Bool) → ltb 1 (char_width (b ∷ t)) ≡ x → as_mark raw (take (max 1 (char_width (b ∷ t))) (b ∷ t)) ≡ shown raw (take (max 1 (char_width (b ∷ t))) (b ∷ t))
    go true e =
        let wide = ltb-true 1 (char_width (b ∷ t)) e in
        let is : max 1 (char_width (b ∷ t)) ≡ char_width (b ∷ t) = omega arith in
        let high = wide_high (b ∷ t) wide in
        ap (λ (n : ℕ). as_mark raw (take n (b ∷ t))) is
        ∙ as_mark-high raw (take (char_width (b ∷ t)) (b ∷ t)) high
        ∙ sym (shown-high raw (take (char_width (b ∷ t)) (b ∷ t)) high)
        ∙ ap (λ (n : ℕ). shown raw (take n (b ∷ t))) (sym is)
    go false e =
        let is : max 1 (char_width (b ∷ t)) ≡ 1 = omega (arith, ltb-false 1 (char_width (b ∷ t)) e) in
        ap (λ (n : ℕ). as_mark raw (take n (b ∷ t))) is ∙ as_mark_byte raw b ∙ ap (λ (n : ℕ). shown raw (take n (b ∷ t))) (sym is)

-- The characters of a text as they are spelled, joined.
pub shown-chars : (raw : Bool) (t : List ℕ) → join (unit_chars raw t) ≡ shown raw t
unfolding unit_chars
shown-chars raw = by_length (λ (t : List ℕ). join (map (as_mark raw) (chars t)) ≡ shown raw t) turn
  where
    turn : (t : List ℕ) → ((u : List ℕ) → length u < length t → join (map (as_mark raw) (chars u)) ≡ shown raw u) → join (map (as_mark raw) (chars t)) ≡ shown raw t
    turn [] rest = ap (λ (cs : List (List ℕ)). join (map (as_mark raw) cs)) chars-nil
    turn (b ∷ t) rest =
        let w = max 1 (char_width (b ∷ t)) in
        ap (λ (cs : List (List ℕ)). join (map (as_mark raw) cs)) (chars_step (b ∷ t) (omega arith))
        ∙ ap₂ {C = List ℕ} ◌++◌ (as_mark-first raw b t) (rest (drop w (b ∷ t)) (omega (arith, length-drop w (b ∷ t))))
        ∙ sym (shown-append raw (take w (b ∷ t)) (drop w (b ∷ t)))
        ∙ ap (shown raw) (take-append-drop w (b ∷ t))

-- ---- the characters of units

strings-plain : (raw : Bool) (units : List (List ℕ)) → map join (map (unit_chars raw) units) ≡ map (shown raw) units
strings-plain raw [] = refl
strings-plain raw (unit ∷ units) = ap₂ {C = List (List ℕ)} ◌∷◌ (shown-chars raw unit) (strings-plain raw units)

-- What the characters of units spell.
pub strings_of : (raw virtual : Bool) (units : List (List ℕ)) → map join (with_virtual_mark virtual (map (unit_chars raw) units)) ≡ spelled_units raw virtual units
unfolding with_virtual_mark
strings_of raw virtual [] = refl
strings_of raw virtual (unit ∷ units) = ap₂ {C = List (List ℕ)} ◌∷◌ (first virtual) (strings-plain raw units)
  where
    first : (v : Bool) → join (cond v (mark ∷ unit_chars raw unit) (unit_chars raw unit)) ≡ prefix v ++ shown raw unit
    first true = ap (λ (l : List ℕ). mark ++ l) (shown-chars raw unit)
    first false = shown-chars raw unit

-- Units that have the characters of a part are, joined, the characters of the part.
pub chars_of : (raw virtual : Bool) (unit : List ℕ) (units : List (List ℕ)) (part : List ℕ) → join_map chars (unit ∷ units) ≡ chars part
    → join (with_virtual_mark virtual (map (unit_chars raw) (unit ∷ units))) ≡ all_chars (record { bytes = part; virtual = virtual; raw = raw })
unfolding with_virtual_mark all_chars unit_chars
chars_of raw virtual unit units part e = go virtual
  where
    whole : unit_chars raw unit ++ join (map (unit_chars raw) units) ≡ unit_chars raw part
    whole = chars-join raw (unit ∷ units) ∙ ap (map (as_mark raw)) e

    go : (v : Bool) → cond v (mark ∷ unit_chars raw unit) (unit_chars raw unit) ++ join (map (unit_chars raw) units) ≡ cond v (mark ∷ unit_chars raw part) (unit_chars raw part)
    go true = ap {B = List (List ℕ)} (λ l. mark ∷ l) whole
    go false = whole

-- All characters of a stretch spell it.
pub all-chars-shown : (s : Stretch) → join (all_chars s) ≡ prefix s.virtual ++ shown s.raw s.bytes
unfolding all_chars
all-chars-shown s = go s.virtual
  where
    go : (v : Bool) → join (cond v (mark ∷ unit_chars s.raw s.bytes) (unit_chars s.raw s.bytes)) ≡ prefix v ++ shown s.raw s.bytes
    go true = ap (λ (l : List ℕ). mark ++ l) (shown-chars s.raw s.bytes)
    go false = shown-chars s.raw s.bytes

-- ---- no character is empty

abbrev pub AllSome : List (List ℕ) → Bool
AllSome cs = all (λ (c : List ℕ). not (is_empty c)) cs

marked_some : (raw : Bool) (cs : List (List ℕ)) → AllSome cs ≡ true → AllSome (map (as_mark raw) cs) ≡ true
unfolding as_mark mark
marked_some raw [] e = refl
marked_some raw (c ∷ cs) e =
    and_both (go (raw && same c space) (and_left (not (is_empty c)) (AllSome cs) e)) (marked_some raw cs (and_right (not (is_empty c)) (AllSome cs) e))
  where
    go : (b : Bool) → not (is_empty c) ≡ true → not (is_empty (cond b mark c)) ≡ true
    go true e = refl
    go false e = e

unit-some : (raw : Bool) (unit : List ℕ) → AllSome (unit_chars raw unit) ≡ true
unfolding unit_chars
unit-some raw unit = marked_some raw (chars unit) (chars-some unit)

pub plain-some : (raw : Bool) (units : List (List ℕ)) → all AllSome (map (unit_chars raw) units) ≡ true
plain-some raw [] = refl
plain-some raw (unit ∷ units) = and_both (unit-some raw unit) (plain-some raw units)

mark-some : not (is_empty mark) ≡ true
unfolding mark
mark-some = refl

pub chars-all-some : (raw virtual : Bool) (units : List (List ℕ)) → all AllSome (with_virtual_mark virtual (map (unit_chars raw) units)) ≡ true
unfolding with_virtual_mark
chars-all-some raw virtual [] = refl
chars-all-some raw virtual (unit ∷ units) = and_both (first virtual) (plain-some raw units)
  where
    first : (v : Bool) → AllSome (cond v (mark ∷ unit_chars raw unit) (unit_chars raw unit)) ≡ true
    first true = and_both mark-some (unit-some raw unit)
    first false = unit-some raw unit
