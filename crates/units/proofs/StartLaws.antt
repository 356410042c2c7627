-- Laws of where a unit starts: by the byte that stands there, and by the kind. Assumes nothing.
use Prim.Native.Nat.{ℕ, suc, ◌≤◌, ◌<◌}
use mathlib.Core.Path.{◌≡◌, refl, sym, ap, ◌∙◌}
use mathlib.Core.Bool.{Bool, true, false, not, ◌&&◌, ◌||◌, or-false, and-false}
use mathlib.Core.Logic.{⊎_elim}
use mathlib.Core.List.{List, [], ◌∷◌}
use borrow.Author.Tests.{lt-ltb, eqb-true, eq-eqb}
use lib.Dec.{eqb, ltb}
use lib.ListN.{length, get_or, drop, drop_of_length-le, get_or-eq_default}
use lib.Seq.{drop-cons}
use Rattle.utf8.specs.Lists.{any}
use Rattle.utf8.proofs.Tests.{either, clash, or_left, or_right}
use Rattle.model.specs.Mark.{mark, space, mark_width, starts_with_mark}
use Rattle.units.specs.Kinds.{Crossing, is_none}
use Rattle.units.specs.Units.{mark_cuts, punctuation, byte_before, punctuation_cuts, begins_unit}
use Rattle.units.specs.declared.WordSplit.{WordSplit}
use Rattle.units.specs.declared.WordSplit.TheVariants.{SpaceRuns, EveryMark, None}
use Rattle.units.specs.inner.Around.{starters}

-- ---- no mark where its first byte does not stand

no_mark_of : (raw : Bool) (b : ℕ) (rest : List ℕ) → eqb 0xE2 b ≡ false → eqb 0x20 b ≡ false → mark_width raw (b ∷ rest) ≡ 0
unfolding mark_width mark space
no_mark_of true b rest e f = rw (e, f)
no_mark_of false b rest e f = rw e

no_mark_in_nothing : (raw : Bool) → mark_width raw [] ≡ 0
unfolding mark_width mark space
no_mark_in_nothing true = refl
no_mark_in_nothing false = refl

other_way : (a b : ℕ) → eqb a b ≡ false → eqb b a ≡ false
other_way a b e = ⊎_elim (λ t. clash e (eq-eqb a b (sym (eqb-true b a t)))) (λ f. f) (either (eqb b a))

module _ (raw : Bool) (section : List ℕ) (p : ℕ) where
  pub no_mark-past : length section ≤ p → mark_width raw (drop p section) ≡ 0
  no_mark-past h = ap (mark_width raw) (drop_of_length-le section h) ∙ no_mark_in_nothing raw

  pub no_mark_byte : p < length section → eqb (get_or section p 0) 0xE2 ≡ false → eqb (get_or section p 0) 0x20 ≡ false → mark_width raw (drop p section) ≡ 0
  no_mark_byte h e f = ap (mark_width raw) (drop-cons section p 0 h) ∙ no_mark_of raw (get_or section p 0) (drop (suc p) section) (other_way (get_or section p 0) 0xE2 e) (other_way (get_or section p 0) 0x20 f)

punctuation_no_mark : (b : ℕ) → any (eqb b) punctuation ≡ true → (m : ℕ) → any (eqb m) punctuation ≡ false → eqb b m ≡ false
punctuation_no_mark b e m f = ⊎_elim (λ t. clash f (ap (λ (x : ℕ). any (eqb x) punctuation) (sym (eqb-true b m t)) ∙ e)) (λ g. g) (either (eqb b m))

-- ---- marks

module _ (noted : List Crossing) (raw : Bool) (section : List ℕ) (p : ℕ) where
  pub uncut_no_mark : (kind : WordSplit) → mark_width raw (drop p section) ≡ 0 → mark_cuts kind noted raw section p ≡ false
  unfolding mark_cuts starts_with_mark
  uncut_no_mark SpaceRuns e = rw e
  uncut_no_mark EveryMark e = rw e
  uncut_no_mark None e = refl

-- ---- punctuation

and_middle : (a b c : Bool) → b ≡ false → (a && b && c) ≡ false
and_middle true true c e = clash e refl
and_middle true false c e = refl
and_middle false b c e = refl

module _ (kind : WordSplit) (holds : ℕ → ℕ → Bool) (raw : Bool) (section : List ℕ) (p : ℕ) where
  pub uncut_no_punctuation : any (eqb (get_or section p 0)) punctuation ≡ false → punctuation_cuts kind holds raw section p ≡ false
  unfolding punctuation_cuts
  uncut_no_punctuation e = and_middle (not (is_none kind)) (any (eqb (get_or section p 0)) punctuation) (not (holds (byte_before raw section p) (get_or section p 0))) e

-- ---- both

module _ (kind : WordSplit) (noted : List Crossing) (holds : ℕ → ℕ → Bool) (raw : Bool) (section : List ℕ) (p : ℕ) where
  pub uncut_first : p ≡ 0 → begins_unit kind noted holds raw section p ≡ false
  unfolding begins_unit
  uncut_first e = rw e

  neither : mark_width raw (drop p section) ≡ 0 → any (eqb (get_or section p 0)) punctuation ≡ false → begins_unit kind noted holds raw section p ≡ false
  unfolding begins_unit
  neither e f = rw (uncut_no_mark noted raw section p kind e, uncut_no_punctuation kind holds raw section p f) (and-false (ltb 0 p))

  pub uncut_past : length section ≤ p → begins_unit kind noted holds raw section p ≡ false
  unfolding punctuation
  uncut_past h = neither (no_mark-past raw section p h) (rw (get_or-eq_default section 0 h))

  pub cut-punctuation : 0 < p → p < length section → any (eqb (get_or section p 0)) punctuation ≡ true → punctuation_cuts kind holds raw section p ≡ begins_unit kind noted holds raw section p
  unfolding begins_unit punctuation
  cut-punctuation h l e =
      let b = get_or section p 0 in
      rw (lt-ltb 0 p h, uncut_no_mark noted raw section p kind (no_mark_byte raw section p l (punctuation_no_mark b e 0xE2 refl) (punctuation_no_mark b e 0x20 refl)))

  pub cut-mark : 0 < p → any (eqb (get_or section p 0)) punctuation ≡ false → mark_cuts kind noted raw section p ≡ begins_unit kind noted holds raw section p
  unfolding begins_unit
  cut-mark h e = rw (lt-ltb 0 p h, uncut_no_punctuation kind holds raw section p e) (sym (or-false (mark_cuts kind noted raw section p)))

  pub uncut_byte : p < length section → any (eqb (get_or section p 0)) starters ≡ false → begins_unit kind noted holds raw section p ≡ false
  unfolding starters
  uncut_byte h e =
      let b = get_or section p 0 in
      let rest = or_right (eqb b 0xE2) (eqb b 0x20 || any (eqb b) punctuation) e in
      neither (no_mark_byte raw section p h (or_left (eqb b 0xE2) (eqb b 0x20 || any (eqb b) punctuation) e) (or_left (eqb b 0x20) (any (eqb b) punctuation) rest)) (or_right (eqb b 0x20) (any (eqb b) punctuation) rest)
