-- Laws of a walk over items, tokens and what stands between them: none of their outputs is too long, and what is counted so far. Assumes nothing.
use Rattle.std.specs.Prelude.{Option, Some, None}
use Prim.Native.Nat.{ℕ, ◌+◌, ◌-◌, ◌≤◌, min}
use native.Mathlib.Omega.{arith}
use mathlib.Core.Path.{◌≡◌, refl, sym, ap, ◌∙◌}
use mathlib.Core.Bool.{Bool, true, false, ◌||◌}
use mathlib.Core.List.{List, [], ◌∷◌}
use lib.Dec.{ltb}
use lib.ListN.{length}
use Rattle.utf8.specs.Lists.{join_map}
use Rattle.utf8.proofs.Tests.{or_left, or_right}
use Rattle.utf8.proofs.Places.{any_append}
use Rattle.normalise.specs.Normalise.{outgrows}
use Rattle.merge.specs.declared.Symbols.{Symbols}
use Rattle.sections.specs.Sections.{Item, token, plain, taken_apart}
use Rattle.stretches.specs.Stretches.{Stretch, held}
use Rattle.stretches.specs.inner.Parts.{parts_symbols}
use Rattle.encode.specs.inner.Passes.{counted, item_outputs}
use Rattle.encode.proofs.PassLaws.{Tallying, tallying_start, tallying_next, tallying_token, tallying_ended, counted-most}

-- ---- what a pass found

pub counts_found : (long : Bool) (s : Symbols) {f : Symbols} → Some f ≡ counted long s → (long ≡ false) × (f ≡ s)
counts_found true s e = let z : ◌≡◌ {A = ℕ} 0 1 = cc in absurd (omega arith)
counts_found false s e = (refl, cc)

pub long_found : (long : Bool) (s : Symbols) → None ≡ counted long s → long ≡ true
long_found true s e = refl
long_found false s e = let z : ◌≡◌ {A = ℕ} 0 1 = cc in absurd (omega arith)

module _ {A : Type 0} (outputs : A → List (List ℕ)) (room : ℕ) where
  -- Some output of these items is too long.
  abbrev pub too_long : List (Item A) → Bool
  too_long items = outgrows (join_map (item_outputs outputs) items) room

  long-cons : (item : Item A) (rest : List (Item A)) → too_long (item ∷ rest) ≡ (outgrows (item_outputs outputs item) room || too_long rest)
  unfolding outgrows
  long-cons item rest = any_append (λ (output : List ℕ). ltb room (length output)) (item_outputs outputs item) (join_map (item_outputs outputs) rest)

-- No output of these items is too long.
pub record Short {A : Type 0} (outputs : A → List (List ℕ)) (room : ℕ) (items : List (Item A)) : Type 0 where
  pub short : too_long outputs room items ≡ false

module _ {A : Type 0} {outputs : A → List (List ℕ)} {room : ℕ} {left : List (Item A)} (s : Short outputs room left) where
  pub short_head : (a : A) (rest : List (Item A)) → left ≡ plain a ∷ rest → outgrows (outputs a) room ≡ false
  short_head a rest is = or_left (outgrows (outputs a) room) (too_long outputs room rest) (sym (long-cons outputs room (plain a) rest) ∙ ap (too_long outputs room) (sym is) ∙ s.short)

  pub short_rest : (item : Item A) (rest : List (Item A)) → left ≡ item ∷ rest → Short outputs room rest
  short_rest item rest is = record { short = or_right (outgrows (item_outputs outputs item) room) (too_long outputs room rest) (sym (long-cons outputs room item rest) ∙ ap (too_long outputs room) (sym is) ∙ s.short) }

-- ---- the first pass over items that may be too long

-- n starting ids and d drops are counted, the items of left are to follow, and nothing was too long before them.
pub record Counting {A : Type 0} (outputs : A → List (List ℕ)) (stretches : A → List (Item Stretch)) (own : List ℕ → Option ℕ) (fallback : List ℕ) (whole left : List (Item A)) (room cells n d : ℕ) : Type 0 where
  pub long : too_long outputs room whole ≡ too_long outputs room left
  pub tally : Tallying own fallback (taken_apart stretches whole) (taken_apart stretches left) cells n d

module _ {A : Type 0} (outputs : A → List (List ℕ)) (stretches : A → List (Item Stretch)) (own : List ℕ → Option ℕ) (fallback : List ℕ) (whole : List (Item A)) (room cells : ℕ) where
  -- What the pass finds.
  abbrev pub found : List (Item A) → Option Symbols
  found items = counted (too_long outputs room items) (parts_symbols own fallback (taken_apart stretches items) cells)

  pub counting_start : Counting outputs stretches own fallback whole whole room cells 0 0
  counting_start = record { long = refl; tally = tallying_start own fallback (taken_apart stretches whole) cells }

module _ {A : Type 0} {outputs : A → List (List ℕ)} {stretches : A → List (Item Stretch)} {own : List ℕ → Option ℕ} {fallback : List ℕ} {whole left : List (Item A)} {room cells n d : ℕ} (g : Counting outputs stretches own fallback whole left room cells n d) where
  pub counting_token : (id : ℕ) (rest : List (Item A)) → left ≡ token id ∷ rest → {more : ℕ} → more ≡ min cells (n + 1) → Counting outputs stretches own fallback whole rest room cells more d
  counting_token id rest is m = record {
    long = g.long ∙ ap (too_long outputs room) is;
    tally = tallying_token g.tally id (taken_apart stretches rest) (ap (taken_apart stretches) is) m;
  }

  pub counting_ended : left ≡ [] → Some (record { count = n; drops = d }) ≡ found outputs stretches own fallback whole room cells whole
  unfolding outgrows
  counting_ended is =
      let short : too_long outputs room whole ≡ false = g.long ∙ ap (too_long outputs room) is in
      rw short (ap (counted false) (tallying_ended g.tally (ap (taken_apart stretches) is)))

  -- What is found of one item more.
  module _ (a : A) (rest : List (Item A)) (is : left ≡ plain a ∷ rest) {r : Option Symbols} (e : r ≡ counted (outgrows (outputs a) room) (parts_symbols own fallback (stretches a) (cells - n))) where
    pub counting_long : r ≡ None → None ≡ found outputs stretches own fallback whole room cells whole
    counting_long f =
        let here = long_found (outgrows (outputs a) room) _ (sym f ∙ e) in
        let long : too_long outputs room whole ≡ true = g.long ∙ ap (too_long outputs room) is ∙ long-cons outputs room (plain a) rest ∙ rw here in
        rw long

    pub counting_next : {s : Symbols} → r ≡ Some s → {more : ℕ} → more ≡ held (d + s.drops) → Counting outputs stretches own fallback whole rest room cells (n + s.count) more
    counting_next f m =
        let h = counts_found (outgrows (outputs a) room) (parts_symbols own fallback (stretches a) (cells - n)) (sym f ∙ e) in
        record {
          long = g.long ∙ ap (too_long outputs room) is ∙ long-cons outputs room (plain a) rest ∙ rw h.0;
          tally = tallying_next g.tally (stretches a) (taken_apart stretches rest) (ap (taken_apart stretches) is) h.1 m;
        }

    pub counting_fits : {s : Symbols} → r ≡ Some s → n + s.count ≤ cells
    counting_fits f =
        let h = counts_found (outgrows (outputs a) room) (parts_symbols own fallback (stretches a) (cells - n)) (sym f ∙ e) in
        omega (arith, counted-most own fallback (stretches a) (cells - n) h.1, g.tally.within)
