-- Laws of crossing pieces: what stands at a place, what one piece gives, and the places of all. Assumes nothing.
use Prim.Native.Nat.{ℕ, zero, suc, ◌+◌, ◌-◌, ◌≤◌, ◌<◌}
use native.Mathlib.Nat.{zero-add, sub-zero}
use native.Mathlib.Omega.{arith}
use mathlib.Core.Path.{◌≡◌, refl, sym, ap, ◌∙◌}
use mathlib.Core.Bool.{Bool, true, false, not, cond, ◌&&◌}
use mathlib.Core.Logic.{⊎_elim}
use mathlib.Core.List.{List, [], ◌∷◌}
use borrow.Author.Tests.{lt-ltb, ltb-true, ltb-false, eqb-true, eqb-false, ne_eqb}
use lib.Dec.{eqb, ltb}
use lib.ListN.{length, get_or, take, drop, length-drop}
use lib.Seq.{drop-drop, get_or-drop, get_or-take}
use Rattle.utf8.specs.Lists.{any, filter, below, count_from, starts_with}
use Rattle.utf8.specs.Chars.{valid}
use Rattle.utf8.proofs.Tests.{either, clash, and_left, and_right, or_right}
use Rattle.utf8.proofs.Places.{any-one, any_found, any_next, any-ended, length-count_from, get_or_count_from}
use Rattle.utf8.proofs.Starts.{starts_front}
use Rattle.model.specs.Mark.{mark, mark_width, starts_with_mark, ends_with_mark}
use Rattle.units.specs.Kinds.{crosses_at, crossing_at, holds_mark, is_tangled}
use Rattle.units.specs.Derived.{places_within}
use Rattle.units.specs.inner.Next.{places_above, next_unit}
use Rattle.units.specs.declared.Crossed.TheVariants.{Nowhere, At, Tangled}
use Rattle.units.specs.inner.Crossed.{crossed_by, crossed}
use Rattle.units.proofs.NextLaws.{search_from, search_start, search_next, search_ended, Searched, none_passes, passes, searched}

-- ---- tests of the numbers below one, one more and the end

module _ (test : ℕ → Bool) (n i : ℕ) where
  below_at : (b : Bool) → i < n → test i ≡ b → test (get_or (below n) i 0) ≡ b
  below_at b h e = ap test (get_or_count_from 0 n i 0 h ∙ zero-add i) ∙ e

  pub any-below_found : i < n → test i ≡ true → any test (drop i (below n)) ≡ true
  any-below_found h e = any_found test (below n) i 0 (omega (arith, length-count_from 0 n)) (below_at true h e)

  pub any-below-next : i < n → test i ≡ false → any test (drop i (below n)) ≡ any test (drop (i + 1) (below n))
  any-below-next h e = any_next test (below n) i 0 (omega (arith, length-count_from 0 n)) (below_at false h e)

  pub any-below-ended : n ≤ i → any test (drop i (below n)) ≡ false
  any-below-ended h = any-ended test (below n) i (omega (arith, length-count_from 0 n))

  any-below-one : i < n → test i ≡ true → any test (below n) ≡ true
  any-below-one h e = any-one test (below n) i 0 (omega (arith, length-count_from 0 n)) (below_at true h e)

-- ---- a mark or a space among bytes

-- Whether a mark or a space stands at a place.
pub marks : List ℕ → ℕ → Bool
marks bytes p = starts_with_mark true (drop p bytes)

module _ (bytes : List ℕ) where
  pub holds_start : holds_mark bytes ≡ any (marks bytes) (drop 0 (below (length bytes)))
  unfolding holds_mark marks
  holds_start = refl

  module _ (p w : ℕ) (rest : List ℕ) (e : rest ≡ drop p bytes) (f : w ≡ mark_width true rest) where
    pub marks_here : (w ≡ 0 → ⊥) → marks bytes p ≡ true
    unfolding marks starts_with_mark
    marks_here n = rw (← e, ← f) (lt-ltb 0 w (omega arith))

    pub marks_not : w ≡ 0 → marks bytes p ≡ false
    unfolding marks starts_with_mark
    marks_not z = rw (← e, ← f, z)

-- ---- the mark of a crossing

module _ (bytes : List ℕ) (p : ℕ) where
  crossing_mark : crosses_at bytes p ≡ true → starts_with_mark false (drop p bytes) ≡ true
  unfolding crosses_at
  crossing_mark e =
      and_right (ltb 0 p) (starts_with_mark false (drop p bytes))
      (and_left (ltb 0 p && starts_with_mark false (drop p bytes)) (not (ends_with_mark false (take p bytes))) e)

  -- a mark begins with its first byte
  no_mark_elsewhere : (get_or bytes p 0 ≡ 0xE2 → ⊥) → starts_with_mark false (drop p bytes) ≡ false
  unfolding starts_with_mark mark_width mark
  no_mark_elsewhere n = go (drop p bytes) (λ e. n (sym (first_byte p bytes) ∙ e))
    where
      first_byte : (p : ℕ) (bytes : List ℕ) → get_or (drop p bytes) 0 0 ≡ get_or bytes p 0
      first_byte zero bytes = refl
      first_byte (suc p) [] = refl
      first_byte (suc p) (x ∷ bytes) = first_byte p bytes

      go : (l : List ℕ) → (get_or l 0 0 ≡ 0xE2 → ⊥) → starts_with_mark false l ≡ false
      go [] n = refl
      go (x ∷ l) n = rw (ne_eqb 0xE2 x (λ z. n (sym z)))

  pub uncrossed_byte : (get_or bytes p 0 ≡ 0xE2 → ⊥) → crosses_at bytes p ≡ false
  uncrossed_byte n = ⊎_elim (λ t. clash (no_mark_elsewhere n) (crossing_mark t)) (λ f. f) (either (crosses_at bytes p))

-- ---- marks and spaces beside the mark of a crossing

plain-mark : (l : List ℕ) → starts_with_mark false l ≡ true → starts_with mark l ≡ true
unfolding starts_with_mark mark_width
plain-mark l = go (starts_with mark l)
  where
    go : (b : Bool) → ltb 0 (cond b 3 0) ≡ true → b ≡ true
    go true e = refl
    go false e = clash refl e

any-mark : (l : List ℕ) → starts_with mark l ≡ true → starts_with_mark true l ≡ true
unfolding starts_with_mark mark_width
any-mark l e = rw e

-- A crossing that is not tangled is the piece's only one: another mark would stand behind it.
module _ (bytes : List ℕ) (p : ℕ) (here : crosses_at bytes p ≡ true) (plain : is_tangled (crossing_at bytes p) ≡ false) where
  at_mark : starts_with mark (drop p bytes) ≡ true
  at_mark = plain-mark (drop p bytes) (crossing_mark bytes p here)

  byte_in_mark : (i : ℕ) → i < 3 → get_or bytes (p + i) 0 ≡ get_or mark i 0
  unfolding mark
  byte_in_mark i h = sym (get_or-drop p bytes i 0) ∙ sym (get_or-take 3 (drop p bytes) i 0 h) ∙ ap (λ (l : List ℕ). get_or l i 0) (starts_front mark (drop p bytes) at_mark)

  not_beside : (i : ℕ) → i < 3 → (get_or mark i 0 ≡ 0xE2 → ⊥) → crosses_at bytes (p + i) ≡ false
  not_beside i h n = uncrossed_byte bytes (p + i) (λ e. n (sym (byte_in_mark i h) ∙ e))

  not_behind : (r : ℕ) → p + 3 + r < length bytes → crosses_at bytes (p + 3 + r) ≡ false
  unfolding is_tangled crossing_at holds_mark
  not_behind r h =
      ⊎_elim
      (λ t.
      let post = drop (p + 3) bytes in
      let stands : starts_with_mark true (drop r post) ≡ true = rw (drop-drop r (p + 3) bytes) (any-mark (drop (p + 3 + r) bytes) (plain-mark (drop (p + 3 + r) bytes) (crossing_mark bytes (p + 3 + r) t))) in
      let held : holds_mark post ≡ true = any-below-one (λ (q : ℕ). starts_with_mark true (drop q post)) (length post) r (omega (arith, length-drop (p + 3) bytes)) stands in
      clash (or_right (holds_mark (take p bytes)) (holds_mark post) plain) held)
      (λ f. f)
      (either (crosses_at bytes (p + 3 + r)))

  none_beyond : (q : ℕ) → p < q → q < length bytes → eqb q (p + 1) ≡ false → eqb q (p + 2) ≡ false → crosses_at bytes q ≡ false
  none_beyond q h l n₁ n₂ =
      let far : q ≡ p + 3 + (q - (p + 3)) = omega (arith, eqb-false q (p + 1) n₁, eqb-false q (p + 2) n₂) in
      ap (crosses_at bytes) far ∙ not_behind (q - (p + 3)) (omega (arith, far))

  none_after : (q : ℕ) → p < q → q < length bytes → eqb q (p + 1) ≡ false → crosses_at bytes q ≡ false
  unfolding mark
  none_after q h l n₁ =
      ⊎_elim
      (λ e. ap (crosses_at bytes) (eqb-true q (p + 2) e) ∙ not_beside 2 (omega arith) (λ z. omega (arith, z)))
      (none_beyond q h l n₁)
      (either (eqb q (p + 2)))

  none_later : (q : ℕ) → p < q → q < length bytes → crosses_at bytes q ≡ false
  unfolding mark
  none_later q h l =
      ⊎_elim
      (λ e. ap (crosses_at bytes) (eqb-true q (p + 1) e) ∙ not_beside 1 (omega arith) (λ z. omega (arith, z)))
      (none_after q h l)
      (either (eqb q (p + 1)))

filter_none : (test : ℕ → Bool) (k n : ℕ) → ((q : ℕ) → k ≤ q → q < k + n → test q ≡ false) → filter test (count_from k n) ≡ []
filter_none test k zero f = refl
filter_none test k (suc n) f = rw (f k (omega arith) (omega arith)) (filter_none test (suc k) n (λ q h l. f q (omega arith) (omega arith)))

-- ---- what one piece gives

data Within (bytes : List ℕ) : Type 0 where
  nowhere : places_within bytes ≡ [] → Within bytes
  once : (p : ℕ) → places_within bytes ≡ p ∷ [] → is_tangled (crossing_at bytes p) ≡ false → Within bytes
  tangled : (p : ℕ) (ps : List ℕ) → places_within bytes ≡ p ∷ ps → is_tangled (crossing_at bytes p) ≡ true → Within bytes

module _ (bytes : List ℕ) where
  uncrossed_first : crosses_at bytes 0 ≡ false
  unfolding crosses_at
  uncrossed_first = refl

  -- the search from 1 on is the search from 0 on
  first_search : next_unit (crosses_at bytes) bytes 0 ≡ search_from (crosses_at bytes) bytes 0
  first_search =
      search_start (crosses_at bytes) bytes 0
      ∙ ⊎_elim
      (λ e. sym (search_next (crosses_at bytes) bytes 0 (ltb-true 0 (length bytes) e) uncrossed_first))
      (λ e. search_ended (crosses_at bytes) bytes 1 (omega (arith, ltb-false 0 (length bytes) e)) ∙ sym (search_ended (crosses_at bytes) bytes 0 (ltb-false 0 (length bytes) e)))
      (either (ltb 0 (length bytes)))

  first_of : Searched (crosses_at bytes) bytes 0 (next_unit (crosses_at bytes) bytes 0)
  first_of = rw first_search (searched (crosses_at bytes) bytes 0 (omega arith))

  places_invalid : valid bytes ≡ false → places_within bytes ≡ []
  unfolding places_within
  places_invalid e = rw e

  places_valid : valid bytes ≡ true → places_within bytes ≡ filter (crosses_at bytes) (count_from 0 (length bytes - 0))
  unfolding places_within
  places_valid e = rw (e, sub-zero)

  places_past : length bytes ≤ next_unit (crosses_at bytes) bytes 0 → places_within bytes ≡ []
  places_past h = ⊎_elim (λ e. places_valid e ∙ go (next_unit (crosses_at bytes) bytes 0) first_of h) places_invalid (either (valid bytes))
    where
      go : (r : ℕ) → Searched (crosses_at bytes) bytes 0 r → length bytes ≤ r → filter (crosses_at bytes) (count_from 0 (length bytes - 0)) ≡ []
      go r (none_passes e f) h = f
      go r (passes l m c f) h = absurd (omega arith)

  places_first : next_unit (crosses_at bytes) bytes 0 < length bytes → valid bytes ≡ true
      → places_within bytes ≡ next_unit (crosses_at bytes) bytes 0 ∷ filter (crosses_at bytes) (places_above (crosses_at bytes) bytes (next_unit (crosses_at bytes) bytes 0))
  places_first h e = places_valid e ∙ go (next_unit (crosses_at bytes) bytes 0) first_of h
    where
      go : (r : ℕ) → Searched (crosses_at bytes) bytes 0 r → r < length bytes → filter (crosses_at bytes) (count_from 0 (length bytes - 0)) ≡ r ∷ filter (crosses_at bytes) (places_above (crosses_at bytes) bytes r)
      go r (none_passes e f) h = absurd (omega arith)
      go r (passes l m c f) h = f

  first_crosses : next_unit (crosses_at bytes) bytes 0 < length bytes → crosses_at bytes (next_unit (crosses_at bytes) bytes 0) ≡ true
  first_crosses h = go (next_unit (crosses_at bytes) bytes 0) first_of h
    where
      go : (r : ℕ) → Searched (crosses_at bytes) bytes 0 r → r < length bytes → crosses_at bytes r ≡ true
      go r (none_passes e f) h = absurd (omega arith)
      go r (passes l m c f) h = c

  within : Within bytes
  within =
      ⊎_elim
      (λ h.
      ⊎_elim
      (λ v.
      ⊎_elim
      (λ t. tangled r (filter (crosses_at bytes) (places_above (crosses_at bytes) bytes r)) (places_first (ltb-true r (length bytes) h) v) t)
      (λ t. once r (places_first (ltb-true r (length bytes) h) v ∙ ap (λ (l : List ℕ). r ∷ l) (alone (first_crosses (ltb-true r (length bytes) h)) t)) t)
      (either (is_tangled (crossing_at bytes r))))
      (λ v. nowhere (places_invalid v))
      (either (valid bytes)))
      (λ h. nowhere (places_past (ltb-false r (length bytes) h)))
      (either (ltb r (length bytes)))
    where
      r : ℕ
      r = next_unit (crosses_at bytes) bytes 0

      alone : crosses_at bytes r ≡ true → is_tangled (crossing_at bytes r) ≡ false → filter (crosses_at bytes) (places_above (crosses_at bytes) bytes r) ≡ []
      alone c t = filter_none (crosses_at bytes) (suc r) (length bytes - suc r) (λ q h l. none_later bytes r c t q h (omega arith))

  -- ---- the code's answers

  pub crossed-past : length bytes ≤ next_unit (crosses_at bytes) bytes 0 → Nowhere ≡ crossed bytes
  unfolding crossed crossed_by
  crossed-past h = rw (places_past h)

  pub crossed_invalid : valid bytes ≡ false → Nowhere ≡ crossed bytes
  unfolding crossed crossed_by
  crossed_invalid e = rw (places_invalid e)

  module _ (r : ℕ) (is : r ≡ next_unit (crosses_at bytes) bytes 0) (h : r < length bytes) (v : valid bytes ≡ true) where
    pub crossed-tangled : is_tangled (crossing_at bytes r) ≡ true → Tangled ≡ crossed bytes
    unfolding crossed crossed_by
    crossed-tangled t = rw (places_first (rw (← is) h) v, ← is, t)

    pub crossed-at : is_tangled (crossing_at bytes r) ≡ false → At r ≡ crossed bytes
    unfolding crossed crossed_by
    crossed-at t = rw (places_first (rw (← is) h) v, ← is, t)

-- ---- what the code's answers say of a piece's places

module _ (bytes : List ℕ) where
  by_nowhere : places_within bytes ≡ [] → crossed bytes ≡ Nowhere
  unfolding crossed crossed_by
  by_nowhere e = rw e

  by_once : (p : ℕ) (ps : List ℕ) → places_within bytes ≡ p ∷ ps → is_tangled (crossing_at bytes p) ≡ false → crossed bytes ≡ At p
  unfolding crossed crossed_by
  by_once p ps e t = rw (e, t)

  by_tangled : (p : ℕ) (ps : List ℕ) → places_within bytes ≡ p ∷ ps → is_tangled (crossing_at bytes p) ≡ true → crossed bytes ≡ Tangled
  unfolding crossed crossed_by
  by_tangled p ps e t = rw (e, t)

  none_by : Within bytes → crossed bytes ≡ Nowhere → places_within bytes ≡ []
  none_by (nowhere f) e = f
  none_by (once p f t) e = let a = by_once p [] f t in let z : ◌≡◌ {A = ℕ} 0 1 = cc in absurd (omega arith)
  none_by (tangled p ps f t) e = let a = by_tangled p ps f t in let z : ◌≡◌ {A = ℕ} 0 1 = cc in absurd (omega arith)

  pub none_within : crossed bytes ≡ Nowhere → places_within bytes ≡ []
  none_within = none_by (within bytes)

  module _ (q : ℕ) where
    one_by : Within bytes → crossed bytes ≡ At q → (places_within bytes ≡ q ∷ []) × (is_tangled (crossing_at bytes q) ≡ false)
    one_by (nowhere f) e = let a = by_nowhere f in let z : ◌≡◌ {A = ℕ} 0 1 = cc in absurd (omega arith)
    one_by (once p f t) e =
        let a = by_once p [] f t in
        let same_place : p ≡ q = cc in
        (f ∙ ap (λ (r : ℕ). r ∷ []) same_place, ap (λ (r : ℕ). is_tangled (crossing_at bytes r)) (sym same_place) ∙ t)
    one_by (tangled p ps f t) e = let a = by_tangled p ps f t in let z : ◌≡◌ {A = ℕ} 0 1 = cc in absurd (omega arith)

    pub one-within : crossed bytes ≡ At q → (places_within bytes ≡ q ∷ []) × (is_tangled (crossing_at bytes q) ≡ false)
    one-within = one_by (within bytes)

pub data TangledFirst (bytes : List ℕ) : Type 0 where
  tangled-first : (p : ℕ) (ps : List ℕ) → places_within bytes ≡ p ∷ ps → is_tangled (crossing_at bytes p) ≡ true → TangledFirst bytes

tangled_by : (bytes : List ℕ) → Within bytes → crossed bytes ≡ Tangled → TangledFirst bytes
tangled_by bytes (nowhere f) e = let a = by_nowhere bytes f in let z : ◌≡◌ {A = ℕ} 0 1 = cc in absurd (omega arith)
tangled_by bytes (once p f t) e = let a = by_once bytes p [] f t in let z : ◌≡◌ {A = ℕ} 0 1 = cc in absurd (omega arith)
tangled_by bytes (tangled p ps f t) e = tangled-first p ps f t

pub tangled-within : (bytes : List ℕ) → crossed bytes ≡ Tangled → TangledFirst bytes
tangled-within bytes = tangled_by bytes (within bytes)
