-- Laws of the next unit: one place more and the end of the search, and the units that one gets by taking the next again and again. Assumes nothing.
use Prim.Native.Nat.{ℕ, zero, suc, ◌+◌, ◌-◌, ◌≤◌, ◌<◌}
use native.Mathlib.Numerals.{add-one}
use native.Mathlib.Omega.{arith}
use mathlib.Core.Path.{◌≡◌, refl, ap, ◌∙◌}
use mathlib.Core.Bool.{Bool, true, false}
use Rattle.std.specs.Prelude.{None, Some}
use mathlib.Core.List.{List, [], ◌∷◌, ◌++◌}
use lib.ListN.{length}
use lib.Seq.{slice}
use Rattle.utf8.specs.Lists.{find, filter, between, count_from}
use Rattle.model.specs.Model.{Model}
use Rattle.units.specs.Units.{cut, begins_unit, units}
use Rattle.units.specs.inner.Next.{places_above, or_end, next_unit, units_from}

module _ (cuts : ℕ → Bool) (section : List ℕ) where
  -- What the places from p on give.
  pub search_from : ℕ → ℕ
  search_from p = or_end cuts section (find cuts (count_from p (length section - p)))

  pub search_start : (from : ℕ) → next_unit cuts section from ≡ search_from (from + 1)
  unfolding next_unit search_from
  search_start from = rw add-one

  places_at : (p : ℕ) → p < length section → count_from p (length section - p) ≡ p ∷ count_from (p + 1) (length section - (p + 1))
  places_at p h =
      let more : length section - p ≡ suc (length section - suc p) = omega arith in
      rw (more, add-one)

  places_ended : (p : ℕ) → length section ≤ p → count_from p (length section - p) ≡ []
  places_ended p h = let none_left : length section - p ≡ 0 = omega arith in rw none_left

  pub search_found : (p : ℕ) → p < length section → cuts p ≡ true → search_from p ≡ p
  unfolding search_from or_end
  search_found p h e = rw (places_at p h, e)

  pub search_next : (p : ℕ) → p < length section → cuts p ≡ false → search_from p ≡ search_from (p + 1)
  unfolding search_from
  search_next p h e = ap (λ (l : List ℕ). or_end cuts section (find cuts l)) (places_at p h) ∙ rw e

  pub search_ended : (p : ℕ) → length section ≤ p → search_from p ≡ length section
  unfolding search_from or_end
  search_ended p h = rw (places_ended p h)

  pub next_past : (from : ℕ) → length section ≤ from → next_unit cuts section from ≡ length section
  next_past from h = search_start from ∙ search_ended (from + 1) (omega arith)

-- ---- the first of a row of places that pass

data First (cuts : ℕ → Bool) (k n : ℕ) : Type 0 where
  nothing : find cuts (count_from k n) ≡ None → filter cuts (count_from k n) ≡ [] → First cuts k n
  found : (p : ℕ) → find cuts (count_from k n) ≡ Some p → k ≤ p → p < k + n → cuts p ≡ true
      → filter cuts (count_from k n) ≡ p ∷ filter cuts (count_from (suc p) (k + n - suc p)) → First cuts k n

module _ (cuts : ℕ → Bool) where
  first_step : (k n : ℕ) (b : Bool) → cuts k ≡ b → First cuts (suc k) n → First cuts k (suc n)
  first_step k n true e f =
      let left : n ≡ k + suc n - suc k = omega arith in
      found k (rw e) (omega arith) (omega arith) e (rw e (ap (λ (m : ℕ). k ∷ filter cuts (count_from (suc k) m)) left))
  first_step k n false e (nothing a b) = nothing (rw e a) (rw e b)
  first_step k n false e (found p a l m c b) =
      let left : suc k + n - suc p ≡ k + suc n - suc p = omega arith in
      found p (rw e a) (omega arith) (omega arith) c (rw e (b ∙ ap (λ (m : ℕ). p ∷ filter cuts (count_from (suc p) m)) left))

  first : (k n : ℕ) → First cuts k n
  first k zero = nothing refl refl
  first k (suc n) = first_step k n (cuts k) refl (first (suc k) n)

module _ (cuts : ℕ → Bool) (section : List ℕ) where
  -- What the search gives is the first place that passes, if any does.
  pub data Searched (p r : ℕ) : Type 0 where
    none_passes : r ≡ length section → filter cuts (count_from p (length section - p)) ≡ [] → Searched p r
    passes : p ≤ r → r < length section → cuts r ≡ true → filter cuts (count_from p (length section - p)) ≡ r ∷ filter cuts (places_above cuts section r) → Searched p r

  searched_by : (p : ℕ) → p ≤ length section → First cuts p (length section - p) → Searched p (search_from cuts section p)
  unfolding search_from or_end
  searched_by p h (nothing a b) = none_passes (rw a) b
  searched_by p h (found q a l m c b) =
      let left : p + (length section - p) - suc q ≡ length section - suc q = omega arith in
      rw a (passes l (omega arith) c (b ∙ ap (λ (m : ℕ). q ∷ filter cuts (count_from (suc q) m)) left))

  pub searched : (p : ℕ) → p ≤ length section → Searched p (search_from cuts section p)
  searched p h = searched_by p h (first cuts p (length section - p))

  -- ---- the units, one by one

  module _ (from : ℕ) (h : from < length section) where
    next-searched : Searched (suc from) (next_unit cuts section from)
    next-searched = rw (search_start cuts section from, add-one) (searched (suc from) (omega arith))

    pub next_above : from < next_unit cuts section from
    next_above = go (next_unit cuts section from) next-searched
      where
        go : (r : ℕ) → Searched (suc from) r → from < r
        go r (none_passes e f) = omega arith
        go r (passes l m c f) = l

    pub next-within : next_unit cuts section from ≤ length section
    next-within = go (next_unit cuts section from) next-searched
      where
        go : (r : ℕ) → Searched (suc from) r → r ≤ length section
        go r (none_passes e f) = omega arith
        go r (passes l m c f) = omega arith

    -- The unit that starts here ends where the next one starts,
    pub units_more : next_unit cuts section from < length section → units_from cuts section from ≡ slice from (next_unit cuts section from) section ∷ units_from cuts section (next_unit cuts section from)
    unfolding units_from
    units_more k = go (next_unit cuts section from) next-searched k
      where
        go : (r : ℕ) → Searched (suc from) r → r < length section
            → between (from ∷ filter cuts (places_above cuts section from) ++ (length section ∷ [])) section
            ≡ slice from r section ∷ between (r ∷ filter cuts (places_above cuts section r) ++ (length section ∷ [])) section
        go r (none_passes e f) k = absurd (omega arith)
        go r (passes l m c f) k = rw f

    -- and the last one at the section's end.
    pub units-last : length section ≤ next_unit cuts section from → units_from cuts section from ≡ slice from (length section) section ∷ []
    unfolding units_from
    units-last k = go (next_unit cuts section from) next-searched k
      where
        go : (r : ℕ) → Searched (suc from) r → length section ≤ r → between (from ∷ filter cuts (places_above cuts section from) ++ (length section ∷ [])) section ≡ slice from (length section) section ∷ []
        go r (none_passes e f) k = rw f
        go r (passes l m c f) k = absurd (omega arith)

uncut_start : (m : Model) (raw : Bool) (section : List ℕ) → cut m raw section 0 ≡ false
unfolding cut begins_unit
uncut_start m raw section = refl

-- A model's units are those from the section's start on.
pub units-start : (m : Model) (raw : Bool) (section : List ℕ) → units m raw section ≡ units_from (cut m raw section) section 0
unfolding units units_from
units-start m raw [] = refl
units-start m raw (x ∷ section) =
    let none_first : cut m raw (x ∷ section) 0 ≡ false = uncut_start m raw (x ∷ section) in
    let left : length section ≡ suc (length section) - 1 = omega arith in
    rw none_first (ap (λ (n : ℕ). between (0 ∷ filter (cut m raw (x ∷ section)) (count_from 1 n) ++ (suc (length section) ∷ [])) (x ∷ section)) left)
