-- Laws of the search by halves.
use Rattle.std.specs.Prelude.{Option, None, Some, is_some}
use Rattle.std.specs.declared.cmp.Ordering.{Ordering}
use Rattle.std.specs.declared.cmp.Ordering.TheVariants.{Less, Equal, Greater}
use mathlib.Core.Path.{◌≡◌, refl, sym, ap, ◌∙◌}
use mathlib.Core.Bool.{Bool, true, false, cond}
use mathlib.Core.List.{List}
use mathlib.Core.Logic.{⊎_elim}
use Prim.Native.Nat.{ℕ, zero, suc, ◌+◌, ◌-◌, ◌/◌, ◌≤◌, ◌<◌}
use native.Mathlib.Omega.{arith}
use borrow.Author.Tests.{lt-ltb, le-ltb, ltb-true}
use lib.Dec.{ltb}
use lib.ListN.{length, get_or}
use Rattle.utf8.specs.Lists.{any, find}
use Rattle.utf8.proofs.Tests.{either, clash}
use Rattle.utf8.proofs.Places.{any-one, any_none, find_first, find_none}
use Rattle.model.specs.ByteOrder.{byte_order}
use Rattle.model.specs.inner.Search.{search_on, search_for, searched, entry_at}
use Rattle.model.proofs.OrderLaws.{is_equal, equal_is, never, unequal, by_below, by_numbers, turned, order_turned, equal-strings, keys_ascend}

-- two searches that agree where the test holds
agree : (b : Bool) {x y : Option ℕ} → (b ≡ true → x ≡ y) → cond b x None ≡ cond b y None
agree true f = f refl
agree false f = refl

module _ (order : ℕ → Ordering) where
  none_for : (turns lo hi : ℕ) → hi ≤ lo → search_for turns order lo hi ≡ None
  none_for zero lo hi h = refl
  none_for (suc turns) lo hi h = rw (le-ltb lo hi h)

  onward : (t u lo hi middle : ℕ) (o : Ordering) → search_for t order (middle + 1) hi ≡ search_for u order (middle + 1) hi → search_for t order lo middle ≡ search_for u order lo middle → search_on middle o (search_for t order) lo hi ≡ search_on middle o (search_for u order) lo hi
  onward t u lo hi middle Less up down = up
  onward t u lo hi middle Equal up down = refl
  onward t u lo hi middle Greater up down = down

  -- Turns beyond the number of places change nothing.
  enough : (t u lo hi : ℕ) → hi - lo ≤ t → hi - lo ≤ u → search_for t order lo hi ≡ search_for u order lo hi
  enough zero u lo hi h k = sym (none_for u lo hi (omega arith))
  enough (suc t) zero lo hi h k = none_for (suc t) lo hi (omega arith)
  enough (suc t) (suc u) lo hi h k =
      let middle : ℕ = (lo + hi) / 2 in
      agree (ltb lo hi)
      (λ e.
      let l : lo < hi = ltb-true lo hi e in
      onward t u lo hi middle (order middle) (enough t u (middle + 1) hi (omega arith) (omega arith))
      (enough t u lo middle (omega arith) (omega arith)))

  pub searched-none : (lo hi : ℕ) → hi ≤ lo → searched order lo hi ≡ None
  unfolding searched
  searched-none lo hi h = none_for (hi - lo) lo hi h

  settle : (n lo hi middle : ℕ) (o : Ordering) → hi - lo ≤ n → lo ≤ middle → middle < hi → search_on middle o (search_for n order) lo hi ≡ search_on middle o (searched order) lo hi
  unfolding searched
  settle n lo hi middle Less h a b = enough n (hi - (middle + 1)) (middle + 1) hi (omega arith) (omega arith)
  settle n lo hi middle Equal h a b = refl
  settle n lo hi middle Greater h a b = enough n (middle - lo) lo middle (omega arith) (omega arith)

  -- One turn of a search.
  pub searched_on : (lo hi : ℕ) → lo < hi → searched order lo hi ≡ search_on ((lo + hi) / 2) (order ((lo + hi) / 2)) (searched order) lo hi
  unfolding searched
  searched_on lo hi h =
      let middle : ℕ = (lo + hi) / 2 in
      enough (hi - lo) (suc (hi - lo)) lo hi (omega arith) (omega arith)
      ∙ rw (lt-ltb lo hi h)
      (settle (hi - lo) lo hi middle (order middle) (omega arith) (omega arith) (omega arith))

-- What a loop that searches by halves keeps: lo and hi stand from `from` on and before `to`, and the search between them ends as the whole does.
pub record Halving (order : ℕ → Ordering) (from to lo hi : ℕ) : Type 0 where
  pub inside : hi ≤ to
  pub same : searched order from to ≡ searched order lo hi

module _ (order : ℕ → Ordering) (from to : ℕ) where
  pub halving_start : {hi : ℕ} → hi ≡ to → Halving order from to from hi
  halving_start e = record { inside = omega arith; same = ap (searched order from) (sym e) }

  module _ (lo hi : ℕ) (h : Halving order from to lo hi) (l : lo < hi) where
    pub halving_up : order ((lo + hi) / 2) ≡ Less → Halving order from to ((lo + hi) / 2 + 1) hi
    halving_up e = record { inside = h.inside; same = h.same ∙ searched_on order lo hi l ∙ rw e }

    pub halving_down : order ((lo + hi) / 2) ≡ Greater → Halving order from to lo ((lo + hi) / 2)
    halving_down e = record { inside = omega (arith, h.inside); same = h.same ∙ searched_on order lo hi l ∙ rw e }

    pub halving_found : order ((lo + hi) / 2) ≡ Equal → Some ((lo + hi) / 2) ≡ searched order from to
    halving_found e = sym (h.same ∙ searched_on order lo hi l ∙ rw e)

  pub halving_none : (lo hi : ℕ) → Halving order from to lo hi → hi ≤ lo → None ≡ searched order from to
  halving_none lo hi h l = sym (h.same ∙ searched-none order lo hi l)

-- ---- what a search finds

-- The order falls in step with the places: before a place that is equal it is less, after it greater.
pub record Falls (order : ℕ → Ordering) (n : ℕ) : Type 0 where
  pub before : (i j : ℕ) → i < j → j < n → order j ≡ Equal → order i ≡ Less
  pub after : (i j : ℕ) → i < j → j < n → order i ≡ Equal → order j ≡ Greater

nothing {ℓ} : {A : Type ℓ} {i : ℕ} → None ≡ Some i → A
nothing e = clash refl (ap is_some e)

under : (b : Bool) {f : Option ℕ} {i : ℕ} → cond b f None ≡ Some i → (b ≡ true) × (f ≡ Some i)
under true e = (refl, e)
under false e = nothing e

module _ (order : ℕ → Ordering) where
  Sound : ℕ → ℕ → ℕ → Type 0
  Sound lo hi i = (lo ≤ i) × (i < hi) × (order i ≡ Equal)

  sound_on : (turns lo hi i middle : ℕ) (o : Ordering) → order middle ≡ o → lo ≤ middle → middle < hi → (search_for turns order (middle + 1) hi ≡ Some i → Sound (middle + 1) hi i) → (search_for turns order lo middle ≡ Some i → Sound lo middle i) → search_on middle o (search_for turns order) lo hi ≡ Some i → Sound lo hi i
  unfolding Sound
  sound_on turns lo hi i middle Less is a b up down e = let s = up e in (omega (arith, s.0), s.1, s.2)
  sound_on turns lo hi i middle Equal is a b up down e = let q : middle ≡ i = cc in (omega arith, omega arith, ap order (sym q) ∙ is)
  sound_on turns lo hi i middle Greater is a b up down e = let s = down e in (s.0, omega (arith, s.1), s.2)

  sound : (turns lo hi i : ℕ) → search_for turns order lo hi ≡ Some i → Sound lo hi i
  sound zero lo hi i e = nothing e
  sound (suc turns) lo hi i e =
      let middle : ℕ = (lo + hi) / 2 in
      let inner = under (ltb lo hi) e in
      let l : lo < hi = ltb-true lo hi inner.0 in
      sound_on turns lo hi i middle (order middle) refl (omega arith) (omega arith) (sound turns (middle + 1) hi i) (sound turns lo middle i) inner.1

  -- A place that a search gives lies before its end.
  pub found_below : (lo hi i : ℕ) → searched order lo hi ≡ Some i → i < hi
  unfolding searched Sound
  found_below lo hi i e = (sound (hi - lo) lo hi i e).1

  module _ (n : ℕ) where
    -- A place that a search gives is one of those searched, and equal.
    pub found_equal : (i : ℕ) → searched order 0 n ≡ Some i → (i < n) × (order i ≡ Equal)
    unfolding searched Sound
    found_equal i e = let s = sound (n - 0) 0 n i e in (s.1, s.2)

    module _ (falls : Falls order n) (i : ℕ) (is : order i ≡ Equal) where
      complete_on : (turns lo hi middle : ℕ) (o : Ordering) → order middle ≡ o → middle < n → i < n → (middle < i → search_for turns order (middle + 1) hi ≡ Some i) → (i < middle → search_for turns order lo middle ≡ Some i) → search_on middle o (search_for turns order) lo hi ≡ Some i
      complete_on turns lo hi middle Less e m h up down =
          by_numbers middle i up (λ g. never (sym e ∙ falls.after i middle g m is) refl refl) (λ q. never (sym e ∙ ap order q ∙ is) refl refl)
      complete_on turns lo hi middle Equal e m h up down =
          by_numbers middle i (λ l. never (sym (falls.before middle i l h is) ∙ e) refl refl)
          (λ g. unequal (sym (falls.after i middle g m is) ∙ e) refl refl)
          (λ q. ap Some q)
      complete_on turns lo hi middle Greater e m h up down =
          by_numbers middle i (λ l. never (sym (falls.before middle i l h is) ∙ e) refl refl) down
          (λ q. unequal (sym e ∙ ap order q ∙ is) refl refl)

      complete : (turns lo hi : ℕ) → hi - lo ≤ turns → lo ≤ i → i < hi → hi ≤ n → search_for turns order lo hi ≡ Some i
      complete zero lo hi t a b c = absurd (omega arith)
      complete (suc turns) lo hi t a b c =
          let middle : ℕ = (lo + hi) / 2 in
          let l : lo < hi = omega arith in
          rw (lt-ltb lo hi l)
          (complete_on turns lo hi middle (order middle) refl (omega arith) (omega arith)
          (λ g. complete turns (middle + 1) hi (omega arith) (omega arith) b c)
          (λ g. complete turns lo middle (omega arith) a g (omega arith)))

      -- A place that is equal is found.
      pub equal_found : i < n → searched order 0 n ≡ Some i
      unfolding searched
      equal_found h = complete (n - 0) 0 n (omega arith) (omega arith) h (omega arith)

    -- Where nothing is found, no place is equal.
    pub nothing-equal : Falls order n → searched order 0 n ≡ None → (i : ℕ) → i < n → order i ≡ Equal → ⊥
    nothing-equal falls e i h is = nothing (sym e ∙ equal_found falls i is h)

-- ---- a search in a part of the table

module _ (order : ℕ → Ordering) (n : ℕ) (falls : Falls order n) (lo hi : ℕ) (inside : hi ≤ n) (under : (i : ℕ) → i < lo → i < n → order i ≡ Less) (over : (i : ℕ) → hi ≤ i → i < n → order i ≡ Greater) where
  -- a place that is equal lies in the part
  equal-within : (i : ℕ) → i < n → order i ≡ Equal → (lo ≤ i) × (i < hi)
  equal-within i h e =
      by_below i lo (λ l. never (sym (under i l h) ∙ e) refl refl)
      (λ from. by_below i hi (λ up_to. (from, up_to)) (λ beyond. unequal (sym (over i beyond h) ∙ e) refl refl))

  -- Where what stands before the part is less and what stands behind it greater, a search in the part ends as one in the whole does.
  pub part-searched : searched order lo hi ≡ searched order 0 n
  unfolding searched Sound
  part-searched = go (searched order 0 n) refl
    where
      unfound : (f : Option ℕ) → searched order lo hi ≡ f → searched order 0 n ≡ None → searched order lo hi ≡ None
      unfound (Some j) e q =
          let s = sound order (hi - lo) lo hi j e in
          absurd (nothing-equal order n falls q j (omega (arith, s.1)) s.2)
      unfound None e q = e

      go : (f : Option ℕ) → searched order 0 n ≡ f → searched order lo hi ≡ searched order 0 n
      go (Some i) e =
          let s = found_equal order n i e in
          let w = equal-within i s.0 s.1 in
          complete order n falls i s.1 (hi - lo) lo hi (omega arith) w.0 w.1 inside ∙ sym e
      go None e = unfound (searched order lo hi) refl e ∙ sym e

-- ---- the entry that is found

module _ {A : Type 0} (order : ℕ → Ordering) (n : ℕ) (xs : List A) (d : A) (test : A → Bool) (sized : length xs ≡ n) (falls : Falls order n) (tells : (i : ℕ) → i < n → test (get_or xs i d) ≡ is_equal (order i)) where
  passes : (i : ℕ) → i < n → order i ≡ Equal → test (get_or xs i d) ≡ true
  passes i h e = tells i h ∙ ap is_equal e

  fails : searched order 0 n ≡ None → (i : ℕ) → i < length xs → test (get_or xs i d) ≡ false
  fails e i h =
      let inside : i < n = omega arith in
      tells i inside
      ∙ ⊎_elim (λ t. absurd (nothing-equal order n falls e i inside (equal_is (order i) t))) (λ f. f) (either (is_equal (order i)))

  -- A search gives the first entry that passes the test of being equal.
  pub entry_found : entry_at d xs (searched order 0 n) ≡ find test xs
  entry_found = go (searched order 0 n) refl
    where
      go : (f : Option ℕ) → searched order 0 n ≡ f → entry_at d xs f ≡ find test xs
      go (Some i) e =
          let s = found_equal order n i e in
          sym
          (find_first test xs i d (omega (arith, s.0)) (passes i s.0 s.1)
          (λ j k. tells j (omega (arith, s.0)) ∙ ap is_equal (falls.before j i k s.0 s.1)))
      go None e = sym (find_none test xs d (fails e))

  -- A search finds a place exactly if some entry passes the test.
  pub found_any : is_some (searched order 0 n) ≡ any test xs
  found_any = go (searched order 0 n) refl
    where
      go : (f : Option ℕ) → searched order 0 n ≡ f → is_some f ≡ any test xs
      go (Some i) e = let s = found_equal order n i e in sym (any-one test xs i d (omega (arith, s.0)) (passes i s.0 s.1))
      go None e = sym (any_none test xs d (fails e))

-- ---- a search among keys that ascend

module _ (key : ℕ → List ℕ) (n : ℕ) (step : (i : ℕ) → i + 1 < n → byte_order (key i) (key (i + 1)) ≡ Less) where
  pub keys_fall : (sought : List ℕ) → Falls (λ (i : ℕ). byte_order (key i) sought) n
  keys_fall sought =
      record {
        before = λ i j h k e. ap (byte_order (key i)) (sym (equal-strings (key j) sought e)) ∙ keys_ascend key n step i j h k;
        after = λ i j h k e.
            ap (byte_order (key j)) (sym (equal-strings (key i) sought e)) ∙ order_turned (key i) (key j) ∙ ap turned (keys_ascend key n step i j h k);
      }
