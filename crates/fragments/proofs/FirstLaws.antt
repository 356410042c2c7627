-- The first place that passes a test, and places that may be safe. Assumes nothing.
use Rattle.std.specs.Prelude.{None, Some}
use Prim.Native.Nat.{ℕ, zero, suc, ◌+◌, ◌-◌, ◌≤◌, ◌<◌}
use native.Mathlib.Nat.{add-zero, eq-or-lt_of_le}
use native.Mathlib.Numerals.{add-one}
use native.Mathlib.Omega.{arith}
use mathlib.Core.Path.{◌≡◌, refl, sym, ap, ◌∙◌}
use mathlib.Core.Bool.{Bool, true, false, not, cond, ◌&&◌, ◌||◌}
use mathlib.Core.Logic.{⊎_elim}
use mathlib.Core.List.{List, [], ◌∷◌}
use borrow.Author.Tests.{eqb-true, lt-ltb}
use lib.Dec.{eqb, ltb}
use lib.ListN.{length, drop, get_or}
use Rattle.utf8.specs.Lists.{find, count_from, starts_with}
use Rattle.utf8.specs.Chars.{tail, has_form}
use Rattle.utf8.proofs.Tests.{clash, and_left, and_both, or_left, or_right}
use Rattle.model.specs.Model.{TokenList}
use Rattle.model.specs.Mark.{mark, space, mark_width, starts_with_mark}
use Rattle.units.specs.Kinds.{Crossing}
use Rattle.units.specs.Units.{mark_cuts}
use Rattle.units.specs.declared.WordSplit.{WordSplit}
use Rattle.units.specs.declared.WordSplit.TheVariants as split
use Rattle.units.proofs.StartLaws.{no_mark_byte}
use Rattle.fragments.specs.inner.Reach.{Edge, blocked_in}
use Rattle.fragments.specs.inner.Search.{place_or, first_from, safe_in}
use Rattle.fragments.proofs.ChoiceLaws.{never, second-false, lt-or-le}
use Rattle.fragments.proofs.Bounded.{find_where}

module _ (test : ℕ → Bool) (n : ℕ) where
  places_at : (p : ℕ) → p < n → count_from p (n - p) ≡ p ∷ count_from (p + 1) (n - (p + 1))
  places_at p h = let more : n - p ≡ suc (n - suc p) = omega arith in rw (more, add-one)

  pub first_found : (p : ℕ) → p < n → test p ≡ true → first_from test n p ≡ p
  unfolding first_from
  first_found p h e = rw (places_at p h, e)

  pub first_next : (p : ℕ) → p < n → test p ≡ false → first_from test n p ≡ first_from test n (p + 1)
  unfolding first_from
  first_next p h e = ap (λ (l : List ℕ). place_or n (find test l)) (places_at p h) ∙ rw e

  pub first_ended : (p : ℕ) → n ≤ p → first_from test n p ≡ n
  unfolding first_from
  first_ended p h = let none_left : n - p ≡ 0 = omega arith in rw none_left

  -- A search of which the end is told apart.
  pub sought_here : (p : ℕ) → p < n → test p ≡ true → find test (count_from p (n - p)) ≡ Some p
  sought_here p h e = rw (places_at p h, e)

  pub sought_next : (p : ℕ) → p < n → test p ≡ false → find test (count_from p (n - p)) ≡ find test (count_from (p + 1) (n - (p + 1)))
  sought_next p h e = ap (find test) (places_at p h) ∙ rw e

  pub sought_ended : (p : ℕ) → n ≤ p → find test (count_from p (n - p)) ≡ None
  sought_ended p h = let none_left : n - p ≡ 0 = omega arith in rw none_left

  pub sought_found : (p r : ℕ) → find test (count_from p (n - p)) ≡ Some r → (r < n) × (r ≡ first_from test n p)
  unfolding first_from
  sought_found p r e = let f = find_where test p (n - p) r e in (omega (arith, f.low, f.high), rw e)

  pub sought-none : (p : ℕ) → find test (count_from p (n - p)) ≡ None → first_from test n p ≡ n
  unfolding first_from
  sought-none p e = rw e

  first_pass : (k p : ℕ) → ((q : ℕ) → p ≤ q → q < p + k → test q ≡ false) → first_from test n p ≡ first_from test n (p + k)
  first_pass zero p f = rw add-zero
  first_pass (suc k) p f =
      ⊎_elim
      (λ (h : p < n). let next : (p + 1) + k ≡ p + suc k = omega arith in first_next p h (f p (omega arith) (omega arith)) ∙ first_pass k (p + 1) (λ q l m. f q (omega arith) (omega arith)) ∙ ap (first_from test n) next)
      (λ (h : n ≤ p). first_ended p h ∙ sym (first_ended (p + suc k) (omega arith)))
      (lt-or-le p n)

  -- Places that fail are passed over.
  pub first_skip : (p r : ℕ) → p ≤ r → ((q : ℕ) → p ≤ q → q < r → test q ≡ false) → first_from test n p ≡ first_from test n r
  first_skip p r h f =
      let there : p + (r - p) ≡ r = omega arith in
      first_pass (r - p) p (λ q l m. f q l (omega arith)) ∙ ap (first_from test n) there

  -- What is known of the first place.
  pub record First (p r : ℕ) : Type 0 where
    pub high : r ≤ n
    pub low : r < n → p ≤ r
    pub holds : r < n → test r ≡ true
    pub fail : (q : ℕ) → p ≤ q → q < r → test q ≡ false

  first_of : (k p : ℕ) → n ≤ p + k → First p (first_from test n p)
  first_of zero p h =
      rw (first_ended p (omega arith)) (record { high = omega arith; low = λ l. absurd (omega arith); holds = λ l. absurd (omega arith); fail = λ q l m. absurd (omega arith) })
  first_of (suc k) p h = ⊎_elim (λ (l : p < n). go l (first_of k (p + 1) (omega arith)) (test p) refl) (λ (l : n ≤ p). rw (first_ended p l) (record { high = omega arith; low = λ m. absurd (omega arith); holds = λ m. absurd (omega arith); fail = λ q m o. absurd (omega arith) })) (lt-or-le p n)
    where
      go : p < n → First (p + 1) (first_from test n (p + 1)) → (b : Bool) → test p ≡ b → First p (first_from test n p)
      go l later true e = rw (first_found p l e) (record { high = omega arith; low = λ m. omega arith; holds = λ m. e; fail = λ q m o. absurd (omega arith) })
      go l later false e =
          rw (first_next p l e)
          (record {
            high = later.high;
            low = λ m. omega (arith, later.low m);
            holds = later.holds;
            fail = λ q m o. ⊎_elim (λ (s : p ≡ q). ap test (sym s) ∙ e) (λ (s : p < q). later.fail q (omega arith) o) (eq-or-lt_of_le m);
          })

  pub first-at : (p : ℕ) → First p (first_from test n p)
  first-at p = first_of n p (omega arith)

-- Where one test holds only where another does, the first place of the other is passed on the way.
pub first_narrow : (test wide : ℕ → Bool) (n p : ℕ) → ((q : ℕ) → wide q ≡ false → test q ≡ false) → first_from test n p ≡ first_from test n (first_from wide n p)
first_narrow test wide n p f =
    let r = first_from wide n p in
    let w = first-at wide n p in
    ⊎_elim
    (λ (h : r < p). let all_of : n ≤ r = ⊎_elim (λ (m : r < n). absurd (omega (arith, w.low m))) (λ m. m) (lt-or-le r n) in first_ended test n p (omega arith) ∙ sym (first_ended test n r all_of))
    (λ (h : p ≤ r). first_skip test n p r h (λ q l m. f q (w.fail q l m)))
    (lt-or-le r p)

-- ---- marks

-- A mark or space starts where no UTF8-tail stands.
mark-edge : (u : List ℕ) → starts_with_mark true u ≡ true → has_form (tail ∷ []) u ≡ false
unfolding starts_with_mark mark_width mark space
mark-edge [] e = refl
mark-edge (b ∷ u) e = go (eqb 0xE2 b) refl (eqb 0x20 b) refl e
  where
    go : (m : Bool) → eqb 0xE2 b ≡ m → (s : Bool) → eqb 0x20 b ≡ s
        → ltb 0 (cond (m && starts_with (0x96 ∷ 0x81 ∷ []) u) 3 (cond (true && (s && starts_with [] u)) 1 0)) ≡ true → has_form (tail ∷ []) (b ∷ u) ≡ false
    go true p s q f = ap (λ (x : ℕ). has_form (tail ∷ []) (x ∷ u)) (sym (eqb-true 0xE2 b p))
    go false p true q f = ap (λ (x : ℕ). has_form (tail ∷ []) (x ∷ u)) (sym (eqb-true 0x20 b q))
    go false p false q f = clash refl f

cuts-mark : (kind : WordSplit) (noted : List Crossing) (text : List ℕ) (p : ℕ) → mark_cuts kind noted true text p ≡ true → starts_with_mark true (drop p text) ≡ true
unfolding mark_cuts
cuts-mark split.SpaceRuns noted text p e =
    let a = starts_with_mark true (drop p text) in
    and_left a _ (and_left (a && _) _ e)
cuts-mark split.EveryMark noted text p e = e
cuts-mark split.None noted text p e = clash refl e

pub cuts-edge : (kind : WordSplit) (noted : List Crossing) (text : List ℕ) (p : ℕ) → mark_cuts kind noted true text p ≡ true → Edge text p
cuts-edge kind noted text p e = mark-edge (drop p text) (cuts-mark kind noted text p e)

-- At a byte that is no space and begins no mark nothing is cut.
pub no_mark : (kind : WordSplit) (noted : List Crossing) (text : List ℕ) (p : ℕ) → p < length text → (eqb (get_or text p 0) 0x20 || eqb (get_or text p 0) 0xE2) ≡ false → mark_cuts kind noted true text p ≡ false
unfolding starts_with_mark
no_mark kind noted text p h e =
    let b = get_or text p 0 in
    never (mark_cuts kind noted true text p)
    (λ c. clash (ap (ltb 0) (no_mark_byte true text p h (or_right (eqb b 0x20) (eqb b 0xE2) e) (or_left (eqb b 0x20) (eqb b 0xE2) e))) (cuts-mark kind noted text p c))

-- ---- safe places

module _ (kind : WordSplit) (noted : List Crossing) (unguarded : Bool) (t : TokenList) (text : List ℕ) (p : ℕ) where
  abbrev cuts : Bool
  cuts = mark_cuts kind noted true text p

  pub safe_mark : cuts ≡ false → safe_in kind noted unguarded t text p ≡ false
  unfolding safe_in
  safe_mark e = rw (second-false (ltb 0 p) e)

  pub safe_blocked : blocked_in unguarded t text p ≡ true → safe_in kind noted unguarded t text p ≡ false
  unfolding safe_in
  safe_blocked e = second-false (ltb 0 p && cuts) (ap not e)

  pub safe_free : 0 < p → cuts ≡ true → blocked_in unguarded t text p ≡ false → safe_in kind noted unguarded t text p ≡ true
  unfolding safe_in
  safe_free h e f = and_both (and_both (lt-ltb 0 p h) e) (ap not f)
