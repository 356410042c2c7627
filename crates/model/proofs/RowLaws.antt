-- Laws of the merge rows: from row to row of their columns, and what a search among them gives.
use Rattle.std.specs.declared.cmp.Ordering.{Ordering}
use Rattle.std.specs.declared.cmp.Ordering.TheVariants.{Less, Equal}
use mathlib.Core.Path.{◌≡◌, refl, sym, ap, ◌∙◌}
use mathlib.Core.Bool.{Bool, true, false, ◌&&◌, ◌||◌}
use mathlib.Core.List.{List, map}
use Prim.Native.Nat.{ℕ, ◌+◌, ◌≤◌, ◌<◌, min}
use native.Mathlib.Nat.{le_of_lt, zero-add}
use native.Mathlib.Omega.{arith}
use borrow.Author.Tests.{lt-ltb, le-ltb, eq-eqb, ne_eqb}
use lib.Dec.{ltb, eqb}
use lib.ListN.{length, get_or, drop, length-map, get_or-map}
use Rattle.utf8.specs.Lists.{all, neighbours, zip, below}
use Rattle.utf8.proofs.Places.{length-zip, get_or_zip, get_or_inside, length-count_from, get_or_count_from, all_pair_next, all_pair_broken, all_pair_ended, all_pair_holds}
use Rattle.model.specs.Model.{Row, rows_of, row_of}
use Rattle.model.specs.ByteOrder.{order_or, byte_order, is_less}
use Rattle.model.specs.inner.Search.{pair_order, row_order, found_row, row_found}
use Rattle.model.specs.Check.{pair_before, rows_ascend}
use Rattle.model.proofs.OrderLaws.{by_below, by_numbers, or_less, or-greater, or_else, is_equal, equal-or, less_is, never, keys_ascend, two_of}
use Rattle.model.proofs.SearchLaws.{Falls, entry_found, keys_fall}

-- ---- rows in order

less_or : (x y : ℕ) (t : Bool) (o : Ordering) → t ≡ is_less o → (ltb x y || eqb x y && t) ≡ is_less (order_or x y o)
less_or x y t o e =
    by_numbers x y (λ l. rw (or_less x y o l, lt-ltb x y l)) (λ g. rw (or-greater x y o g, le-ltb x y (le_of_lt g), ne_eqb x y (omega arith)))
    (λ q. rw (or_else x y o q, le-ltb x y (omega arith), eq-eqb x y q) e)

less_alone : (x y : ℕ) → ltb x y ≡ is_less (order_or x y Equal)
less_alone x y =
    by_numbers x y (λ l. rw (lt-ltb x y l)) (λ g. rw (or-greater x y Equal g, le-ltb x y (le_of_lt g))) (λ q. rw (or_else x y Equal q, le-ltb x y (omega arith)))

-- A pair stands before another where their order says less.
pub before-is_less : (p q : ℕ × ℕ) → pair_before p q ≡ is_less (pair_order p q)
unfolding pair_before pair_order
before-is_less p q = less_or p.0 q.0 (ltb p.1 q.1) (order_or p.1 q.1 Equal) (less_alone p.1 q.1)

module _ (left right : List ℕ) (i : ℕ) where
  -- Whether the rows from a place on ascend.
  pub ascend_from : Bool
  ascend_from = all (λ (n : (ℕ × ℕ) × (ℕ × ℕ)). pair_before n.0 n.1) (drop i (neighbours (zip left right)))

module _ (left right : List ℕ) where
  pub ascend_start : rows_ascend left right ≡ ascend_from left right 0
  unfolding rows_ascend ascend_from
  ascend_start = refl

  module _ (i : ℕ) where
    -- the order of the rows at a place and the next
    abbrev pub next_order : Ordering
    next_order = pair_order (get_or left i 0, get_or right i 0) (get_or left (i + 1) 0, get_or right (i + 1) 0)

    before-next : i + 1 < length left → i + 1 < length right → pair_before (get_or (zip left right) i (0, 0)) (get_or (zip left right) (i + 1) (0, 0)) ≡ is_less next_order
    before-next h k =
        rw (get_or_zip left right i 0 0 (omega arith) (omega arith), get_or_zip left right (i + 1) 0 0 h k)
        (before-is_less (get_or left i 0, get_or right i 0) (get_or left (i + 1) 0, get_or right (i + 1) 0))

    pub ascend_next : i + 1 < length left → i + 1 < length right → is_less next_order ≡ true → ascend_from left right i ≡ ascend_from left right (i + 1)
    unfolding ascend_from
    ascend_next h k e = all_pair_next _ (zip left right) i (0, 0) (rw length-zip (omega arith)) (before-next h k ∙ e)

    pub ascend_broken : i + 1 < length left → i + 1 < length right → is_less next_order ≡ false → ascend_from left right i ≡ false
    unfolding ascend_from
    ascend_broken h k e = all_pair_broken _ (zip left right) i (0, 0) (rw length-zip (omega arith)) (before-next h k ∙ e)

    pub ascend_ended : min (length left) (length right) ≤ i + 1 → ascend_from left right i ≡ true
    unfolding ascend_from
    ascend_ended h = all_pair_ended _ (zip left right) i (0, 0) (rw length-zip h)

-- ---- results that are joins

-- ---- a search among rows that ascend

module _ (left right : List ℕ) (ascends : rows_ascend left right ≡ true) (level : length right ≡ length left) where
  row_key : ℕ → List ℕ
  row_key i = two_of (get_or left i 0, get_or right i 0)

  row_step : (i : ℕ) → i + 1 < length left → byte_order (row_key i) (row_key (i + 1)) ≡ Less
  unfolding rows_ascend row_key pair_order
  row_step i h =
      less_is (next_order left right i) (sym (before-next left right i h (omega arith)) ∙ all_pair_holds _ (zip left right) i (0, 0) ascends (rw length-zip (omega arith)))

  -- The left ids never fall.
  pub lefts_rise : (i j : ℕ) → i < j → j < length left → get_or left i 0 ≤ get_or left j 0
  unfolding row_key
  lefts_rise i j h k =
      by_below (get_or left j 0) (get_or left i 0)
      (λ l. never (sym (keys_ascend row_key (length left) row_step i j h k) ∙ or-greater (get_or left i 0) (get_or left j 0) _ l) refl refl)
      (λ m. m)

  pub rows_fall : (l r : ℕ) → Falls (row_order left right l r) (length left)
  unfolding row_order row_key pair_order
  rows_fall l r = keys_fall row_key (length left) row_step (two_of (l, r))

and-true : (b : Bool) → b ≡ (b && true)
and-true true = refl
and-true false = refl

pub pair_is-equal : (a b l r : ℕ) → (eqb a l && eqb b r) ≡ is_equal (pair_order (a, b) (l, r))
unfolding pair_order
pair_is-equal a b l r = equal-or a l (eqb b r) (order_or b r Equal) (and-true (eqb b r) ∙ equal-or b r true Equal refl)

module _ (left right result rank : List ℕ) where
  row_at : ℕ → Row
  row_at i = record { left = get_or left i 0; right = get_or right i 0; result = get_or result i 0; rank = get_or rank i 0 }

  pub length-rows : length (rows_of left right result rank) ≡ length left
  unfolding rows_of
  length-rows = length-map (below (length left)) _ ∙ length-count_from 0 (length left)

  -- The row at a place has what its columns have there.
  pub row_is : (i : ℕ) (d : Row) → i < length left → get_or (rows_of left right result rank) i d ≡ record { left = get_or left i 0; right = get_or right i 0; result = get_or result i 0; rank = get_or rank i 0 }
  unfolding rows_of row_at
  row_is i d h =
      get_or_inside (map row_at (below (length left))) i d (row_at 0) (omega (arith, length-rows))
      ∙ get_or-map row_at (below (length left)) i 0
      ∙ ap row_at (get_or_count_from 0 (length left) i 0 h ∙ zero-add i)

  -- A search among rows that ascend gives the row of the pair.
  pub row_found_lem : rows_ascend left right ≡ true → length right ≡ length left → (l r : ℕ) → row_found (rows_of left right result rank) (found_row left right l r) ≡ row_of (rows_of left right result rank) l r
  unfolding row_found found_row row_of row_order
  row_found_lem ascends level l r =
      entry_found (row_order left right l r) (length left) (rows_of left right result rank) _ _ length-rows (rows_fall left right ascends level l r)
      (λ i h. rw (row_is i _ h) (pair_is-equal (get_or left i 0) (get_or right i 0) l r))
