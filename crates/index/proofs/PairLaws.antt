-- What the words of a pair table say of the rows.
use mathlib.Core.Path.{◌≡◌, refl, sym}
use mathlib.Core.Bool.{Bool, true, false, cond, ◌||◌}
use mathlib.Core.List.{List, [], ◌∷◌}
use Prim.Native.Nat.{ℕ, ◌+◌, ◌<◌}
use native.Mathlib.Nat.{zero-add, mod-eq_of_lt, add-mod_right}
use native.Mathlib.Omega.{arith}
use borrow.Author.Tests.{leb-false, lt-leb, eqb-true, eq-eqb}
use lib.Dec.{ltb, leb, eqb}
use lib.ListN.{length, get_or}
use Rattle.utf8.specs.Lists.{any, filter, below}
use Rattle.utf8.proofs.Tests.{clash, or_left, or_right, or_also}
use Rattle.utf8.proofs.Places.{any-one, any_none, length-count_from, get_or_count_from}
use Rattle.utf8.proofs.Fronts.{length-row, get_or_row}
use Rattle.index.specs.Index.{slot_count, pair_slot, second_slot_count, second_slot, row_slot, slot_rows, lowest_row, slot_word, shared, named_row, table_words, pair_words, unnamed, second_words}

-- ---- rows that a test keeps

-- Whether a row is one of some.
abbrev pub among : List ℕ → ℕ → Bool
among rows i = any (λ (k : ℕ). eqb k i) rows

pub among_all : (n i : ℕ) → i < n → among (below n) i ≡ true
among_all n i h =
    any-one (λ (k : ℕ). eqb k i) (below n) i 0 (omega (arith, length-count_from 0 n))
    (rw (get_or_count_from 0 n i 0 h, zero-add i) (eq-eqb i i refl))

pub none_beyond : (n : ℕ) → any (leb n) (below n) ≡ false
none_beyond n =
    any_none (leb n) (below n) 0
    (λ i h.
    let l : i < n = omega (arith, length-count_from 0 n) in
    rw (get_or_count_from 0 n i 0 l, zero-add i) (lt-leb n i l))

module _ (test : ℕ → Bool) where
  pub kept : (rows : List ℕ) (i : ℕ) → among rows i ≡ true → test i ≡ true → among (filter test rows) i ≡ true
  kept [] i m e = m
  kept (x ∷ rows) i m e = go (eqb x i) (test x) refl refl m (λ n. kept rows i n e)
    where
      go : (here passes : Bool) → eqb x i ≡ here → test x ≡ passes → (here || among rows i) ≡ true → (among rows i ≡ true → among (filter test rows) i ≡ true)
          → among (cond passes (x ∷ filter test rows) (filter test rows)) i ≡ true
      go true true h p n rest = rw h
      go true false h p n rest = clash p (rw (eqb-true x i h) e)
      go false true h p n rest = or_also (eqb x i) (rest n)
      go false false h p n rest = rest n

  pub fails_kept : (other : ℕ → Bool) (rows : List ℕ) → any other rows ≡ false → any other (filter test rows) ≡ false
  fails_kept other [] e = refl
  fails_kept other (x ∷ rows) e = go (test x) (fails_kept other rows (or_right (other x) (any other rows) e))
    where
      go : (passes : Bool) → any other (filter test rows) ≡ false → any other (cond passes (x ∷ filter test rows) (filter test rows)) ≡ false
      go true rest = rw (or_left (other x) (any other rows) e) rest
      go false rest = rest

only : (b : Bool) → (b || false) ≡ true → b ≡ true
only true e = refl
only false e = clash refl e

-- The row of lowest rank is one of the rows.
lowest_fails : (rank : List ℕ) (test : ℕ → Bool) (i : ℕ) (rows : List ℕ) → any test (i ∷ rows) ≡ false → test (lowest_row rank i rows) ≡ false
lowest_fails rank test i [] e = or_left (test i) false e
lowest_fails rank test i (j ∷ rows) e =
    let rest = or_right (test i) (any test (j ∷ rows)) e in
    let without : any test (i ∷ rows) ≡ false = rw (or_left (test i) (any test (j ∷ rows)) e) (or_right (test j) (any test rows) rest) in
    go (ltb (get_or rank j 0) (get_or rank i 0)) (lowest_fails rank test j rows rest) (lowest_fails rank test i rows without)
  where
    go : (b : Bool) → test (lowest_row rank j rows) ≡ false → test (lowest_row rank i rows) ≡ false → test (lowest_row rank (cond b j i) rows) ≡ false
    go true a c = a
    go false a c = c

-- ---- a slot's word

pub slot_below : (l r : ℕ) → pair_slot l r < slot_count
unfolding pair_slot
slot_below l r = omega arith

pub second_below : (l r : ℕ) → second_slot l r < second_slot_count
unfolding second_slot
second_below l r = omega arith

-- In a table over some of the rows, whose pairs are spread in some way.
module _ (spread : ℕ → ℕ → ℕ) (left right rows : List ℕ) (slot : ℕ) where
  -- Whether the row at a place is one of them and belongs to the slot.
  abbrev pub belongs : ℕ → Type 0
  belongs j = (among rows j ≡ true) × (row_slot spread left right j ≡ slot)

  -- A word that is 0 has no row in its slot; any other names a row, the only one of the slot where the word is not a shared one.
  pub data Says (w : ℕ) : Type 0 where
    nothing : w ≡ 0 → ((j : ℕ) → belongs j → ⊥) → Says w
    alone : (i : ℕ) → i < length left → w ≡ i + 1 → ((j : ℕ) → belongs j → j ≡ i) → Says w
    several : (i : ℕ) → i < length left → w ≡ i + 1 + shared → Says w

  slot_member : (j : ℕ) → belongs j → among (slot_rows spread left right rows slot) j ≡ true
  unfolding slot_rows
  slot_member j m = kept (λ (i : ℕ). eqb (row_slot spread left right i) slot) rows j m.0 (eq-eqb _ _ m.1)

  -- The word of a slot says what is so.
  pub slot_says : (rank : List ℕ) → any (leb (length left)) rows ≡ false → Says (slot_word rank (slot_rows spread left right rows slot))
  unfolding slot_word slot_rows
  slot_says rank inside = go (slot_rows spread left right rows slot) slot_member (fails_kept _ (leb (length left)) rows inside)
    where
      go : (found : List ℕ) → ((j : ℕ) → belongs j → among found j ≡ true) → any (leb (length left)) found ≡ false → Says (slot_word rank found)
      go [] m n = nothing refl (λ j b. clash refl (m j b))
      go (i ∷ []) m n =
          alone i (leb-false (length left) i (or_left (leb (length left) i) false n)) refl
          (λ j b. sym (eqb-true i j (only (eqb i j) (m j b))))
      go (i ∷ j ∷ found) m n =
          let lowest = lowest_row rank i (j ∷ found) in
          several lowest (leb-false (length left) lowest (lowest_fails rank (leb (length left)) i (j ∷ found) n)) refl

-- ---- the words of a table

module _ (spread : ℕ → ℕ → ℕ) (count : ℕ) (left right rank rows : List ℕ) where
  pub length-table : length (table_words spread count left right rank rows) ≡ count
  unfolding table_words
  length-table = length-row (λ (slot : ℕ). slot_word rank (slot_rows spread left right rows slot)) count

  pub table_at : (slot : ℕ) → slot < count → get_or (table_words spread count left right rank rows) slot 0 ≡ slot_word rank (slot_rows spread left right rows slot)
  unfolding table_words
  table_at slot h = get_or_row (λ (slot : ℕ). slot_word rank (slot_rows spread left right rows slot)) count slot 0 h

module _ (left right rank : List ℕ) where
  pub length_pairs : length (pair_words left right rank) ≡ slot_count
  unfolding pair_words
  length_pairs = length-table pair_slot slot_count left right rank (below (length left))

  pub length-second : (words : List ℕ) → length (second_words left right rank words) ≡ second_slot_count
  unfolding second_words
  length-second words = length-table second_slot second_slot_count left right rank (unnamed left right words)

-- ---- the row that a word names

module _ (i : ℕ) (few : i + 1 < shared) where
  pub names_alone : named_row (i + 1) ≡ i
  names_alone = rw (mod-eq_of_lt few) (omega arith)

  pub names_several : named_row (i + 1 + shared) ≡ i
  names_several = rw (add-mod_right (i + 1) shared, mod-eq_of_lt few) (omega arith)
