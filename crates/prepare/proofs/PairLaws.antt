-- Laws of the pair tables: row by row each is noted in the word of its slot, and at the end the words are those of all.
use mathlib.Core.Path.{◌≡◌, refl, sym, ap, ◌∙◌}
use mathlib.Core.Bool.{Bool, true, false, cond}
use mathlib.Core.List.{List, [], ◌∷◌, ◌++◌, map, append-nil}
use Prim.Native.Nat.{ℕ, zero, suc, ◌+◌, ◌-◌, ◌%◌, ◌≤◌, ◌<◌}
use native.Mathlib.Nat.{not-suc-le-zero, le_of_suc-le-suc, add-zero, zero-add, add-suc, suc-add}
use native.Mathlib.Numerals.{add-one}
use native.Mathlib.Omega.{arith}
use borrow.Author.Tests.{ltb-true, lt-ltb, le-ltb, eq-eqb, ne_eqb}
use lib.Dec.{ltb, eqb}
use lib.ListN.{length, get_or, take, set, length-append, get_or-append}
use lib.Seq.{take_at, length-take-le, get_or-append-add}
use Rattle.utf8.specs.Lists.{all, filter, count_from, below}
use Rattle.utf8.proofs.Tests.{and_left, and_right, and_both}
use Rattle.utf8.proofs.Fronts.{get_or_row}
use Rattle.model.specs.Answers.{zeros}
use Rattle.index.specs.Index.{pair_slot, second_slot, row_slot, slot_rows, lowest_row, shared, slot_word, named_row, table_words, pair_words, is_unnamed, unnamed, second_words}
use Rattle.index.proofs.PairLaws.{length-table}
use Rattle.prepare.specs.inner.Pairs.{word_with}

-- ---- numbers below one more, and those of them that pass a test

count_next : (first n : ℕ) → count_from first (suc n) ≡ count_from first n ++ ((first + n) ∷ [])
count_next first zero = rw add-zero
count_next first (suc n) = rw (add-suc, ← suc-add) (ap (λ (l : List ℕ). first ∷ l) (count_next (suc first) n))

filter-last : (test : ℕ → Bool) (xs : List ℕ) (y : ℕ) → filter test (xs ++ (y ∷ [])) ≡ filter test xs ++ cond (test y) (y ∷ []) []
filter-last test [] y = refl
filter-last test (x ∷ xs) y = go (test x) (filter-last test xs y)
  where
    go : (b : Bool) → filter test (xs ++ (y ∷ [])) ≡ filter test xs ++ cond (test y) (y ∷ []) []
        → cond b (x ∷ filter test (xs ++ (y ∷ []))) (filter test (xs ++ (y ∷ []))) ≡ cond b (x ∷ filter test xs) (filter test xs) ++ cond (test y) (y ∷ []) []
    go true e = ap (λ (l : List ℕ). x ∷ l) e
    go false e = e

-- All of a list's numbers are below a bound.
abbrev small : ℕ → List ℕ → Bool
small bound xs = all (λ (x : ℕ). ltb x bound) xs

small_count : (bound first n : ℕ) → first + n ≤ bound → small bound (count_from first n) ≡ true
small_count bound first zero h = refl
small_count bound first (suc n) h = and_both (lt-ltb first bound (omega arith)) (small_count bound (suc first) n (omega arith))

small-filter : (bound : ℕ) (test : ℕ → Bool) (xs : List ℕ) → small bound xs ≡ true → small bound (filter test xs) ≡ true
small-filter bound test [] e = refl
small-filter bound test (x ∷ xs) e =
    go (test x) (small-filter bound test xs (and_right (ltb x bound) (small bound xs) e))
  where
    go : (b : Bool) → small bound (filter test xs) ≡ true → small bound (cond b (x ∷ filter test xs) (filter test xs)) ≡ true
    go true rest = and_both (and_left (ltb x bound) (small bound xs) e) rest
    go false rest = rest

-- ---- the word of a slot with one row more

module _ (rank : List ℕ) where
  -- the row of lower rank, the first of equals
  lower : ℕ → ℕ → ℕ
  lower i j = cond (ltb (get_or rank j 0) (get_or rank i 0)) j i

  lower_small : (bound i j : ℕ) → i < bound → j < bound → lower i j < bound
  unfolding lower
  lower_small bound i j h k = go (ltb (get_or rank j 0) (get_or rank i 0))
    where
      go : (b : Bool) → cond b j i < bound
      go true = k
      go false = h

  lowest-small : (bound i : ℕ) (rows : List ℕ) → i < bound → small bound rows ≡ true → lowest_row rank i rows < bound
  unfolding lower
  lowest-small bound i [] h e = h
  lowest-small bound i (j ∷ rows) h e =
      lowest-small bound (cond (ltb (get_or rank j 0) (get_or rank i 0)) j i) rows
      (lower_small bound i j h (ltb-true j bound (and_left (ltb j bound) (small bound rows) e)))
      (and_right (ltb j bound) (small bound rows) e)

  lowest-last : (i : ℕ) (rows : List ℕ) (k : ℕ) → lowest_row rank i (rows ++ (k ∷ [])) ≡ lower (lowest_row rank i rows) k
  unfolding lower
  lowest-last i [] k = refl
  lowest-last i (j ∷ rows) k = lowest-last (cond (ltb (get_or rank j 0) (get_or rank i 0)) j i) rows k

  -- a word that names a row, with one row more
  with_named : (word row i : ℕ) → word % shared ≡ row + 1 → word_with rank word i ≡ lower row i + 1 + shared
  unfolding word_with lower
  with_named word row i e =
      let same : row + 1 - 1 ≡ row = omega arith in
      rw (e, ne_eqb (row + 1) 0 (λ z. omega arith), same)

  -- the same by the tests that code makes
  module _ (word named i : ℕ) (is : named ≡ word % shared) where
    pub with_none : named ≡ 0 → i + 1 ≡ word_with rank word i
    unfolding word_with
    with_none e = rw (← is, e)

    module _ (some : named ≡ 0 → ⊥) where
      pub with_lower : get_or rank i 0 < get_or rank (named - 1) 0 → i + 1 + shared ≡ word_with rank word i
      unfolding word_with
      with_lower h = rw (← is, ne_eqb named 0 some, lt-ltb (get_or rank i 0) (get_or rank (named - 1) 0) h)

      pub with_kept : get_or rank (named - 1) 0 ≤ get_or rank i 0 → named + shared ≡ word_with rank word i
      unfolding word_with
      with_kept h = rw (← is, ne_eqb named 0 some, le-ltb (get_or rank i 0) (get_or rank (named - 1) 0) h) (omega arith)

  -- The word of the rows with one more behind them, whose places are small enough to leave the bit of shared slots free.
  word_next : (rows : List ℕ) (i : ℕ) → small 1048576 rows ≡ true → slot_word rank (rows ++ (i ∷ [])) ≡ word_with rank (slot_word rank rows) i
  unfolding slot_word word_with lower
  word_next [] i e = refl
  word_next (x ∷ []) i e =
      let less : x < 1048576 = ltb-true x 1048576 (and_left (ltb x 1048576) true e) in
      sym (with_named (x + 1) x i (omega arith))
  word_next (x ∷ y ∷ rows) i e =
      let row = lowest_row rank x (y ∷ rows) in
      let less : row < 1048576 = lowest-small 1048576 x (y ∷ rows) (ltb-true x 1048576 (and_left (ltb x 1048576) (small 1048576 (y ∷ rows)) e)) (and_right (ltb x 1048576) (small 1048576 (y ∷ rows)) e) in
      ap (λ (r : ℕ). r + 1 + shared) (lowest-last x (y ∷ rows) i) ∙ sym (with_named (row + 1 + shared) row i (omega arith))

-- ---- a row of words that is set at one place

-- A row of what f gives each number, set at one place to what g gives it, is that of g, where the two agree on all others.
set-row : (f g : ℕ → ℕ) (first n s : ℕ) → s < n → ((k : ℕ) → (k ≡ first + s → ⊥) → f k ≡ g k) → set (map f (count_from first n)) s (g (first + s)) ≡ map g (count_from first n)
set-row f g first zero s h same = absurd (not-suc-le-zero h)
set-row f g first (suc n) zero h same =
    rw add-zero (ap (λ (l : List ℕ). g first ∷ l) (rest (suc first) n (omega arith)))
  where
    rest : (a k : ℕ) → first < a → map f (count_from a k) ≡ map g (count_from a k)
    rest a zero l = refl
    rest a (suc k) l = rw (same a (λ e. omega arith), rest (suc a) k (omega arith))
set-row f g first (suc n) (suc s) h same =
    rw (same first (λ e. omega arith), add-suc, ← suc-add)
    (ap (λ (l : List ℕ). g first ∷ l) (set-row f g (suc first) n s (le_of_suc-le-suc h) (λ k d. same k (λ e. d (omega arith)))))

-- ---- a table over some rows

module _ (spread : ℕ → ℕ → ℕ) (left right rank : List ℕ) where
  word_of : List ℕ → ℕ → ℕ
  word_of rows slot = slot_word rank (slot_rows spread left right rows slot)

  rows_next : (rows : List ℕ) (i slot : ℕ) → slot_rows spread left right (rows ++ (i ∷ [])) slot ≡ slot_rows spread left right rows slot ++ cond (eqb (row_slot spread left right i) slot) (i ∷ []) []
  unfolding slot_rows
  rows_next rows i slot = filter-last (λ (j : ℕ). eqb (row_slot spread left right j) slot) rows i

  -- With one row more the words of other slots stay, and that of its own has one row more.
  word_stays : (rows : List ℕ) (i slot : ℕ) → (slot ≡ row_slot spread left right i → ⊥) → word_of rows slot ≡ word_of (rows ++ (i ∷ [])) slot
  unfolding word_of
  word_stays rows i slot other = ap (slot_word rank) (sym (rows_next rows i slot ∙ rw (ne_eqb (row_slot spread left right i) slot (λ e. other (sym e)), append-nil)))

  word_grows : (rows : List ℕ) (i slot : ℕ) → small 1048576 rows ≡ true → slot ≡ row_slot spread left right i → word_of (rows ++ (i ∷ [])) slot ≡ word_with rank (word_of rows slot) i
  unfolding word_of slot_rows
  word_grows rows i slot few own =
      ap (slot_word rank) (rows_next rows i slot ∙ rw (eq-eqb (row_slot spread left right i) slot (sym own)))
      ∙ word_next rank (slot_rows spread left right rows slot) i (small-filter 1048576 (λ (j : ℕ). eqb (row_slot spread left right j) slot) rows few)

  module _ (n : ℕ) where
    -- Over no rows all words are zero.
    pub table-start : zeros n ≡ table_words spread n left right rank []
    unfolding table_words slot_rows slot_word
    table-start = go 0 n
      where
        go : (first n : ℕ) → zeros n ≡ map (λ (slot : ℕ). slot_word rank (slot_rows spread left right [] slot)) (count_from first n)
        go first zero = refl
        go first (suc n) = ap (λ (l : List ℕ). 0 ∷ l) (go (suc first) n)

    -- One row more is noted in its slot.
    pub table-next : (rows words : List ℕ) (i slot word : ℕ) → words ≡ table_words spread n left right rank rows → small 1048576 rows ≡ true → slot < n → slot ≡ row_slot spread left right i → word ≡ word_with rank (get_or words slot 0) i
        → set words slot word ≡ table_words spread n left right rank (rows ++ (i ∷ []))
    unfolding table_words word_of
    table-next rows words i slot word is few h s w =
        let old : get_or words slot 0 ≡ word_of rows slot = ap (λ (l : List ℕ). get_or l slot 0) is ∙ get_or_row (word_of rows) n slot 0 h in
        let new : word ≡ word_of (rows ++ (i ∷ [])) (0 + slot) = w ∙ ap (λ (o : ℕ). word_with rank o i) old ∙ sym (word_grows rows i slot few s) ∙ ap (word_of (rows ++ (i ∷ []))) (sym (zero-add slot)) in
        rw (is, new) (set-row (word_of rows) (word_of (rows ++ (i ∷ []))) 0 n slot h (λ j d. word_stays rows i j (λ e. d (e ∙ sym s ∙ sym (zero-add slot)))))

-- ---- the rows in their order

below_next : (i : ℕ) → below (i + 1) ≡ below i ++ (i ∷ [])
below_next i = ap below (add-one i) ∙ count_next 0 i ∙ ap (λ (k : ℕ). below i ++ (k ∷ [])) (zero-add i)

below-small : (i : ℕ) → i ≤ 1048576 → small 1048576 (below i) ≡ true
below-small i h = small_count 1048576 0 i (omega arith)

-- ---- the first table

module _ (left right rank : List ℕ) where
  -- Its words over the first i rows.
  abbrev pub first_table : ℕ → ℕ → List ℕ
  first_table n i = table_words pair_slot n left right rank (below i)

  pub first_cleared : (n : ℕ) (words cleared : List ℕ) → length words ≡ n → cleared ≡ take 0 words ++ zeros (length words - 0) → cleared ≡ first_table n 0
  first_cleared n words cleared long e =
      let all : length words - 0 ≡ n = omega arith in
      e ∙ ap zeros all ∙ table-start pair_slot left right rank n

  pub first_next : (n i : ℕ) (words : List ℕ) (slot word : ℕ) → words ≡ first_table n i → i < 1048576 → slot < n → slot ≡ row_slot pair_slot left right i → word ≡ word_with rank (get_or words slot 0) i → set words slot word ≡ first_table n (i + 1)
  first_next n i words slot word is few h s w =
      table-next pair_slot left right rank n (below i) words i slot word is (below-small i (omega arith)) h s w
      ∙ ap (table_words pair_slot n left right rank) (sym (below_next i))

  pub first_ended : (i : ℕ) → i ≡ length left → first_table 131072 i ≡ pair_words left right rank
  unfolding pair_words
  first_ended i e = ap (first_table 131072) e

-- ---- the second table, behind the words of the first

set_behind : (xs ys : List ℕ) (n k a : ℕ) → length xs ≡ n → set (xs ++ ys) (n + k) a ≡ xs ++ set ys k a
set_behind [] ys n k a e = rw (← e, zero-add)
set_behind (x ∷ xs) ys n k a e = rw (← e, suc-add) (ap (λ (l : List ℕ). x ∷ l) (set_behind xs ys (length xs) k a refl))

-- The first m words of a buffer that is cleared from there on.
module _ (m n : ℕ) (words cleared : List ℕ) (all : length words ≡ m + n) (e : cleared ≡ take m words ++ zeros (length words - m)) where
  front_long : length (take m words) ≡ m
  front_long = length-take-le m words (omega arith)

  pub front_same : take m cleared ≡ take m words
  front_same = ap (take m) e ∙ take_at (take m words) (zeros (length words - m)) m front_long

  pub front_kept : length (take m cleared) ≡ m
  front_kept = ap length front_same ∙ front_long

  pub front_cleared : cleared ≡ take m cleared ++ zeros n
  front_cleared =
      let rest : length words - m ≡ n = omega arith in
      e ∙ rw (← front_same, rest)

module _ (left right rank first : List ℕ) where
  -- Those of the first i rows that the first table does not name.
  unnamed_before : ℕ → List ℕ
  unnamed_before i = filter (is_unnamed left right first) (below i)

  -- The words of both tables, of the second over these.
  pub both_tables : ℕ → ℕ → List ℕ
  both_tables n i = first ++ table_words second_slot n left right rank (unnamed_before i)

  unnamed-next : (i : ℕ) → unnamed_before (i + 1) ≡ unnamed_before i ++ cond (is_unnamed left right first i) (i ∷ []) []
  unfolding unnamed_before
  unnamed-next i = ap (filter (is_unnamed left right first)) (below_next i) ∙ filter-last (is_unnamed left right first) (below i) i

  pub both_start : (n : ℕ) → first ++ zeros n ≡ both_tables n 0
  unfolding both_tables unnamed_before
  both_start n = ap (λ (l : List ℕ). first ++ l) (table-start second_slot left right rank n)

  pub both_ended : (i : ℕ) → i ≡ length left → both_tables 32768 i ≡ first ++ second_words left right rank first
  unfolding both_tables unnamed_before second_words unnamed
  both_ended i e = ap (both_tables 32768) e

  module _ (m : ℕ) (long : length first ≡ m) where
    pub length_both : (n i : ℕ) → length (both_tables n i) ≡ m + n
    unfolding both_tables
    length_both n i = length-append first (table_words second_slot n left right rank (unnamed_before i)) ∙ rw (long, length-table second_slot n left right rank (unnamed_before i))

    module _ (n i : ℕ) (words : List ℕ) (is : words ≡ both_tables n i) (slot : ℕ) (own : slot ≡ row_slot pair_slot left right i) (h : slot < m) where
      first_read : get_or words slot 0 ≡ get_or first (row_slot pair_slot left right i) 0
      unfolding both_tables
      first_read =
          ap (λ (l : List ℕ). get_or l slot 0) is
          ∙ get_or-append first (table_words second_slot n left right rank (unnamed_before i)) 0 slot (omega (arith, long))
          ∙ ap (λ (k : ℕ). get_or first k 0) own

      -- A row that the first table names is passed.
      pub both_passed : named_row (get_or words slot 0) ≡ i → words ≡ both_tables n (i + 1)
      unfolding both_tables
      both_passed named =
          let test : is_unnamed left right first i ≡ false = rw (← first_read, eq-eqb _ i named) in
          is ∙ ap (λ (rows : List ℕ). first ++ table_words second_slot n left right rank rows) (sym (unnamed-next i ∙ rw (test, append-nil)))

      -- Any other is noted in its slot of the second.
      pub both_next : (at word : ℕ) → (named_row (get_or words slot 0) ≡ i → ⊥) → i < 1048576 → at < n → at ≡ row_slot second_slot left right i → word ≡ word_with rank (get_or words (m + at) 0) i
          → set words (m + at) word ≡ both_tables n (i + 1)
      unfolding both_tables unnamed_before
      both_next at word other few k s w =
          let table = table_words second_slot n left right rank (unnamed_before i) in
          let test : is_unnamed left right first i ≡ true = rw (← first_read, ne_eqb _ i other) in
          let read : get_or words (m + at) 0 ≡ get_or table at 0 = rw (is, ← long) (get_or-append-add first table at 0) in
          let next = table-next second_slot left right rank n (unnamed_before i) table i at word refl (small-filter 1048576 (is_unnamed left right first) (below i) (below-small i (omega arith))) k s (w ∙ ap (λ (o : ℕ). word_with rank o i) read) in
          ap (λ (l : List ℕ). set l (m + at) word) is
          ∙ set_behind first table m at word long
          ∙ ap (λ (l : List ℕ). first ++ l) (next ∙ ap (table_words second_slot n left right rank) (sym (unnamed-next i ∙ rw test)))
