-- Searches that begin from what is derived of an accepted model find what the whole tables hold.
use Rattle.std.specs.Prelude.{Option, None, Some, is_some}
use Rattle.std.specs.declared.cmp.Ordering.TheVariants.{Less, Greater}
use mathlib.Core.Path.{◌≡◌, refl, sym, ap, ◌∙◌}
use mathlib.Core.Bool.{Bool, true, false, cond, ◌&&◌}
use mathlib.Core.List.{List, [], ◌∷◌}
use Prim.Native.Nat.{ℕ, ◌+◌, ◌*◌, ◌/◌, ◌^◌, ◌≤◌, ◌<◌, min}
use native.Mathlib.Nat.{not-suc-le-zero, min-eq_left, zero-add, add_assoc, div-mul-le_self, div-lt_iff_lt-mul, mul-le-mul_right}
use native.Mathlib.Omega.{arith}
use borrow.Author.Tests.{ltb-true, ltb-false, leb-false, eqb-true, lt-ltb, le-ltb, eq-eqb, ne_eqb}
use lib.Dec.{ltb, leb, eqb}
use lib.Pow.{pow_pos}
use lib.ListN.{length, get_or, get_or-append}
use lib.Seq.{get_or-append-add}
use Rattle.utf8.specs.Lists.{is_empty, any, find, same, take_while, below}
use Rattle.utf8.proofs.Tests.{clash, and_left, and_right, or_left, or_right}
use Rattle.utf8.proofs.Places.{all_holds, get_or_count_from}
use Rattle.utf8.proofs.Starts.{same-eq}
use Rattle.utf8.proofs.Fronts.{front-within, front_passes, front-ended, front-past, get_or_row, length-row}
use Rattle.model.specs.Model.{Model, piece, lookup_id, no_id, pieces_of, merge_rows, row_of}
use Rattle.model.specs.Mark.{mark}
use Rattle.model.specs.ByteOrder.{byte_order}
use Rattle.model.specs.inner.Search.{searched, piece_order, found_piece, id_at, row_order, pair_order, found_row, row_found}
use Rattle.model.specs.Check.{names_no_piece, lookup_ascends, rows_ascend, all_below}
use Rattle.model.proofs.OrderLaws.{is_equal, by_below, or_less, or-greater, never, equal_is, order_turned, turned}
use Rattle.model.proofs.SearchLaws.{found_below, found_equal, equal_found, part-searched}
use Rattle.model.proofs.LookupLaws.{entries_rise, pieces_fall, id_found}
use Rattle.model.proofs.RowLaws.{lefts_rise, rows_fall, pair_is-equal, row_found_lem}
use Rattle.model.proofs.StringLaws.{length-strings}
use Rattle.model.proofs.Accepted.{Accepted}
use Rattle.index.specs.Index.{first_byte_start, first_byte_words, first_bytes, id_or, key_id, mark_id, byte_id, byte_ids, piece_index, bucket_shift, bucket_start, bucket_words, buckets, slot_count, pair_slot, second_slot_count, second_slot, row_slot, shared, named_row, pair_words, is_unnamed, unnamed, second_words, pair_tables, row_index}
use Rattle.index.specs.inner.Find.{id_of, key_start, key_end, byte_word, id_from, row_between, pair_word, second_word, row_has, told, told_or, row_beyond, row_from}
use Rattle.index.specs.declared.Told.TheVariants.{Row, NoRow, Elsewhere}
use Rattle.index.proofs.PairLaws.{among, among_all, none_beyond, kept, fails_kept, Says, nothing, alone, several, slot_says, slot_below, second_below, table_at, length_pairs, names_alone, names_several}

-- ---- ids as numbers

no_none {ℓ} : {A : Type ℓ} {x : ℕ} → ◌≡◌ {A = Option ℕ} None (Some x) → A
no_none e = let z : ◌≡◌ {A = ℕ} 0 1 = cc in absurd (omega arith)

-- What is found is of the list: what no element passes it does not pass.
found_fails : (test other : ℕ → Bool) (xs : List ℕ) (x : ℕ) → find test xs ≡ Some x → any other xs ≡ false → other x ≡ false
found_fails test other [] x e n = no_none e
found_fails test other (y ∷ ys) x e n = go (test y) refl (λ f. found_fails test other ys x f (or_right (other y) (any other ys) n))
  where
    go : (b : Bool) → test y ≡ b → (find test ys ≡ Some x → other x ≡ false) → other x ≡ false
    go true t rest =
        let here : find test (y ∷ ys) ≡ Some y = rw t in
        let q : y ≡ x = cc in
        rw (← q) (or_left (other y) (any other ys) n)
    go false t rest = rest (sym (rw t) ∙ e)

module _ (pieces : List (List ℕ)) (lookup : List ℕ) (named : any (names_no_piece pieces) lookup ≡ false) where
  -- An id that the lookup list gives is below the piece count.
  pub id_below : (key : List ℕ) (id : ℕ) → lookup_id pieces lookup key ≡ Some id → id < length pieces
  unfolding lookup_id names_no_piece
  id_below key id e =
      leb-false (length pieces) id
      (or_left (leb (length pieces) id) (is_empty (piece pieces id)) (found_fails _ (names_no_piece pieces) lookup id e named))

  -- The id of a key as a number stands for what the lookup list gives the key.
  pub key_id_lem : length pieces ≤ no_id → (key : List ℕ) → id_of (key_id pieces lookup key) ≡ lookup_id pieces lookup key
  unfolding id_of key_id
  key_id_lem few key = go (lookup_id pieces lookup key) refl
    where
      go : (o : Option ℕ) → lookup_id pieces lookup key ≡ o → id_of (id_or o) ≡ o
      go None e = refl
      go (Some id) e = rw (ne_eqb id no_id (below (id_below key id e)))
        where
          below : id < length pieces → id ≡ no_id → ⊥
          below h q = omega arith

-- ---- first bytes

-- Where first bytes differ, they decide.
first_less : (xs ys : List ℕ) → get_or xs 0 0 < get_or ys 0 0 → byte_order xs ys ≡ Less
first_less xs [] h = absurd (not-suc-le-zero h)
first_less [] (y ∷ ys) h = refl
first_less (x ∷ xs) (y ∷ ys) h = or_less x y (byte_order xs ys) h

first-greater : (xs ys : List ℕ) → get_or ys 0 0 < get_or xs 0 0 → byte_order xs ys ≡ Greater
first-greater xs ys h = order_turned ys xs ∙ ap turned (first_less ys xs h)

-- A string that is not less has no lower first byte.
first_rises : (xs ys : List ℕ) → byte_order xs ys ≡ Less → get_or xs 0 0 ≤ get_or ys 0 0
first_rises xs ys e = by_below (get_or ys 0 0) (get_or xs 0 0) (λ l. never (sym e ∙ first-greater xs ys l) refl refl) (λ m. m)

one_byte : (key : List ℕ) → length key ≡ 1 → key ≡ get_or key 0 0 ∷ []
one_byte [] e = absurd (omega arith)
one_byte (x ∷ []) e = refl
one_byte (x ∷ y ∷ ys) e = absurd (omega arith)

module _ (pieces : List (List ℕ)) (lookup : List ℕ) where
  length-first_bytes : length (first_bytes pieces lookup) ≡ first_byte_words
  unfolding first_bytes
  length-first_bytes = length-row (first_byte_start pieces lookup) first_byte_words

  first-at : (b : ℕ) → b < first_byte_words → get_or (piece_index pieces lookup) b 0 ≡ first_byte_start pieces lookup b
  unfolding piece_index first_bytes
  first-at b h =
      get_or-append (first_bytes pieces lookup) (byte_ids pieces lookup) 0 b (omega (arith, length-first_bytes))
      ∙ get_or_row (first_byte_start pieces lookup) first_byte_words b 0 h

  byte_at : (b : ℕ) → b < 256 → byte_word (piece_index pieces lookup) b ≡ byte_id pieces lookup b
  unfolding byte_word piece_index byte_ids
  byte_at b h =
      ap (λ (n : ℕ). get_or (piece_index pieces lookup) (n + b) 0) (sym length-first_bytes)
      ∙ get_or-append-add (first_bytes pieces lookup) (byte_ids pieces lookup) b 0
      ∙ get_or_row (byte_id pieces lookup) 256 b 0 h

  -- the piece of an entry
  abbrev entry : ℕ → List ℕ
  entry i = piece pieces (get_or lookup i 0)

  first-before : (b i : ℕ) → i < first_byte_start pieces lookup b → get_or (entry i) 0 0 < b
  unfolding first_byte_start
  first-before b i h = ltb-true (get_or (entry i) 0 0) b (front_passes _ lookup i 0 h)

  module _ (ascends : lookup_ascends pieces lookup ≡ true) where
    first_from_lem : (b i : ℕ) → first_byte_start pieces lookup b ≤ i → i < length lookup → b ≤ get_or (entry i) 0 0
    unfolding first_byte_start
    first_from_lem b i h k =
        ltb-false (get_or (entry i) 0 0) b
        (front-past _ lookup i 0
        (λ j l e.
        let rises = first_rises (entry j) (entry i) (entries_rise pieces lookup ascends j i l k) in
        lt-ltb (get_or (entry j) 0 0) b (omega (arith, ltb-true (get_or (entry i) 0 0) b e)))
        h k)

    module _ (key : List ℕ) (byte : get_or key 0 0 < 256) where
      start_is : key_start (piece_index pieces lookup) key ≡ first_byte_start pieces lookup (get_or key 0 0)
      unfolding key_start
      start_is = first-at (get_or key 0 0) (omega arith)

      end_is : key_end (piece_index pieces lookup) key ≡ first_byte_start pieces lookup (get_or key 0 0 + 1)
      unfolding key_end
      end_is = first-at (get_or key 0 0 + 1) (omega arith)

      before_key : (i : ℕ) → i < key_start (piece_index pieces lookup) key → i < length lookup → piece_order pieces lookup key i ≡ Less
      unfolding piece_order
      before_key i h k = first_less (entry i) key (first-before (get_or key 0 0) i (omega (arith, start_is)))

      behind_key : (i : ℕ) → key_end (piece_index pieces lookup) key ≤ i → i < length lookup → piece_order pieces lookup key i ≡ Greater
      unfolding piece_order
      behind_key i h k = first-greater (entry i) key (omega (arith, first_from_lem (get_or key 0 0 + 1) i (omega (arith, end_is)) k))

      -- A search among the entries of the key's first byte ends as one in the whole list does.
      key_searched : searched (piece_order pieces lookup key) (key_start (piece_index pieces lookup) key) (min (key_end (piece_index pieces lookup) key) (length lookup)) ≡ found_piece pieces lookup key
      unfolding found_piece
      key_searched =
          part-searched (piece_order pieces lookup key) (length lookup) (pieces_fall pieces lookup ascends key) _ _ (omega arith) before_key
          (λ i h k. behind_key i (omega arith) k)

      key_found : id_at lookup (searched (piece_order pieces lookup key) (key_start (piece_index pieces lookup) key) (min (key_end (piece_index pieces lookup) key) (length lookup))) ≡ lookup_id pieces lookup key
      key_found = ap (id_at lookup) key_searched ∙ id_found pieces lookup ascends key

      -- By first bytes, the ids of single bytes and the mark's id a key has the id that the lookup list gives it.
      pub id_from_lem : any (names_no_piece pieces) lookup ≡ false → length pieces ≤ no_id → id_from pieces lookup (piece_index pieces lookup) (mark_id pieces lookup) key ≡ lookup_id pieces lookup key
      unfolding id_from mark_id byte_id
      id_from_lem named few = go (eqb (length key) 1) (same key mark) refl refl
        where
          go : (one marks : Bool) → eqb (length key) 1 ≡ one → same key mark ≡ marks → id_from pieces lookup (piece_index pieces lookup) (mark_id pieces lookup) key ≡ lookup_id pieces lookup key
          go true marks e f =
              rw (e, byte_at (get_or key 0 0) byte) (key_id_lem pieces lookup named few (get_or key 0 0 ∷ []) ∙ ap (lookup_id pieces lookup) (sym (one_byte key (eqb-true (length key) 1 e))))
          go false true e f = rw (e, f) (key_id_lem pieces lookup named few mark ∙ ap (lookup_id pieces lookup) (sym (same-eq key mark f)))
          go false false e f = rw (e, f) key_found

-- ---- buckets of left ids

module _ (left : List ℕ) (shift : ℕ) where
  length-buckets : length (buckets left shift) ≡ bucket_words
  unfolding buckets
  length-buckets = length-row (bucket_start left shift) bucket_words

  bucket_at : (right rank : List ℕ) (b : ℕ) → b < bucket_words → get_or (row_index left right rank shift) b 0 ≡ bucket_start left shift b
  unfolding row_index buckets
  bucket_at right rank b h =
      get_or-append (buckets left shift) (pair_tables left right rank) 0 b (omega (arith, length-buckets))
      ∙ get_or_row (bucket_start left shift) bucket_words b 0 h

  -- The words of the two tables behind the buckets.
  module _ (right rank : List ℕ) where
    behind_buckets : (n : ℕ) → get_or (row_index left right rank shift) (bucket_words + n) 0 ≡ get_or (pair_tables left right rank) n 0
    unfolding row_index
    behind_buckets n =
        ap (λ (k : ℕ). get_or (row_index left right rank shift) (k + n) 0) (sym length-buckets)
        ∙ get_or-append-add (buckets left shift) (pair_tables left right rank) n 0

    first_word : (l r : ℕ) → pair_word (row_index left right rank shift) l r ≡ get_or (pair_words left right rank) (pair_slot l r) 0
    unfolding pair_word pair_tables
    first_word l r =
        behind_buckets (pair_slot l r)
        ∙ get_or-append (pair_words left right rank) (second_words left right rank (pair_words left right rank)) 0 (pair_slot l r) (omega (arith, length_pairs left right rank, slot_below l r))

    second_word_lem : (l r : ℕ) → second_word (row_index left right rank shift) l r ≡ get_or (second_words left right rank (pair_words left right rank)) (second_slot l r) 0
    unfolding second_word pair_tables
    second_word_lem l r =
        ap (λ (n : ℕ). get_or (row_index left right rank shift) n 0) (add_assoc bucket_words slot_count (second_slot l r))
        ∙ behind_buckets (slot_count + second_slot l r)
        ∙ ap (λ (n : ℕ). get_or (pair_tables left right rank) (n + second_slot l r) 0) (sym (length_pairs left right rank))
        ∙ get_or-append-add (pair_words left right rank) (second_words left right rank (pair_words left right rank)) (second_slot l r) 0

  bucket_within : (b : ℕ) → bucket_start left shift b ≤ length left
  unfolding bucket_start
  bucket_within b = front-within _ left

  bucket_before : (b i : ℕ) → i < bucket_start left shift b → get_or left i 0 < b * 2 ^ shift
  unfolding bucket_start
  bucket_before b i h = ltb-true (get_or left i 0) (b * 2 ^ shift) (front_passes _ left i 0 h)

  module _ (right : List ℕ) (ascends : rows_ascend left right ≡ true) (level : length right ≡ length left) where
    bucket_from : (b i : ℕ) → bucket_start left shift b ≤ i → i < length left → b * 2 ^ shift ≤ get_or left i 0
    unfolding bucket_start
    bucket_from b i h k =
        ltb-false (get_or left i 0) (b * 2 ^ shift)
        (front-past _ left i 0
        (λ j l e.
        let rises = lefts_rise left right ascends level j i l k in
        lt-ltb (get_or left j 0) (b * 2 ^ shift) (omega (arith, ltb-true (get_or left i 0) (b * 2 ^ shift) e)))
        h k)

    module _ (l r : ℕ) where
      left_less : (i : ℕ) → get_or left i 0 < l → row_order left right l r i ≡ Less
      unfolding row_order pair_order
      left_less i h = or_less (get_or left i 0) l _ h

      left-greater : (i : ℕ) → l < get_or left i 0 → row_order left right l r i ≡ Greater
      unfolding row_order pair_order
      left-greater i h = or-greater (get_or left i 0) l _ h

      abbrev bucket : ℕ
      bucket = l / 2 ^ shift

      bucket_low : bucket * 2 ^ shift ≤ l
      bucket_low = div-mul-le_self l (2 ^ shift)

      bucket_high : l < (bucket + 1) * 2 ^ shift
      bucket_high = (div-lt_iff_lt-mul (pow_pos shift)).0 (omega arith)

      -- The ids of a row that is the pair's.
      has_ids : (i : ℕ) → row_has left right i l r ≡ true → (get_or left i 0 ≡ l) × (get_or right i 0 ≡ r)
      has_ids i e =
          let a = eqb (get_or left i 0) l in
          let b = eqb (get_or right i 0) r in
          let both : (a && b) ≡ true = and_right (ltb i (length left)) (a && b) e in
          (eqb-true (get_or left i 0) l (and_left a b both), eqb-true (get_or right i 0) r (and_right a b both))

      -- no row has the pair
      abbrev absent : Type 0
      absent = (i : ℕ) → i < length left → row_has left right i l r ≡ true → ⊥

      has_equal : (i : ℕ) → i < length left → row_has left right i l r ≡ is_equal (row_order left right l r i)
      unfolding row_order
      has_equal i h = rw (lt-ltb i (length left) h) (pair_is-equal (get_or left i 0) (get_or right i 0) l r)

      not_found : absent → found_row left right l r ≡ None
      unfolding found_row
      not_found gone = go (found_row left right l r) refl
        where
          go : (f : Option ℕ) → found_row left right l r ≡ f → f ≡ None
          go (Some i) e = let s = found_equal (row_order left right l r) (length left) i e in absurd (gone i s.0 (has_equal i s.0 ∙ ap is_equal s.1))
          go None e = refl

      has_found : (i : ℕ) → i < length left → row_has left right i l r ≡ true → found_row left right l r ≡ Some i
      unfolding found_row
      has_found i h e =
          equal_found (row_order left right l r) (length left) (rows_fall left right ascends level l r) i (equal_is _ (sym (has_equal i h) ∙ e)) h

      module _ (few : (i : ℕ) → i < length left → get_or left i 0 < 4096 * 2 ^ shift) (rank : List ℕ) where
        abbrev index : List ℕ
        index = row_index left right rank shift

        -- A search in the bucket of a left id ends as one among all rows does.
        row-between : row_between left right index shift l r ≡ found_row left right l r
        unfolding row_between found_row
        row-between = by_below (bucket + 1) bucket_words inside outside
          where
            inside : bucket + 1 < bucket_words → row_between left right index shift l r ≡ found_row left right l r
            inside h =
                rw (lt-ltb (bucket + 1) bucket_words h, bucket_at right rank bucket (omega arith), bucket_at right rank (bucket + 1) h, min-eq_left (bucket_within (bucket + 1)))
                (part-searched (row_order left right l r) (length left) (rows_fall left right ascends level l r) (bucket_start left shift bucket) (bucket_start left shift (bucket + 1)) (bucket_within (bucket + 1))
                (λ i g k. left_less i (omega (arith, bucket_before bucket i g, bucket_low)))
                (λ i g k. left-greater i (omega (arith, bucket_from (bucket + 1) i g k, bucket_high))))

            outside : bucket_words ≤ bucket + 1 → row_between left right index shift l r ≡ found_row left right l r
            outside h =
                rw (le-ltb (bucket + 1) bucket_words h)
                (sym
                (not_found
                (λ i k e.
                omega (arith, (has_ids i e).0, few i k, mul-le-mul_right (2 ^ shift) (past h), bucket_low))))
              where
                past : bucket_words ≤ bucket + 1 → 4096 ≤ bucket
                past g = omega arith

        slot_of : (spread : ℕ → ℕ → ℕ) (i : ℕ) → row_has left right i l r ≡ true → row_slot spread left right i ≡ spread l r
        slot_of spread i e = rw ((has_ids i e).0, (has_ids i e).1)

        module _ (small : length left < shared) where
          -- A table over rows among which the pair's is, if there is one, tells what is so, where what is found elsewhere is right for a
          -- word that names another row.
          module _ (spread : ℕ → ℕ → ℕ) (rows : List ℕ) (there : (j : ℕ) → j < length left → row_has left right j l r ≡ true → among rows j ≡ true) (w : ℕ) (later : Option ℕ)
              (right-later : row_has left right (named_row w) l r ≡ false → later ≡ found_row left right l r) where
            abbrev right-told : Type 0
            right-told = told_or (told left right w l r) later ≡ found_row left right l r

            belongs_there : (j : ℕ) → j < length left → row_has left right j l r ≡ true → (among rows j ≡ true) × (row_slot spread left right j ≡ spread l r)
            belongs_there j h e = (there j h e, slot_of spread j e)

            named : (i : ℕ) → i < length left → named_row w ≡ i → 0 < w
                → (row_has left right i l r ≡ false → told_or (cond (ltb w shared) NoRow Elsewhere) later ≡ found_row left right l r) → right-told
            unfolding told
            named i h e p rest = rw (ne_eqb w 0 (λ q. omega arith), e) (go (row_has left right i l r) refl)
              where
                go : (b : Bool) → row_has left right i l r ≡ b → told_or (cond b (Row i) (cond (ltb w shared) NoRow Elsewhere)) later ≡ found_row left right l r
                go true f = sym (has_found i h f)
                go false f = rest f

            by_word : Says spread left right rows (spread l r) w → right-told
            unfolding told
            by_word (nothing e gone) = rw (eq-eqb w 0 e) (sym (not_found (λ i h k. gone i (belongs_there i h k))))
            by_word (alone i h e sole) =
                named i h (rw e (names_alone i (omega arith))) (omega arith)
                (λ f.
                rw (lt-ltb w shared (omega arith))
                (sym (not_found (λ j g k. clash f (ap (λ (m : ℕ). row_has left right m l r) (sym (sole j (belongs_there j g k))) ∙ k)))))
            by_word (several i h e) =
                let is : named_row w ≡ i = rw e (names_several i (omega arith)) in
                named i h is (omega arith) (λ f. rw (le-ltb w shared (omega arith)) (right-later (ap (λ (m : ℕ). row_has left right m l r) is ∙ f)))

          abbrev words : List ℕ
          words = pair_words left right rank

          -- By the second table, where the first names another row.
          row_beyond_lem : row_has left right (named_row (get_or words (pair_slot l r) 0)) l r ≡ false → row_beyond left right index shift l r ≡ found_row left right l r
          unfolding row_beyond second_words unnamed
          row_beyond_lem other =
              ap (λ (w : ℕ). told_or (told left right w l r) (row_between left right index shift l r)) (second_word_lem right rank l r ∙ table_at second_slot second_slot_count left right rank (unnamed left right words) (second_slot l r) (second_below l r))
              ∙ by_word second_slot (unnamed left right words) is-unnamed _ (row_between left right index shift l r) (λ f. row-between)
              (slot_says second_slot left right (unnamed left right words) (second_slot l r) rank (fails_kept _ (leb (length left)) (below (length left)) (none_beyond (length left))))
            where
              is-unnamed : (j : ℕ) → j < length left → row_has left right j l r ≡ true → among (unnamed left right words) j ≡ true
              is-unnamed j h e =
                  kept (is_unnamed left right words) (below (length left)) j (among_all (length left) j h)
                  (rw (slot_of pair_slot j e, ne_eqb _ j (λ q. clash other (ap (λ (m : ℕ). row_has left right m l r) q ∙ e))))

          -- By its words, and by the search where rows share both slots, a pair has the row that a search among all rows finds.
          pub row_from_lem : row_from left right index shift l r ≡ found_row left right l r
          unfolding row_from pair_words
          row_from_lem =
              ap (λ (w : ℕ). told_or (told left right w l r) (row_beyond left right index shift l r)) (first_word right rank l r)
              ∙ by_word pair_slot (below (length left)) (λ j h e. among_all (length left) j h) _ (row_beyond left right index shift l r) row_beyond_lem
              (rw (table_at pair_slot slot_count left right rank (below (length left)) (pair_slot l r) (slot_below l r))
              (slot_says pair_slot left right (below (length left)) (pair_slot l r) rank (none_beyond (length left))))

-- ---- on any tables

-- A key that is neither one byte nor the mark has the id of the entry that is found among those of its first byte.
pub id-searched : (pieces : List (List ℕ)) (lookup first_bytes : List ℕ) (mark_id : ℕ) (key : List ℕ) {marks : Bool} {from to : ℕ} {found : Option ℕ} → (length key ≡ 1 → ⊥)
    → marks ≡ same key mark → marks ≡ false → from ≡ key_start first_bytes key → to ≡ key_end first_bytes key → found ≡ searched (piece_order pieces lookup key) from (min to (length lookup))
    → id_from pieces lookup first_bytes mark_id key ≡ id_at lookup found
unfolding id_from
id-searched pieces lookup first_bytes mark_id key many told other f t e = rw (ne_eqb (length key) 1 many, ← told, other, e, f, t)

no_place {ℓ} : {A : Type ℓ} {i : ℕ} → None ≡ Some i → A
no_place e = clash refl (ap is_some e)

-- A place that is found is one of the rows.
told_inside : (left right : List ℕ) (word l r : ℕ) (found : Option ℕ) {i : ℕ} → (found ≡ Some i → i < length left) → told_or (told left right word l r) found ≡ Some i → i < length left
unfolding told
told_inside left right word l r found {i} later e = go (eqb word 0) (row_has left right (named_row word) l r) (ltb word shared) refl e
  where
    go : (a b c : Bool) → row_has left right (named_row word) l r ≡ b → told_or (cond a NoRow (cond b (Row (named_row word)) (cond c NoRow Elsewhere))) found ≡ Some i → i < length left
    go true b c f q = no_place q
    go false true c f q = let is : named_row word ≡ i = cc in omega (arith, ltb-true (named_row word) (length left) (and_left _ _ f))
    go false false true f q = no_place q
    go false false false f q = later q

between_inside : (left right index : List ℕ) (shift l r : ℕ) {i : ℕ} → row_between left right index shift l r ≡ Some i → i < length left
unfolding row_between
between_inside left right index shift l r {i} e = go (ltb (l / 2 ^ shift + 1) bucket_words) e
  where
    lo : ℕ
    lo = get_or index (l / 2 ^ shift) 0

    hi : ℕ
    hi = min (get_or index (l / 2 ^ shift + 1) 0) (length left)

    go : (b : Bool) → cond b (searched (row_order left right l r) lo hi) None ≡ Some i → i < length left
    go true q = omega (arith, found_below (row_order left right l r) lo hi i q)
    go false q = no_place q

pub found_inside : (left right index : List ℕ) (shift l r : ℕ) {i : ℕ} → row_from left right index shift l r ≡ Some i → i < length left
unfolding row_from row_beyond
found_inside left right index shift l r =
    told_inside left right (pair_word index l r) l r (row_beyond left right index shift l r)
    (told_inside left right (second_word index l r) l r (row_between left right index shift l r) (between_inside left right index shift l r))

-- ---- an accepted model

shift_room : (n : ℕ) → n ≤ 524288 → n ≤ 4096 * 2 ^ bucket_shift n
unfolding bucket_shift
shift_room n h = by_below s 7 fits last
  where
    test : ℕ → Bool
    test = λ k. ltb (4096 * 2 ^ k) n

    s : ℕ
    s = length (take_while test (below 7))

    fits : s < 7 → n ≤ 4096 * 2 ^ s
    fits l = ltb-false (4096 * 2 ^ s) n (ap test (sym (get_or_count_from 0 7 s 0 l ∙ zero-add s)) ∙ front-ended test (below 7) 0 l)

    last : 7 ≤ s → n ≤ 4096 * 2 ^ s
    last g =
        let all : s ≡ 7 = omega (arith, front-within test (below 7)) in
        rw all h

module _ (m : Model) (ok : Accepted m) where
  pieces_few : length (pieces_of m) ≤ 524288
  unfolding pieces_of
  pieces_few = omega (arith, length-strings m.piece_bytes m.piece_offsets, ok.sizes.piece_limit)

  -- The id that is found by what is derived of the lookup list is the list's, for every key of bytes, the empty one too.
  pub id_by_index : (key : List ℕ) → get_or key 0 0 < 256 → id_from (pieces_of m) m.lookup (piece_index (pieces_of m) m.lookup) (mark_id (pieces_of m) m.lookup) key ≡ lookup_id (pieces_of m) m.lookup key
  id_by_index key byte = id_from_lem (pieces_of m) m.lookup ok.lookup_rises key byte ok.lookup_names (omega (arith, pieces_few))

  -- The place that is found by the index is that which a search among all rows gives, for all pairs.
  pub place_by_index : (l r : ℕ) → row_from m.left m.right (row_index m.left m.right m.rank (bucket_shift (length (pieces_of m)))) (bucket_shift (length (pieces_of m))) l r ≡ found_row m.left m.right l r
  unfolding all_below
  place_by_index l r =
      row_from_lem m.left (bucket_shift (length (pieces_of m))) m.right ok.rows_rise (sym ok.sizes.rows.rights) l r
      (λ i h. omega (arith, ltb-true (get_or m.left i 0) (length (pieces_of m)) (all_holds _ m.left i 0 ok.lefts_below h), shift_room (length (pieces_of m)) pieces_few))
      m.rank (omega (arith, ok.sizes.row_limit))

  -- And so it gives the pair's row.
  pub row_by_index : (l r : ℕ) → row_found (merge_rows m) (row_from m.left m.right (row_index m.left m.right m.rank (bucket_shift (length (pieces_of m)))) (bucket_shift (length (pieces_of m))) l r) ≡ row_of (merge_rows m) l r
  unfolding merge_rows
  row_by_index l r = ap (row_found (merge_rows m)) (place_by_index l r) ∙ row_found_lem m.left m.right m.result m.rank ok.rows_rise (sym ok.sizes.rows.rights) l r
