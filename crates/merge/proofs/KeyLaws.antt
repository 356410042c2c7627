-- Laws of the rows that are kept while ids are merged. Assumes nothing.
use Rattle.std.specs.Prelude.{Option, None, Some}
use Prim.Native.Nat.{ℕ, zero, suc, ◌+◌, ◌-◌, ◌*◌, ◌/◌, ◌%◌, ◌≤◌, ◌<◌}
use native.Mathlib.Omega.{arith}
use native.Mathlib.Numerals.{add-one}
use native.Mathlib.Nat.{zero-add}
use mathlib.Core.Path.{◌≡◌, refl, sym, ap, ◌∙◌}
use mathlib.Core.Logic.{⊎_elim}
use mathlib.Core.List.{List, [], ◌∷◌, ◌++◌, map, map-append, append_assoc}
use borrow.Author.Tests.{lt-ltb, le-ltb, ltb-true, ltb-false}
use lib.Dec.{ltb}
use lib.ListN.{length, take, drop, get_or, set, length-append, length-drop, length-map, take-append-drop, drop_of_length-le}
use lib.Seq.{drop-cons, take_at, drop_at, length-take-le, take-append-le, take-suc, take-suc-set, drop-set-lt}
use Rattle.utf8.specs.Lists.{neighbours_from}
use Rattle.utf8.proofs.Tests.{either}
use Rattle.utf8.proofs.Lists.{drop-map}
use Rattle.model.specs.Model.{Row}
use Rattle.index.specs.inner.Find.{row_from}
use Rattle.merge.specs.declared.Joining.{Joining}
use Rattle.merge.specs.Merge.{candidate_at, candidates_from, candidates, lowest_rank, next_merge}
use Rattle.merge.specs.inner.Turns.{joining, row_in, turn_of, joined_at, closed_at}
use Rattle.merge.specs.inner.Keys.{Ranked, row_span, no_key, key_row, ranked_row, pair_row, next_rows, lower_turn, row_turn, rows_turn, Kept}
use Rattle.merge.proofs.NextLaws.{lowest-append, next_found, merged-is}
use Rattle.merge.proofs.FrontLaws.{Picked, Merging, merging_start, merging_fits, merging_inside, merging-front, merging-next}
use Rattle.merge.proofs.TurnLaws.{turn_at, row-at, row_missing, lower_stop, lower_assoc, turn_lower, turn_one, no_rank, best_turn, best_some, lower_taken, lower_kept}

-- ---- a row and its rank as one number

pub key_some : (key : ℕ) → key < no_key → key_row key ≡ Some (key % row_span, key / row_span)
unfolding key_row
key_some key h = rw (lt-ltb key no_key h)

pub key_none : (key : ℕ) → no_key ≤ key → key_row key ≡ None
unfolding key_row
key_none key h = rw (le-ltb key no_key h)

pub key_of : (rank row : ℕ) → rank < no_rank → row < row_span → key_row (rank * row_span + row) ≡ Some (row, rank)
key_of rank row small inside =
    let key = rank * row_span + row in
    let place : key % row_span ≡ row = omega arith in
    let high : key / row_span ≡ rank = omega arith in
    key_some key (omega arith) ∙ rw (place, high)

-- ---- what ids have with the next

module _ (row : ℕ → ℕ → Option Ranked) where
  pub length-rows : (ids : List ℕ) → length (next_rows row ids) ≡ length ids
  length-rows [] = refl
  length-rows (a ∷ ids) = ap suc (length-rows ids)

  pub row_last : (ids : List ℕ) (place : ℕ) → length ids ≤ place + 1 → get_or (next_rows row ids) place None ≡ None
  row_last [] place h = refl
  row_last (a ∷ []) zero h = refl
  row_last (a ∷ b ∷ ids) zero h = absurd (omega arith)
  row_last (a ∷ ids) (suc place) h = row_last ids place (omega arith)

  pub row_inside : (ids : List ℕ) (place : ℕ) → place + 1 < length ids → get_or (next_rows row ids) place None ≡ row (get_or ids place 0) (get_or ids (suc place) 0)
  row_inside [] place h = absurd (omega arith)
  row_inside (a ∷ []) zero h = absurd (omega arith)
  row_inside (a ∷ b ∷ ids) zero h = refl
  row_inside (a ∷ ids) (suc place) h = row_inside ids place (omega arith)

  -- Those behind the front do not depend on it, and those in it but for the last not on what follows.
  pub drop-rows : (front ids : List ℕ) (n : ℕ) → drop (length front + n) (next_rows row (front ++ ids)) ≡ drop n (next_rows row ids)
  drop-rows [] ids n = ap (λ (k : ℕ). drop k (next_rows row ids)) (zero-add n)
  drop-rows (a ∷ front) ids n =
      let more : suc (length front) + n ≡ suc (length front + n) = omega arith in
      ap (λ (k : ℕ). drop k (next_rows row (a ∷ (front ++ ids)))) more ∙ drop-rows front ids n

  pub take-rows : (front ids others : List ℕ) (n : ℕ) → suc n ≤ length front → take n (next_rows row (front ++ ids)) ≡ take n (next_rows row (front ++ others))
  take-rows front ids others zero h = refl
  take-rows [] ids others (suc n) h = absurd (omega arith)
  take-rows (a ∷ []) ids others (suc n) h = absurd (omega arith)
  take-rows (a ∷ b ∷ front) ids others (suc n) h =
      ap {B = List (Option Ranked)} (λ rows. row a b ∷ rows) (take-rows (b ∷ front) ids others n (omega arith))

-- ---- those that are right but for a part

module _ {A B : Type 0} (f : A → B) where
  take-map : (n : ℕ) (l : List A) → take n (map f l) ≡ map f (take n l)
  take-map zero l = refl
  take-map (suc n) [] = refl
  take-map (suc n) (x ∷ l) = ap {B = List B} (λ r. f x ∷ r) (take-map n l)

pub kept-none : (rows kept : List (Option Ranked)) (n : ℕ) → length rows ≤ n → length kept ≤ n → Kept rows kept 0 n
kept-none rows kept n h k =
    record { front = refl; back = drop_of_length-le kept {i = n} k ∙ sym (drop_of_length-le rows {i = n} h) }

module _ {rows : List (Option Ranked)} (keys : List ℕ) {from to : ℕ} (k : Kept rows (map key_row keys) from to) where
  pub kept_next : (key : ℕ) → from < to → to ≤ length keys → length rows ≡ length keys → key_row key ≡ get_or rows from None → Kept rows (map key_row (set keys from key)) (from + 1) to
  kept_next key h l same is =
      record {
        front =
            ap (λ (n : ℕ). take n (map key_row (set keys from key))) (add-one from)
            ∙ take-map key_row (suc from) (set keys from key)
            ∙ ap (map key_row) (take-suc-set keys from key (omega arith))
            ∙ map-append key_row (take from keys) (key ∷ [])
            ∙ ap (λ (l : List (Option Ranked)). l ++ (key_row key ∷ [])) (sym (take-map key_row from keys) ∙ k.front)
            ∙ ap (λ (o : Option Ranked). take from rows ++ (o ∷ [])) is
            ∙ sym (take-suc rows from None (omega (arith, same)))
            ∙ ap (λ (n : ℕ). take n rows) (sym (add-one from));
        back =
            drop-map key_row to (set keys from key)
            ∙ ap (map key_row) (drop-set-lt to keys from key h)
            ∙ sym (drop-map key_row to keys)
            ∙ k.back;
      }

pub kept-all : {rows kept : List (Option Ranked)} {from to : ℕ} → Kept rows kept from to → from ≡ to → kept ≡ rows
kept-all {rows} {kept} {from} {to} k same =
    sym (take-append-drop to kept)
    ∙ ap (λ (l : List (Option Ranked)). l ++ drop to kept) (ap (λ (n : ℕ). take n kept) (sym same) ∙ k.front ∙ ap (λ (n : ℕ). take n rows) same)
    ∙ ap (λ (l : List (Option Ranked)). take to rows ++ l) k.back
    ∙ take-append-drop to rows

-- ---- after a merge

-- The pair that is merged stands behind front. Without the one behind its place, those before the place before and those behind it are right.
pub kept-merged : (row : ℕ → ℕ → Option Ranked) (front back : List ℕ) (l r result place : ℕ) → length front ≡ place
    → let rows = next_rows row (front ++ l ∷ r ∷ back) in Kept (next_rows row (front ++ result ∷ back)) (take (place + 1) rows ++ drop (place + 2) rows) (place - 1) (place + 1)
kept-merged row front back l r result place is =
    let rows = next_rows row (front ++ l ∷ r ∷ back) in
    let after = next_rows row (front ++ result ∷ back) in
    let long : length rows ≡ length front + suc (suc (length back)) = length-rows row (front ++ l ∷ r ∷ back) ∙ length-append front (l ∷ r ∷ back) in
    let inside : length (take (place + 1) rows) ≡ place + 1 = length-take-le (place + 1) rows (omega (arith, long, is)) in
    record {
      front =
          take-append-le (place - 1) (take (place + 1) rows) (drop (place + 2) rows) (omega (arith, inside))
          ∙ shorter (place - 1) (place + 1) rows (omega arith)
          ∙ before (place - 1) (omega arith);
      back =
          drop_at (take (place + 1) rows) (drop (place + 2) rows) (place + 1) inside
          ∙ ap (λ (n : ℕ). drop (n + 2) rows) (sym is)
          ∙ drop-rows row front (l ∷ r ∷ back) 2
          ∙ sym (ap (λ (n : ℕ). drop (n + 1) after) (sym is) ∙ drop-rows row front (result ∷ back) 1);
    }
  where
    shorter : (n m : ℕ) (rows : List (Option Ranked)) → n ≤ m → take n (take m rows) ≡ take n rows
    shorter zero m rows h = refl
    shorter (suc n) zero rows h = absurd (omega arith)
    shorter (suc n) (suc m) [] h = refl
    shorter (suc n) (suc m) (x ∷ rows) h = ap {B = List (Option Ranked)} (λ l. x ∷ l) (shorter n m rows (omega arith))

    before : (n : ℕ) → n ≡ place - 1 → take n (next_rows row (front ++ l ∷ r ∷ back)) ≡ take n (next_rows row (front ++ result ∷ back))
    before zero e = refl
    before (suc n) e = take-rows row front (l ∷ r ∷ back) (result ∷ back) (suc n) (omega (arith, is))

-- ---- the next merge by what is kept

module _ (left right result rank row_index : List ℕ) (shift : ℕ) where
  abbrev found : ℕ → ℕ → Option Ranked
  found = pair_row left right rank row_index shift

  abbrev row_of_pair : ℕ → ℕ → Option Row
  row_of_pair = row_in left right result rank row_index shift

  turn_found : (place l r : ℕ) → row_turn result place (found l r) ≡ turn_at place (row_of_pair l r)
  unfolding pair_row
  turn_found place l r = go (row_from left right row_index shift l r) refl
    where
      go : (f : Option ℕ) → f ≡ row_from left right row_index shift l r → row_turn result place (ranked_row rank f) ≡ turn_at place (row_of_pair l r)
      go (Some i) e = row-at left right result rank row_index shift place l r e refl refl
      go None e = row_missing left right result rank row_index shift place l r e refl

  turns_found : (place x : ℕ) (xs : List ℕ) → turn_of (lowest_rank (candidates_from row_of_pair place (neighbours_from x xs))) ≡ rows_turn result place (next_rows found (x ∷ xs))
  turns_found place x [] = refl
  turns_found place x (y ∷ ys) =
      let others = candidates_from row_of_pair (suc place) (neighbours_from y ys) in
      ap turn_of (lowest-append (candidate_at place (row_of_pair x y)) others)
      ∙ turn_lower (lowest_rank (candidate_at place (row_of_pair x y))) (lowest_rank others)
      ∙ ap (λ (t : Option Joining). lower_turn t (turn_of (lowest_rank others))) (turn_one place (row_of_pair x y) ∙ sym (turn_found place x y))
      ∙ ap (lower_turn (row_turn result place (found x y))) (turns_found (suc place) y ys)

  pub next-turn : (ids : List ℕ) → rows_turn result 0 (next_rows found ids) ≡ turn_of (next_merge row_of_pair ids)
  unfolding next_merge candidates
  next-turn [] = refl
  next-turn (x ∷ xs) = sym (turns_found 0 x xs)

-- ---- the search for the lowest rank

-- These numbers are what the keys before i give.
pub record Lowest (result keys : List ℕ) (lowest place key i : ℕ) : Type 0 where
  pub small : lowest ≤ no_rank
  pub inside : i ≤ length keys
  pub same : rows_turn result 0 (map key_row keys) ≡ lower_turn (best_turn result lowest place (key % row_span)) (rows_turn result i (map key_row (drop i keys)))

module _ (result keys : List ℕ) where
  pub lowest_start : (place key : ℕ) → Lowest result keys no_rank place key 0
  lowest_start place key = record { small = omega arith; inside = omega arith; same = refl }

  module _ {lowest place key i : ℕ} (b : Lowest result keys lowest place key i) where
    abbrev here : Option Joining
    here = row_turn result i (key_row (get_or keys i 0))

    abbrev best : Option Joining
    best = best_turn result lowest place (key % row_span)

    abbrev later : Option Joining
    later = rows_turn result (i + 1) (map key_row (drop (i + 1) keys))

    split : i < length keys → rows_turn result 0 (map key_row keys) ≡ lower_turn (lower_turn best here) later
    split h =
        b.same
        ∙ ap (λ (l : List ℕ). lower_turn best (rows_turn result i (map key_row l))) (drop-cons keys i 0 h)
        ∙ ap (λ (n : ℕ). lower_turn best (lower_turn here (rows_turn result n (map key_row (drop n keys))))) (sym (add-one i))
        ∙ lower_assoc best here later

    here_some : get_or keys i 0 < no_key → here ≡ joining i (get_or result (get_or keys i 0 % row_span) 0) (get_or keys i 0 / row_span)
    here_some h = ap (row_turn result i) (key_some (get_or keys i 0) h)

    pub lowest_lower : i < length keys → get_or keys i 0 / row_span < lowest → Lowest result keys (get_or keys i 0 / row_span) i (get_or keys i 0) (i + 1)
    lowest_lower h l =
        let this = get_or keys i 0 in
        let few : this / row_span < no_rank = omega (arith, b.small) in
        record {
          small = omega (arith, b.small);
          inside = omega arith;
          same =
              split h
              ∙ ap (λ (t : Option Joining). lower_turn t later)
              (ap (lower_turn best) (here_some (omega (arith, few)))
              ∙ lower_taken result lowest place (key % row_span) i (get_or result (this % row_span) 0) (this / row_span) few l
              ∙ sym (best_some result (this / row_span) i (this % row_span) few));
        }

    pub lowest-kept : i < length keys → lowest ≤ get_or keys i 0 / row_span → Lowest result keys lowest place key (i + 1)
    lowest-kept h l =
        record {
          small = b.small;
          inside = omega arith;
          same = split h ∙ ap (λ (t : Option Joining). lower_turn t later) (⊎_elim (λ t. some_here (ltb-true (get_or keys i 0) no_key t)) (λ t. none_here (ltb-false (get_or keys i 0) no_key t)) (either (ltb (get_or keys i 0) no_key)));
        }
      where
        some_here : get_or keys i 0 < no_key → lower_turn best here ≡ best
        some_here k =
            ap (lower_turn best) (here_some k) ∙ lower_kept result lowest place (key % row_span) i (get_or result (get_or keys i 0 % row_span) 0) (get_or keys i 0 / row_span) (omega arith) l

        none_here : no_key ≤ get_or keys i 0 → lower_turn best here ≡ best
        none_here k = ap (λ (o : Option Ranked). lower_turn best (row_turn result i o)) (key_none (get_or keys i 0) k) ∙ lower_stop best

    over : length keys ≤ i → rows_turn result 0 (map key_row keys) ≡ best
    over h =
        b.same
        ∙ ap (λ (l : List ℕ). lower_turn best (rows_turn result i (map key_row l))) (drop_of_length-le keys {i = i} h)
        ∙ lower_stop best

    pub lowest-none : length keys ≤ i → no_rank ≤ lowest → None ≡ rows_turn result 0 (map key_row keys)
    lowest-none h l = sym (over h ∙ rw (le-ltb lowest no_rank l))

    pub lowest-some : {n : ℕ} → length keys ≤ i → lowest < no_rank → n ≡ get_or result (key % row_span) 0 → joining place n lowest ≡ rows_turn result 0 (map key_row keys)
    lowest-some h l e = rw e (sym (over h ∙ best_some result lowest place (key % row_span) l))

-- ---- the loop

-- n ids are left, and of what each has with the next all is right but from from up to to.
pub record Keeping (row : ℕ → ℕ → Option Row) (found : ℕ → ℕ → Option Ranked) (whole room : ℕ) (before ids : List ℕ) (n : ℕ) (keys : List ℕ) (from to : ℕ) : Type 0 where
  pub merging : Merging row whole before ids n
  pub size : length keys ≡ room
  pub fits : whole ≤ room
  pub ordered : from ≤ to
  pub ended : to ≤ n
  pub kept : Kept (next_rows found (take n ids)) (map key_row (take n keys)) from to

pub keeping_start : (row : ℕ → ℕ → Option Row) (found : ℕ → ℕ → Option Ranked) (whole : ℕ) (ids keys : List ℕ) → whole ≤ length ids → whole ≤ length keys
    → Keeping row found whole (length keys) ids ids whole keys 0 whole
keeping_start row found whole ids keys h k = record {
  merging = merging_start row whole ids h;
  size = refl;
  fits = k;
  ordered = omega arith;
  ended = omega arith;
  kept =
      kept-none (next_rows found (take whole ids)) (map key_row (take whole keys)) whole (omega (arith, length-rows found (take whole ids), length-take-le whole ids h))
      (omega (arith, length-map (take whole keys) key_row, length-take-le whole keys k));
}

module _ {row : ℕ → ℕ → Option Row} {found : ℕ → ℕ → Option Ranked} {whole room : ℕ} {before ids : List ℕ} {n : ℕ} {keys : List ℕ} {from to : ℕ} (k : Keeping row found whole room before ids n keys from to) where
  pub keeping_ids : n ≤ length ids
  keeping_ids = merging_fits k.merging

  pub keeping_keys : n ≤ length keys
  keeping_keys = omega (arith, k.merging.within, k.fits, k.size)

  pub front-ids : length (take n ids) ≡ n
  front-ids = length-take-le n ids keeping_ids

  pub front_keys : length (take n keys) ≡ n
  front_keys = length-take-le n keys keeping_keys

  -- After a merge, and without what stood behind its place.
  module _ {place result : ℕ} (p : Picked (next_merge row (take n ids)) place result) (filled : List ℕ) (long : length filled ≡ n) (right : map key_row filled ≡ next_rows found (take n ids)) where
    closed_front : (rest : List ℕ) → take (n - 1) (closed_at place 0 filled ++ rest) ≡ take (place + 1) filled ++ drop (place + 2) filled
    unfolding closed_at
    closed_front rest =
        let closed = take (place + 1) filled ++ drop (place + 2) filled in
        let inside : place + 2 ≤ n = omega (arith, merging_inside k.merging p, front-ids) in
        let less : length closed ≡ n - 1 =
        omega (arith, length-append (take (place + 1) filled) (drop (place + 2) filled), length-take-le (place + 1) filled (omega (arith, long, inside)), length-drop (place + 2) filled, long, inside) in
        ap (take (n - 1)) (append_assoc closed (0 ∷ []) rest) ∙ take_at closed (0 ∷ rest) (n - 1) less

    closed_long : length (closed_at place 0 filled ++ drop n keys) ≡ length keys
    unfolding closed_at
    closed_long =
        let front = take (place + 1) filled in
        let back = drop (place + 2) filled in
        let inside : place + 2 ≤ n = omega (arith, merging_inside k.merging p, front-ids) in
        omega
        (arith, length-append ((front ++ back) ++ (0 ∷ [])) (drop n keys), length-append (front ++ back) (0 ∷ []), length-append front back, length-take-le (place + 1) filled (omega (arith, long, inside)), length-drop (place + 2) filled, length-drop n keys, keeping_keys, long, inside)

    pub keeping_next : {ids' keys' : List ℕ} → ids' ≡ joined_at place result (take n ids) ++ drop n ids → keys' ≡ closed_at place 0 filled ++ drop n keys → {from' : ℕ} → from' ≡ place - 1
        → Keeping row found whole room before ids' (n - 1) keys' from' (place + 1)
    keeping_next {ids'} {keys'} e f {from'} is =
        let one = next_found row (take n ids) p.one p.is in
        let at : length one.front ≡ place = omega (arith, one.place, p.stands) in
        let inside : place + 2 ≤ n = omega (arith, merging_inside k.merging p, front-ids) in
        let rows = next_rows found (take n ids) in
        let pair = next_rows found (one.front ++ one.left ∷ one.right ∷ one.back) in
        let whole_is : rows ≡ pair = ap (next_rows found) one.whole in
        let kept-are : map key_row (take (n - 1) keys') ≡ take (place + 1) pair ++ drop (place + 2) pair =
        ap (λ (l : List ℕ). map key_row (take (n - 1) l)) f
        ∙ ap (map key_row) (closed_front (drop n keys))
        ∙ map-append key_row (take (place + 1) filled) (drop (place + 2) filled)
        ∙ rw (← take-map key_row (place + 1) filled, ← drop-map key_row (place + 2) filled, right ∙ whole_is) in
        let rows_are : next_rows found (take (n - 1) ids') ≡ next_rows found (one.front ++ result ∷ one.back) =
        ap (next_rows found) (merging-front k.merging p e ∙ merged-is row one ∙ ap (λ (r : ℕ). one.front ++ r ∷ one.back) p.gives) in
        record {
          merging = merging-next k.merging p e;
          size = ap length f ∙ closed_long ∙ k.size;
          fits = k.fits;
          ordered = omega (arith, is);
          ended = omega (arith, inside);
          kept = rw (kept-are, rows_are, is) (kept-merged found one.front one.back one.left one.right result place at);
        }
