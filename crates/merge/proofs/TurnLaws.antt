-- Laws of the merge turn by turn: the row of a pair, the next merge among pairs, a merge in place. Assumes nothing.
use Rattle.std.specs.Prelude.{Option, None, Some}
use Prim.Native.Nat.{◌-◌, ℕ, suc, ◌+◌, ◌≤◌, ◌<◌}
use native.Mathlib.Omega.{arith}
use native.Mathlib.Numerals.{add-one}
use mathlib.Core.Path.{◌≡◌, refl, sym, ap, ◌∙◌}
use mathlib.Core.Bool.{Bool, true, false, cond}
use mathlib.Core.List.{List, [], ◌∷◌, ◌++◌}
use borrow.Author.Tests.{leb-true, leb-false, le-leb, lt-leb, lt-ltb, le-ltb}
use lib.Dec.{leb, ltb}
use lib.ListN.{length, take, drop, get_or, set, length-append, length-drop, drop_of_length-le}
use lib.Seq.{paste, take_all, drop-cons, take-suc-set, drop-set-lt, length-take-le, set_at, append_snoc}
use Rattle.utf8.specs.Lists.{neighbours}
use Rattle.utf8.proofs.Places.{length-neighbours, get_or_neighbours}
use Rattle.model.specs.Model.{Row}
use Rattle.model.specs.inner.Search.{row_found}
use Rattle.model.proofs.RowLaws.{row_is}
use Rattle.index.specs.inner.Find.{row_from}
use Rattle.index.proofs.IndexLaws.{found_inside}
use Rattle.merge.specs.declared.Joining.{Joining}
use Rattle.merge.specs.Merge.{Candidate, candidate_at, candidates_from, candidates, lowest_rank, next_merge}
use Rattle.merge.specs.inner.Turns.{joining, row_in, turn_of, joined_at, closed_at}
use Rattle.merge.specs.inner.Keys.{lower_turn}
use Rattle.merge.proofs.NextLaws.{lower_of, lowest-append}

-- What a turn does with the pair at a place, by the pair's row.
abbrev pub turn_at : ℕ → Option Row → Option Joining
turn_at place None = None
turn_at place (Some row) = joining place row.result row.rank

-- ---- the row of a pair, by what the search gave

module _ (left right result rank row_index : List ℕ) (shift place l r : ℕ) {f : Option ℕ} (found : f ≡ row_from left right row_index shift l r) where
  pub row-at : {i k : ℕ} → f ≡ Some i → k ≡ get_or rank i 0 → joining place (get_or result i 0) k ≡ turn_at place (row_in left right result rank row_index shift l r)
  unfolding row_in row_found
  row-at {i} e k-is =
      let inside : i < length left = found_inside left right row_index shift l r (sym found ∙ e) in
      rw (← found, e) (rw (row_is left right result rank i (record { left = 0; right = 0; result = 0; rank = 0 }) inside, k-is))

  pub row_missing : f ≡ None → None ≡ turn_at place (row_in left right result rank row_index shift l r)
  unfolding row_in row_found
  row_missing e = rw (← found, e)

-- ---- the lower of two turns

pub lower_stop : (t : Option Joining) → lower_turn t None ≡ t
lower_stop None = refl
lower_stop (Some j) = refl

pub turn_lower : (o p : Option Candidate) → turn_of (lower_of o p) ≡ lower_turn (turn_of o) (turn_of p)
turn_lower None p = refl
turn_lower (Some c) None = refl
turn_lower (Some c) (Some d) = go (leb c.row.rank d.row.rank)
  where
    go : (b : Bool) → turn_of (Some (cond b c d)) ≡ cond b (turn_of (Some c)) (turn_of (Some d))
    go true = refl
    go false = refl

pub turn_one : (place : ℕ) (o : Option Row) → turn_of (lowest_rank (candidate_at place o)) ≡ turn_at place o
turn_one place None = refl
turn_one place (Some row) = refl

pub lower_assoc : (a b c : Option Joining) → lower_turn a (lower_turn b c) ≡ lower_turn (lower_turn a b) c
lower_assoc None b c = refl
lower_assoc (Some j) None c = refl
lower_assoc (Some j) (Some k) None = go (leb j.rank k.rank)
  where
    go : (b : Bool) → cond b (Some j) (Some k) ≡ lower_turn (cond b (Some j) (Some k)) None
    go true = refl
    go false = refl
lower_assoc (Some j) (Some k) (Some l) = go (leb j.rank k.rank) (leb k.rank l.rank) refl refl
  where
    go : (x y : Bool) → leb j.rank k.rank ≡ x → leb k.rank l.rank ≡ y → lower_turn (Some j) (cond y (Some k) (Some l)) ≡ lower_turn (cond x (Some j) (Some k)) (Some l)
    go true true e f = rw (e, le-leb j.rank l.rank (omega (arith, leb-true j.rank k.rank e, leb-true k.rank l.rank f)))
    go true false e f = refl
    go false true e f = rw (e, f)
    go false false e f = rw (f, lt-leb j.rank l.rank (omega (arith, leb-false j.rank k.rank e, leb-false k.rank l.rank f)))

-- ---- the next merge among the pairs from a place on

module _ (row : ℕ → ℕ → Option Row) (ids : List ℕ) where
  -- What the pairs from a place on give.
  pub turn_from : ℕ → Option Joining
  turn_from p = turn_of (lowest_rank (candidates_from row p (drop p (neighbours ids))))

  pub turn-start : turn_of (next_merge row ids) ≡ turn_from 0
  unfolding next_merge candidates turn_from
  turn-start = refl

  turn_over : (p : ℕ) → length ids ≤ p + 1 → turn_from p ≡ None
  unfolding turn_from
  turn_over p h = rw (drop_of_length-le (neighbours ids) {i = p} (omega (arith, length-neighbours ids)))

  turn_at_lem : (p : ℕ) → p + 1 < length ids → turn_from p ≡ lower_turn (turn_at p (row (get_or ids p 0) (get_or ids (p + 1) 0))) (turn_from (p + 1))
  unfolding turn_from
  turn_at_lem p h =
      let inside : p < length (neighbours ids) = omega (arith, length-neighbours ids) in
      let rest = candidates_from row (suc p) (drop (suc p) (neighbours ids)) in
      rw (drop-cons (neighbours ids) p (0, 0) inside, get_or_neighbours ids p 0 0 h)
      (ap turn_of (lowest-append (candidate_at p (row (get_or ids p 0) (get_or ids (p + 1) 0))) rest)
      ∙ turn_lower (lowest_rank (candidate_at p (row (get_or ids p 0) (get_or ids (p + 1) 0)))) (lowest_rank rest)
      ∙ rw (turn_one p (row (get_or ids p 0) (get_or ids (p + 1) 0)), add-one p))

  -- best is what the pairs before p give.
  pub record Scanned (best : Option Joining) (p : ℕ) : Type 0 where
    pub same : turn_of (next_merge row ids) ≡ lower_turn best (turn_from p)

  pub scanned_start : Scanned None 0
  scanned_start = record { same = turn-start }

  module _ {best : Option Joining} {p : ℕ} (s : Scanned best p) where
    pub scanned_next : {next : ℕ} → next ≡ p + 1 → next < length ids → {t b : Option Joining} → t ≡ turn_at p (row (get_or ids p 0) (get_or ids next 0)) → b ≡ lower_turn best t → Scanned b next
    scanned_next {next} is h {t} {b} told low =
        rw is
        (record {
          same =
              s.same
              ∙ ap (lower_turn best) (turn_at_lem p (omega arith))
              ∙ lower_assoc best (turn_at p (row (get_or ids p 0) (get_or ids (p + 1) 0))) (turn_from (p + 1))
              ∙ ap (λ (u : Option Joining). lower_turn u (turn_from (p + 1))) (sym (low ∙ ap (lower_turn best) (told ∙ rw is)));
        })

    pub scanned_ended : length ids ≤ p + 1 → best ≡ turn_of (next_merge row ids)
    scanned_ended h = sym (s.same ∙ ap (lower_turn best) (turn_over p h) ∙ lower_stop best)

-- ---- the best so far as numbers: its rank, its place and its row

-- More than any rank, where there is none.
abbrev pub no_rank : ℕ
no_rank = 4294967296

abbrev pub best_turn : List ℕ → ℕ → ℕ → ℕ → Option Joining
best_turn result rank place row = cond (ltb rank no_rank) (joining place (get_or result row 0) rank) None

pub best_some : (result : List ℕ) (rank place row : ℕ) → rank < no_rank → best_turn result rank place row ≡ joining place (get_or result row 0) rank
best_some result rank place row h = rw (lt-ltb rank no_rank h)

module _ (result : List ℕ) (best place row p n k : ℕ) (small : k < no_rank) where
  pub lower_taken : k < best → lower_turn (best_turn result best place row) (joining p n k) ≡ joining p n k
  lower_taken l = go (ltb best no_rank)
    where
      go : (b : Bool) → lower_turn (cond b (joining place (get_or result row 0) best) None) (joining p n k) ≡ joining p n k
      go true = rw (lt-leb best k l)
      go false = refl

  pub lower_kept : best ≤ k → lower_turn (best_turn result best place row) (joining p n k) ≡ best_turn result best place row
  lower_kept l = rw (lt-ltb best no_rank (omega arith)) (rw (le-leb best k l))

-- These numbers are what the pairs before p give.
pub record Best (row : ℕ → ℕ → Option Row) (ids result : List ℕ) (rank place at p : ℕ) : Type 0 where
  pub scanned : Scanned row ids (best_turn result rank place at) p

module _ (row : ℕ → ℕ → Option Row) (ids result : List ℕ) where
  pub best_start : (place at : ℕ) → Best row ids result no_rank place at 0
  best_start place at = record { scanned = scanned_start row ids }

  module _ {rank place at p : ℕ} (b : Best row ids result rank place at p) (last : length ids ≤ p + 1) where
    pub best_none : no_rank ≤ rank → None ≡ turn_of (next_merge row ids)
    best_none h = sym (rw (le-ltb rank no_rank h)) ∙ scanned_ended row ids b.scanned last

    pub best_merge : {n : ℕ} → rank < no_rank → n ≡ get_or result at 0 → joining place n rank ≡ turn_of (next_merge row ids)
    best_merge h e = rw e (sym (best_some result rank place at h) ∙ scanned_ended row ids b.scanned last)

module _ (left right result rank row_index : List ℕ) (shift : ℕ) (ids : List ℕ) where
  abbrev row_of_pair : ℕ → ℕ → Option Row
  row_of_pair = row_in left right result rank row_index shift

  module _ {best place at p : ℕ} (b : Best row_of_pair ids result best place at p) {next : ℕ} (is : next ≡ p + 1) (h : next < length ids) {f : Option ℕ} (found : f ≡ row_from left right row_index shift (get_or ids p 0) (get_or ids next 0)) where
    pub best_missing : f ≡ None → Best row_of_pair ids result best place at next
    best_missing e =
        record {
          scanned =
              scanned_next row_of_pair ids b.scanned is h (row_missing left right result rank row_index shift p (get_or ids p 0) (get_or ids next 0) found e) (sym (lower_stop (best_turn result best place at)));
        }

    module _ {i k : ℕ} (e : f ≡ Some i) (k-is : k ≡ get_or rank i 0) (small : k < no_rank) where
      this : joining p (get_or result i 0) k ≡ turn_at p (row_of_pair (get_or ids p 0) (get_or ids next 0))
      this = row-at left right result rank row_index shift p (get_or ids p 0) (get_or ids next 0) found e k-is

      pub best_lower : k < best → Best row_of_pair ids result k p i next
      best_lower l =
          record {
            scanned =
                scanned_next row_of_pair ids b.scanned is h this (best_some result k p i small ∙ sym (lower_taken result best place at p (get_or result i 0) k small l));
          }

      pub best_kept : best ≤ k → Best row_of_pair ids result best place at next
      best_kept l =
          record { scanned = scanned_next row_of_pair ids b.scanned is h this (sym (lower_kept result best place at p (get_or result i 0) k small l)) }

-- ---- one merge in place

-- What follows a place moves one cell to the left, and the last cell becomes blank.
pub closed : {A : Type 0} (cells : List A) (place : ℕ) (blank : A) → place + 2 ≤ length cells
    → set (paste cells (place + 1) (drop (place + 2) cells) (length cells - (place + 2))) (length cells - 1) blank ≡ closed_at place blank cells
unfolding closed_at
closed cells place blank h =
    let n = length cells in
    let k = n - (place + 2) in
    let moved = drop (place + 2) cells in
    let whole = take (place + 1) cells ++ moved in
    let all : take k moved ≡ moved = take_all k moved (omega (arith, length-drop (place + 2) cells)) in
    let end : place + 1 + k ≡ n - 1 = omega arith in
    let last : drop (n - 1) cells ≡ get_or cells (n - 1) blank ∷ [] =
    drop-cons cells (n - 1) blank (omega arith) ∙ ap (λ l. get_or cells (n - 1) blank ∷ l) (drop_of_length-le cells {i = suc (n - 1)} (omega arith)) in
    let long : length whole ≡ n - 1 = omega (arith, length-append (take (place + 1) cells) moved, length-take-le (place + 1) cells (omega arith), length-drop (place + 2) cells) in
    rw (all, end, last) (set_at whole (get_or cells (n - 1) blank) [] blank (n - 1) long)

-- The pair's first cell has the result before what follows moves.
pub joined : (ids : List ℕ) (place result : ℕ) → place + 2 ≤ length ids → closed_at place 0 (set ids place result) ≡ joined_at place result ids
unfolding joined_at closed_at
joined ids place result h =
    rw (add-one place)
    (rw (take-suc-set ids place result (omega arith), drop-set-lt (place + 2) ids place result (omega arith), append_snoc (take place ids) result (drop (place + 2) ids)))
