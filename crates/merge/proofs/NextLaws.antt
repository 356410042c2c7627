-- Laws of the next merge, over any function from pairs to rows: where it stands, and what it is in a list that is two lists joined
-- with no row over the seam. Assumes nothing.
use Rattle.std.specs.Prelude.{Option, None, Some, option_map}
use Rattle.std.proofs.lemmas.Option.{none-some, same_Some}
use Prim.Native.Nat.{ℕ, suc, ◌+◌, ◌≤◌}
use native.Mathlib.Omega.{arith}
use native.Mathlib.Nat.{add-zero, zero-add, add_assoc}
use mathlib.Core.Path.{◌≡◌, refl, sym, ap, ◌∙◌, subst}
use mathlib.Core.Bool.{Bool, true, false, cond}
use mathlib.Core.List.{List, [], ◌∷◌, ◌++◌, map, append_assoc}
use borrow.Author.Tests.{leb-true, leb-false, le-leb, lt-leb}
use lib.Dec.{leb}
use lib.ListN.{length, take, drop, length-append}
use lib.Seq.{take_at, take-append-add, drop-append-add, take-append-le, drop-append-le}
use Rattle.utf8.specs.Lists.{neighbours_from, neighbours}
use Rattle.model.specs.Model.{Row}
use Rattle.merge.specs.Merge.{Candidate, candidate_at, candidates_from, candidates, lower_rank, lowest_rank, next_merge, merged_at}

-- ---- the lowest rank of two rows of candidates

-- The lower of what two rows of candidates give, of equals the first.
abbrev pub lower_of : Option Candidate → Option Candidate → Option Candidate
lower_of None o = o
lower_of (Some c) o = Some (lower_rank c o)

lower_assoc : (a b c : Candidate) → lower_rank a (Some (lower_rank b (Some c))) ≡ lower_rank (lower_rank a (Some b)) (Some c)
lower_assoc a b c = go (leb a.row.rank b.row.rank) (leb b.row.rank c.row.rank) refl refl
  where
    go : (x y : Bool) → leb a.row.rank b.row.rank ≡ x → leb b.row.rank c.row.rank ≡ y
        → lower_rank a (Some (lower_rank b (Some c))) ≡ lower_rank (lower_rank a (Some b)) (Some c)
    go true true p q =
        rw (p, q) (rw (p, le-leb a.row.rank c.row.rank (omega (arith, leb-true a.row.rank b.row.rank p, leb-true b.row.rank c.row.rank q))))
    go true false p q = rw (p, q)
    go false true p q = rw (p, q) (rw p)
    go false false p q =
        rw (p, q) (rw (lt-leb a.row.rank c.row.rank (omega (arith, leb-false a.row.rank b.row.rank p, leb-false b.row.rank c.row.rank q))))

pub lowest-append : (cs ds : List Candidate) → lowest_rank (cs ++ ds) ≡ lower_of (lowest_rank cs) (lowest_rank ds)
lowest-append [] ds = refl
lowest-append (c ∷ cs) ds = ap (λ (o : Option Candidate). Some (lower_rank c o)) (lowest-append cs ds) ∙ go (lowest_rank cs) (lowest_rank ds)
  where
    go : (o p : Option Candidate) → Some (lower_rank c (lower_of o p)) ≡ lower_of (Some (lower_rank c o)) p
    go None p = refl
    go (Some d) None = refl
    go (Some d) (Some e) = ap {B = Option Candidate} Some (lower_assoc c d e)

-- ---- candidates at later places

-- A candidate, so many places later.
abbrev pub later : ℕ → Candidate → Candidate
later n c = record { place = n + c.place; row = c.row }

module _ (row : ℕ → ℕ → Option Row) where
  candidates_later : (n k : ℕ) (pairs : List (ℕ × ℕ)) → candidates_from row (n + k) pairs ≡ map (later n) (candidates_from row k pairs)
  candidates_later n k [] = refl
  candidates_later n k (pair ∷ pairs) = go (row pair.0 pair.1) (ap (λ (i : ℕ). candidates_from row i pairs) step ∙ candidates_later n (suc k) pairs)
    where
      step : suc (n + k) ≡ n + suc k
      step = omega arith

      go : (o : Option Row) → candidates_from row (suc (n + k)) pairs ≡ map (later n) (candidates_from row (suc k) pairs)
          → candidate_at (n + k) o ++ candidates_from row (suc (n + k)) pairs ≡ map (later n) (candidate_at k o ++ candidates_from row (suc k) pairs)
      go None e = e
      go (Some r) e = ap {B = List Candidate} (λ cs. record { place = n + k; row = r } ∷ cs) e

  lowest_later : (n : ℕ) (cs : List Candidate) → lowest_rank (map (later n) cs) ≡ option_map (later n) (lowest_rank cs)
  lowest_later n [] = refl
  lowest_later n (c ∷ cs) = ap (λ (o : Option Candidate). Some (lower_rank (later n c) o)) (lowest_later n cs) ∙ go (lowest_rank cs)
    where
      go : (o : Option Candidate) → Some (lower_rank (later n c) (option_map (later n) o)) ≡ Some (later n (lower_rank c o))
      go None = refl
      go (Some d) = pick (leb c.row.rank d.row.rank)
        where
          pick : (b : Bool) → Some (cond b (later n c) (later n d)) ≡ Some (later n (cond b c d))
          pick true = refl
          pick false = refl

  -- No row stands for the last of some ids and the first of others.
  abbrev pub NoRow : List ℕ → List ℕ → Type 0
  NoRow xs ys = (front back : List ℕ) (a b : ℕ) → xs ≡ front ++ (a ∷ []) → ys ≡ b ∷ back → row a b ≡ None

  candidates_seam : (x : ℕ) (xs ys : List ℕ) (k : ℕ) → NoRow (x ∷ xs) ys
      → candidates_from row k (neighbours_from x (xs ++ ys)) ≡ candidates_from row k (neighbours_from x xs) ++ candidates_from row (suc (length xs) + k) (neighbours ys)
  candidates_seam x [] [] k apart = refl
  candidates_seam x [] (y ∷ ys) k apart =
      ap (λ (o : Option Row). candidate_at k o ++ candidates_from row (suc k) (neighbours_from y ys)) (apart [] ys x y refl refl)
      ∙ ap (λ (i : ℕ). candidates_from row i (neighbours_from y ys)) next
    where
      next : suc k ≡ 1 + k
      next = omega arith
  candidates_seam x (z ∷ xs) ys k apart =
      ap (λ (cs : List Candidate). candidate_at k (row x z) ++ cs)
      (candidates_seam z xs ys (suc k) (λ front back a b p q. apart (x ∷ front) back a b (ap {B = List ℕ} (λ l. x ∷ l) p) q)
      ∙ ap (λ (i : ℕ). candidates_from row (suc k) (neighbours_from z xs) ++ candidates_from row i (neighbours ys)) next)
      ∙ sym (append_assoc (candidate_at k (row x z)) (candidates_from row (suc k) (neighbours_from z xs)) (candidates_from row (suc (suc (length xs)) + k) (neighbours ys)))
    where
      next : suc (length xs) + suc k ≡ suc (suc (length xs)) + k
      next = omega arith

  candidates-append : (xs ys : List ℕ) → NoRow xs ys → candidates row (xs ++ ys) ≡ candidates row xs ++ map (later (length xs)) (candidates row ys)
  unfolding candidates
  candidates-append [] ys apart =
      ap (λ (i : ℕ). candidates_from row i (neighbours ys)) (sym (zero-add 0)) ∙ candidates_later 0 0 (neighbours ys)
  candidates-append (x ∷ xs) ys apart =
      candidates_seam x xs ys 0 apart
      ∙ ap (λ (cs : List Candidate). candidates_from row 0 (neighbours_from x xs) ++ cs) (candidates_later (suc (length xs)) 0 (neighbours ys))

  -- The next merge of two lists joined, with no row over the seam: the lower of their own.
  pub next-append : (xs ys : List ℕ) → NoRow xs ys → next_merge row (xs ++ ys) ≡ lower_of (next_merge row xs) (option_map (later (length xs)) (next_merge row ys))
  unfolding next_merge
  next-append xs ys apart =
      ap lowest_rank (candidates-append xs ys apart)
      ∙ lowest-append (candidates row xs) (map (later (length xs)) (candidates row ys))
      ∙ ap (lower_of (lowest_rank (candidates row xs))) (lowest_later (length xs) (candidates row ys))

  -- ---- where a candidate stands

  -- The ids are some, then a pair that has the candidate's row, then others; the pair stands at the candidate's place, counted from k.
  pub record FoundFrom (k : ℕ) (ids : List ℕ) (c : Candidate) : Type 0 where
    pub front : List ℕ
    pub left : ℕ
    pub right : ℕ
    pub back : List ℕ
    pub whole : ids ≡ front ++ left ∷ right ∷ back
    pub place : k + length front ≡ c.place
    pub has : row left right ≡ Some c.row

  abbrev Every : (Candidate → Type 0) → List Candidate → Type 0
  Every P [] = Unit {0}
  Every P (c ∷ cs) = P c × Every P cs

  every_append : (P : Candidate → Type 0) (cs ds : List Candidate) → Every P cs → Every P ds → Every P (cs ++ ds)
  every_append P [] ds p q = q
  every_append P (c ∷ cs) ds p q = (p.0, every_append P cs ds p.1 q)

  every_map : (P Q : Candidate → Type 0) → ((c : Candidate) → P c → Q c) → (cs : List Candidate) → Every P cs → Every Q cs
  every_map P Q f [] p = tt
  every_map P Q f (c ∷ cs) p = (f c p.0, every_map P Q f cs p.1)

  lowest-is-one : (P : Candidate → Type 0) (cs : List Candidate) (c : Candidate) → Every P cs → lowest_rank cs ≡ Some c → P c
  lowest-is-one P [] c all e = absurd (none-some c e)
  lowest-is-one P (d ∷ cs) c all e =
      go (λ x. lowest-is-one P cs x all.1) (lowest_rank cs) refl (same_Some (lower_rank d (lowest_rank cs)) c e)
    where
      go : ((x : Candidate) → lowest_rank cs ≡ Some x → P x) → (o : Option Candidate) → lowest_rank cs ≡ o → lower_rank d o ≡ c → P c
      go others None q p = subst P p all.0
      go others (Some f) q p = pick (leb d.row.rank f.row.rank) p
        where
          pick : (b : Bool) → cond b d f ≡ c → P c
          pick true p = subst P p all.0
          pick false p = subst P p (others f q)

  found_on : (k x : ℕ) (ids : List ℕ) (c : Candidate) → FoundFrom (suc k) ids c → FoundFrom k (x ∷ ids) c
  found_on k x ids c f =
      record {
        front = x ∷ f.front;
        left = f.left;
        right = f.right;
        back = f.back;
        whole = ap {B = List ℕ} (λ l. x ∷ l) f.whole;
        place = omega (arith, f.place);
        has = f.has;
      }

  every_found : (k x : ℕ) (xs : List ℕ) → Every (FoundFrom k (x ∷ xs)) (candidates_from row k (neighbours_from x xs))
  every_found k x [] = tt
  every_found k x (y ∷ ys) =
      every_append (FoundFrom k (x ∷ y ∷ ys)) (candidate_at k (row x y)) (candidates_from row (suc k) (neighbours_from y ys)) (go (row x y) refl)
      (every_map (FoundFrom (suc k) (y ∷ ys)) (FoundFrom k (x ∷ y ∷ ys)) (found_on k x (y ∷ ys)) (candidates_from row (suc k) (neighbours_from y ys)) (every_found (suc k) y ys))
    where
      go : (o : Option Row) → row x y ≡ o → Every (FoundFrom k (x ∷ y ∷ ys)) (candidate_at k o)
      go None e = tt
      go (Some r) e = (record { front = []; left = x; right = y; back = ys; whole = refl; place = add-zero k; has = e }, tt)

  -- The next merge's pair stands at its place, and has its row.
  pub next_found : (ids : List ℕ) (c : Candidate) → next_merge row ids ≡ Some c → FoundFrom 0 ids c
  unfolding next_merge candidates
  next_found [] c e = absurd (none-some c e)
  next_found (x ∷ xs) c e = lowest-is-one (FoundFrom 0 (x ∷ xs)) (candidates_from row 0 (neighbours_from x xs)) c (every_found 0 x xs) e

  -- ---- the ids after a merge

  module _ {ids : List ℕ} {c : Candidate} (f : FoundFrom 0 ids c) where
    front_long : length f.front ≡ c.place
    front_long = omega (arith, f.place)

    -- The result stands for the pair.
    pub merged-is : merged_at c ids ≡ f.front ++ c.row.result ∷ f.back
    unfolding merged_at
    merged-is =
        ap (λ (l : List ℕ). take c.place l ++ c.row.result ∷ drop (c.place + 2) l) f.whole
        ∙ ap (λ (l : List ℕ). l ++ c.row.result ∷ drop (c.place + 2) (f.front ++ f.left ∷ f.right ∷ f.back)) (take_at f.front (f.left ∷ f.right ∷ f.back) c.place front_long)
        ∙ ap (λ (n : ℕ). f.front ++ c.row.result ∷ drop (n + 2) (f.front ++ f.left ∷ f.right ∷ f.back)) (sym front_long)
        ∙ ap {B = List ℕ} (λ l. f.front ++ c.row.result ∷ l) (drop-append-add f.front (f.left ∷ f.right ∷ f.back) 2)

    pub merged_shorter : suc (length (merged_at c ids)) ≡ length ids
    merged_shorter =
        omega (arith, ap length merged-is, length-append f.front (c.row.result ∷ f.back), ap length f.whole, length-append f.front (f.left ∷ f.right ∷ f.back))

    pub place_inside : c.place + 2 ≤ length ids
    place_inside = omega (arith, f.place, ap length f.whole, length-append f.front (f.left ∷ f.right ∷ f.back))

    -- A merge in the first of two lists joined.
    pub merged-front : (ys : List ℕ) → merged_at c (ids ++ ys) ≡ merged_at c ids ++ ys
    unfolding merged_at
    merged-front ys =
        ap (λ (l : List ℕ). l ++ c.row.result ∷ drop (c.place + 2) (ids ++ ys)) (take-append-le c.place ids ys (omega (arith, place_inside)))
        ∙ ap {B = List ℕ} (λ l. take c.place ids ++ c.row.result ∷ l) (drop-append-le (c.place + 2) ids ys place_inside)
        ∙ sym (append_assoc (take c.place ids) (c.row.result ∷ drop (c.place + 2) ids) ys)

  -- A merge in the second.
  pub merged_later : (c : Candidate) (xs ids : List ℕ) → merged_at (later (length xs) c) (xs ++ ids) ≡ xs ++ merged_at c ids
  unfolding merged_at
  merged_later c xs ids =
      ap (λ (l : List ℕ). l ++ c.row.result ∷ drop (length xs + c.place + 2) (xs ++ ids)) (take-append-add xs ids c.place)
      ∙ ap (λ (n : ℕ). (xs ++ take c.place ids) ++ c.row.result ∷ drop n (xs ++ ids)) (add_assoc (length xs) c.place 2)
      ∙ ap {B = List ℕ} (λ l. (xs ++ take c.place ids) ++ c.row.result ∷ l) (drop-append-add xs ids (c.place + 2))
      ∙ append_assoc xs (take c.place ids) (c.row.result ∷ drop (c.place + 2) ids)
