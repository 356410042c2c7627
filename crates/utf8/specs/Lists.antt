-- Words on lists that the definitions of every crate are written in.
use Rattle.std.specs.Prelude.{ℕ, zero, suc, ◌+◌, ◌-◌, max, Bool, true, false, cond, ◌&&◌, ◌||◌, List, [], ◌∷◌, ◌++◌, map, eqb, leb, length, take, drop, Option, None, Some}
use Rattle.std.proofs.Math.Seq.{slice}

module _ {ℓ} {A : Type ℓ} where
  abbrev pub is_empty : List A → Bool
  is_empty [] = true
  is_empty (x ∷ xs) = false

  abbrev pub all : (A → Bool) → List A → Bool
  all test [] = true
  all test (x ∷ xs) = test x && all test xs

  abbrev pub any : (A → Bool) → List A → Bool
  any test [] = false
  any test (x ∷ xs) = test x || any test xs

  -- The elements that pass the test, in their order.
  abbrev pub filter : (A → Bool) → List A → List A
  filter test [] = []
  filter test (x ∷ xs) = cond (test x) (x ∷ filter test xs) (filter test xs)

  -- How many elements pass the test.
  abbrev pub count : (A → Bool) → List A → ℕ
  count test xs = length (filter test xs)

  -- The elements at the front up to the first that fails the test, and what follows them.
  abbrev pub take_while : (A → Bool) → List A → List A
  take_while test [] = []
  take_while test (x ∷ xs) = cond (test x) (x ∷ take_while test xs) []

  abbrev pub drop_while : (A → Bool) → List A → List A
  drop_while test [] = []
  drop_while test (x ∷ xs) = cond (test x) (drop_while test xs) (x ∷ xs)

  -- The last element, or d where there is none.
  abbrev pub last_or : A → List A → A
  last_or d [] = d
  last_or d (x ∷ xs) = last_or x xs

  abbrev pub join : List (List A) → List A
  join [] = []
  join (x ∷ xs) = x ++ join xs

  -- Each element with the one after it.
  abbrev pub neighbours_from : A → List A → List (A × A)
  neighbours_from x [] = []
  neighbours_from x (y ∷ ys) = (x, y) ∷ neighbours_from y ys

  abbrev pub neighbours : List A → List (A × A)
  neighbours [] = []
  neighbours (x ∷ xs) = neighbours_from x xs

  -- Each element with its place, the places counted from p.
  abbrev pub numbered_from : ℕ → List A → List (ℕ × A)
  numbered_from p [] = []
  numbered_from p (x ∷ xs) = (p, x) ∷ numbered_from (suc p) xs

  abbrev pub numbered : List A → List (ℕ × A)
  numbered xs = numbered_from 0 xs

  -- A list cut into parts from its front: width says of what is left how long its first part is, and no part is shorter than one.
  -- Each part takes at least one element, so as many turns as there are elements are enough.
  abbrev pub cut_for : ℕ → (List A → ℕ) → List A → List (List A)
  cut_for zero width xs = []
  cut_for (suc turns) width [] = []
  cut_for (suc turns) width (x ∷ xs) =
      let w = max 1 (width (x ∷ xs)) in take w (x ∷ xs) ∷ cut_for turns width (drop w (x ∷ xs))

  abbrev pub cut_by : (List A → ℕ) → List A → List (List A)
  cut_by width xs = cut_for (length xs) width xs

module _ {A : Type 0} where
  -- The first element that passes the test.
  abbrev pub find : (A → Bool) → List A → Option A
  find test [] = None
  find test (x ∷ xs) = cond (test x) (Some x) (find test xs)

module _ {ℓ κ} {A : Type ℓ} {B : Type κ} where
  -- The elements of two lists side by side, as far as both go.
  abbrev pub zip : List A → List B → List (A × B)
  zip [] ys = []
  zip (x ∷ xs) [] = []
  zip (x ∷ xs) (y ∷ ys) = (x, y) ∷ zip xs ys

  abbrev pub join_map : (A → List B) → List A → List B
  join_map f xs = join (map f xs)

abbrev pub sum : List ℕ → ℕ
sum [] = 0
sum (n ∷ ns) = n + sum ns

-- The parts of a list between each of a row of places and the next.
abbrev pub between : List ℕ → List ℕ → List (List ℕ)
between places xs = map (λ (p : ℕ × ℕ). slice p.0 p.1 xs) (neighbours places)

-- As many numbers as the second says, from the first on.
abbrev pub count_from : ℕ → ℕ → List ℕ
count_from first zero = []
count_from first (suc n) = first ∷ count_from (suc first) n

-- The numbers below n.
abbrev pub below : ℕ → List ℕ
below n = count_from 0 n

abbrev pub same : List ℕ → List ℕ → Bool
same [] [] = true
same [] (y ∷ ys) = false
same (x ∷ xs) [] = false
same (x ∷ xs) (y ∷ ys) = eqb x y && same xs ys

abbrev pub starts_with : List ℕ → List ℕ → Bool
starts_with [] ys = true
starts_with (x ∷ xs) [] = false
starts_with (x ∷ xs) (y ∷ ys) = eqb x y && starts_with xs ys

abbrev pub ends_with : List ℕ → List ℕ → Bool
ends_with xs ys = same xs (drop (length ys - length xs) ys)

-- A pair of bounds; both belong to the range.
abbrev pub Range : Type 0
Range = ℕ × ℕ

abbrev pub within : Range → ℕ → Bool
within range n = leb range.0 n && leb n range.1
