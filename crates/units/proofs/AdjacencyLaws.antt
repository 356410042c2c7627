-- Laws of the byte-adjacency rows: noting pairs one by one gives the rows of all of them, and the rows say of each pair of bytes
-- whether some piece holds it. Assumes nothing.
use Prim.Native.Nat.{ℕ, zero, suc, ◌+◌, ◌*◌, ◌/◌, ◌%◌, ◌^◌, ◌<◌, ◌≤◌}
use native.Mathlib.Nat.{zero-add, zero-div}
use native.Mathlib.Numerals.{add-one}
use native.Mathlib.Omega.{arith}
use mathlib.Core.Path.{◌≡◌, refl, sym, ap, ap₂, ◌∙◌}
use mathlib.Core.Bool.{Bool, true, false, ◌&&◌, ◌||◌, or_assoc, or-false}
use mathlib.Core.Logic.{⊎_elim}
use mathlib.Core.List.{List, [], ◌∷◌, ◌++◌, map}
use borrow.Author.Tests.{eqb-true, eqb-false, eq-eqb}
use lib.Bits.{bit_or}
use lib.Pow.{shl_exact}
use lib.Dec.{eqb}
use lib.ListN.{length, get_or, set, take, drop, length-map, length-set, length-replicate, get_or-replicate, get_or-map, drop_of_length-le}
use lib.Seq.{ext_get_or, get_or-set_same, get_or-set_other, get_or-drop, drop-cons, slice}
use Rattle.utf8.specs.Lists.{any, join_map, neighbours, neighbours_from, below}
use Rattle.utf8.proofs.Tests.{either}
use Rattle.utf8.proofs.Places.{any_append, get_or_inside, length-count_from, get_or_count_from, length-neighbours, get_or_neighbours}
use Rattle.model.specs.Model.{strings}
use Rattle.model.specs.Answers.{zeros}
use Rattle.units.specs.Units.{holds_pair}
use Rattle.units.specs.Adjacency.{bits, adjacency_word, adjacency}
use Rattle.units.specs.inner.Read.{pair_noted}
use Rattle.units.specs.inner.Notes.{no_rows, note, note_all}
use Rattle.units.proofs.BitLaws.{digit_says, bits-same, bits_none, bits-set, bit_at}

-- ---- rows by a test of two bytes

pub rows_by : (ℕ → ℕ → Bool) → List ℕ
rows_by test = map (λ (i : ℕ). bits (λ (b : ℕ). test (i / 4) (i % 4 * 64 + b)) 64) (below 1024)

module _ (f : ℕ → ℕ) (n : ℕ) where
  mapped_length : length (map f (below n)) ≡ n
  mapped_length = length-map (below n) f ∙ length-count_from 0 n

  mapped_at : (i : ℕ) → i < n → get_or (map f (below n)) i 0 ≡ f i
  mapped_at i h =
      get_or_inside (map f (below n)) i 0 (f 0) (omega (arith, mapped_length))
      ∙ get_or-map f (below n) i 0
      ∙ ap f (get_or_count_from 0 n i 0 h ∙ zero-add i)

module _ (test : ℕ → ℕ → Bool) where
  rows-length : length (rows_by test) ≡ 1024
  unfolding rows_by
  rows-length = mapped_length (λ (i : ℕ). bits (λ (b : ℕ). test (i / 4) (i % 4 * 64 + b)) 64) 1024

  rows_at : (i : ℕ) → i < 1024 → get_or (rows_by test) i 0 ≡ bits (λ (b : ℕ). test (i / 4) (i % 4 * 64 + b)) 64
  unfolding rows_by
  rows_at i h = mapped_at (λ (i : ℕ). bits (λ (b : ℕ). test (i / 4) (i % 4 * 64 + b)) 64) 1024 i h

rows_none : no_rows ≡ rows_by (λ x y. false)
unfolding no_rows
rows_none =
    ext_get_or 0 (zeros 1024) (rows_by (λ x y. false)) (length-replicate {A = ℕ} 1024 0 ∙ sym (rows-length (λ x y. false)))
    (λ i h. get_or-replicate {A = ℕ} 1024 i 0 0 (omega (arith, length-replicate {A = ℕ} 1024 0)) ∙ sym (rows_at (λ x y. false) i (omega (arith, length-replicate {A = ℕ} 1024 0)) ∙ bits_none _ 64 (λ k l. refl)))

rows_same : (t u : ℕ → ℕ → Bool) → ((a b : ℕ) → t a b ≡ u a b) → rows_by t ≡ rows_by u
rows_same t u h =
    ext_get_or 0 (rows_by t) (rows_by u) (rows-length t ∙ sym (rows-length u))
    (λ i l.
    let within : i < 1024 = omega (arith, l, rows-length t) in
    rows_at t i within ∙ bits-same _ _ 64 (λ k m. h (i / 4) (i % 4 * 64 + k)) ∙ sym (rows_at u i within))

-- ---- one pair noted

pub is_pair : ℕ → ℕ → ℕ × ℕ → Bool
is_pair x y p = eqb p.0 x && eqb p.1 y

other_pair : (x y a b : ℕ) → ((x ≡ a) → (y ≡ b) → ⊥) → is_pair a b (x, y) ≡ false
unfolding is_pair
other_pair x y a b h = go (eqb x a) (eqb y b) refl refl
  where
    go : (p q : Bool) → eqb x a ≡ p → eqb y b ≡ q → (p && q) ≡ false
    go true true e f = absurd (h (eqb-true x a e) (eqb-true y b f))
    go true false e f = refl
    go false q e f = refl

module _ (t u : ℕ → ℕ → Bool) (x y : ℕ) (hx : x < 256) (hy : y < 256) (more : (a b : ℕ) → u a b ≡ (t a b || is_pair a b (x, y))) where
  at : ℕ
  at = x * 4 + y / 64

  unchanged : (a b : ℕ) → ((x ≡ a) → (y ≡ b) → ⊥) → t a b ≡ u a b
  unchanged a b h = sym (more a b ∙ ap (λ (q : Bool). t a b || q) (other_pair x y a b h) ∙ or-false (t a b))

  changed : (a b : ℕ) → x ≡ a → y ≡ b → u a b ≡ true
  unfolding is_pair
  changed a b e f = more a b ∙ rw (eq-eqb x a e, eq-eqb y b f) (or-true (t a b))
    where
      or-true : (b : Bool) → (b || true) ≡ true
      or-true true = refl
      or-true false = refl

  word_here : bit_or (get_or (rows_by t) at 0) (2 ^ (y % 64)) ≡ get_or (rows_by u) at 0
  unfolding at
  word_here =
      rw (rows_at t at (omega arith), rows_at u at (omega arith))
      (bits-set _ _ (y % 64) 64 (omega arith) (changed (at / 4) (at % 4 * 64 + y % 64) (omega arith) (omega arith))
      (λ k l n. unchanged (at / 4) (at % 4 * 64 + k) (λ p q. n (omega arith))))

  word_there : (i : ℕ) → i < 1024 → (i ≡ at → ⊥) → get_or (rows_by t) i 0 ≡ get_or (rows_by u) i 0
  unfolding at
  word_there i h n =
      rw (rows_at t i h, rows_at u i h)
      (bits-same _ _ 64 (λ k l. unchanged (i / 4) (i % 4 * 64 + k) (λ p q. n (omega arith))))

  pub note-rows : note (x, y) (rows_by t) ≡ rows_by u
  unfolding note at
  note-rows =
      ext_get_or 0 (note (x, y) (rows_by t)) (rows_by u) (length-set (rows_by t) at (bit_or (get_or (rows_by t) at 0) (2 ^ (y % 64))) ∙ rows-length t ∙ sym (rows-length u))
      (λ i h. word i (omega (arith, h, length-set (rows_by t) at (bit_or (get_or (rows_by t) at 0) (2 ^ (y % 64))), rows-length t)))
    where
      word : (i : ℕ) → i < 1024 → get_or (set (rows_by t) at (bit_or (get_or (rows_by t) at 0) (2 ^ (y % 64)))) i 0 ≡ get_or (rows_by u) i 0
      word i h =
          ⊎_elim
          (λ e. rw (eqb-true i at e) (get_or-set_same (rows_by t) at _ 0 (omega (arith, rows-length t)) ∙ word_here))
          (λ e. get_or-set_other (rows_by t) at i _ 0 (eqb-false i at e) ∙ word_there i h (eqb-false i at e))
          (either (eqb i at))

-- ---- many pairs

-- Both bytes of each pair are bytes.
pub data Bytes : List (ℕ × ℕ) → Type 0 where
  none : Bytes []
  more : {p : ℕ × ℕ} {ps : List (ℕ × ℕ)} → p.0 < 256 → p.1 < 256 → Bytes ps → Bytes (p ∷ ps)

note_all-rows : (ps : List (ℕ × ℕ)) → Bytes ps → (t u : ℕ → ℕ → Bool) → ((a b : ℕ) → u a b ≡ (t a b || any (is_pair a b) ps)) → note_all ps (rows_by t) ≡ rows_by u
unfolding note_all
note_all-rows [] none t u h = rows_same t u (λ a b. sym (h a b ∙ or-false (t a b)))
note_all-rows (p ∷ ps) (more hx hy small) t u h =
    ap (note_all ps) (note-rows t (λ a b. t a b || is_pair a b p) p.0 p.1 hx hy (λ a b. refl))
    ∙ note_all-rows ps small (λ a b. t a b || is_pair a b p) u (λ a b. h a b ∙ sym (or_assoc (t a b) (is_pair a b p) (any (is_pair a b) ps)))

pub note_all-append : (ps qs : List (ℕ × ℕ)) (rows : List ℕ) → note_all (ps ++ qs) rows ≡ note_all qs (note_all ps rows)
unfolding note_all
note_all-append [] qs rows = refl
note_all-append (p ∷ ps) qs rows = note_all-append ps qs (note p rows)

-- ---- the pairs of all pieces

any-joined : {A : Type 0} (test : A → Bool) (f : List ℕ → List A) (xs : List (List ℕ)) → any (λ (x : List ℕ). any test (f x)) xs ≡ any test (join_map f xs)
any-joined test f [] = refl
any-joined test f (x ∷ xs) = ap (λ (b : Bool). any test (f x) || b) (any-joined test f xs) ∙ sym (any_append test (f x) (join_map f xs))

-- Each element of a list of bytes is a byte, and what stands for a missing one too.
abbrev pub Small : List ℕ → Type 0
Small l = (i : ℕ) → get_or l i 0 < 256

small_slice : (f t : ℕ) (l : List ℕ) → Small l → Small (slice f t l)
small_slice f t l h i = rw (get_or-drop f (take t l) i 0) (in_front t l h (f + i))
  where
    in_front : (t : ℕ) (l : List ℕ) → ((i : ℕ) → get_or l i 0 < 256) → (i : ℕ) → get_or (take t l) i 0 < 256
    in_front zero l h i = omega arith
    in_front (suc t) [] h i = omega arith
    in_front (suc t) (x ∷ l) h zero = h zero
    in_front (suc t) (x ∷ l) h (suc i) = in_front t l (λ j. h (suc j)) i

bytes_from : (x : ℕ) (l : List ℕ) → x < 256 → Small l → Bytes (neighbours_from x l)
bytes_from x [] hx h = none
bytes_from x (y ∷ l) hx h = more hx (h zero) (bytes_from y l (h zero) (λ i. h (suc i)))

bytes-neighbours : (l : List ℕ) → Small l → Bytes (neighbours l)
bytes-neighbours [] h = none
bytes-neighbours (x ∷ l) h = bytes_from x l (h zero) (λ i. h (suc i))

bytes-append : {ps qs : List (ℕ × ℕ)} → Bytes ps → Bytes qs → Bytes (ps ++ qs)
bytes-append none b = b
bytes-append (more hx hy a) b = more hx hy (bytes-append a b)

bytes-parts : (l : List ℕ) → Small l → (places : List (ℕ × ℕ)) → Bytes (join_map neighbours (map (λ (p : ℕ × ℕ). slice p.0 p.1 l) places))
bytes-parts l h [] = none
bytes-parts l h (p ∷ ps) = bytes-append (bytes-neighbours (slice p.0 p.1 l) (small_slice p.0 p.1 l h)) (bytes-parts l h ps)

module _ (bytes offsets : List ℕ) where
  -- Noting the pairs of all pieces in cleared rows gives the rows of the pieces.
  pub noted-rows : Small bytes → note_all (join_map neighbours (strings bytes offsets)) no_rows ≡ adjacency (strings bytes offsets)
  unfolding adjacency adjacency_word rows_by holds_pair is_pair strings
  noted-rows h =
      ap (note_all (join_map neighbours (strings bytes offsets))) rows_none
      ∙ note_all-rows _ (bytes-parts bytes h (neighbours offsets)) (λ x y. false) (holds_pair (strings bytes offsets))
      (λ a b. any-joined (is_pair a b) neighbours (strings bytes offsets))

-- ---- what the rows say

pub pair_noted_lem : (pieces : List (List ℕ)) (x y : ℕ) → x < 256 → y < 256 → pair_noted (adjacency pieces) x y ≡ holds_pair pieces x y
unfolding pair_noted adjacency adjacency_word
pair_noted_lem pieces x y hx hy =
    let at = x * 4 + y / 64 in
    let row : at / 4 ≡ x = omega arith in
    let bit : at % 4 * 64 + y % 64 ≡ y = omega arith in
    ap (λ (w : ℕ). eqb (w / 2 ^ (y % 64) % 2) 1) (mapped_at (adjacency_word pieces) 1024 at (omega arith))
    ∙ ap (λ (d : ℕ). eqb d 1) (bit_at (λ (b : ℕ). holds_pair pieces (at / 4) (at % 4 * 64 + b)) 64 (y % 64) (omega arith))
    ∙ digit_says (holds_pair pieces (at / 4) (at % 4 * 64 + y % 64))
    ∙ ap₂ (holds_pair pieces) row bit

-- ---- for the loops

pub no_bit : (k : ℕ) → eqb (0 / 2 ^ k % 2) 1 ≡ false
no_bit k = ap (λ (n : ℕ). eqb (n % 2) 1) (zero-div (2 ^ k))

pub one_bit : (k : ℕ) → k < 64 → (1 * 2 ^ k) % 18446744073709551616 ≡ 2 ^ k
one_bit k h = shl_exact 1 k 64 (omega arith) (omega arith) ∙ omega arith

module _ (bytes rows : List ℕ) (i : ℕ) where
  pub noted-next : (next : ℕ) → next ≡ i + 1 → next < length bytes
      → note_all (drop i (neighbours bytes)) rows ≡ note_all (drop next (neighbours bytes)) (note (get_or bytes i 0, get_or bytes next 0) rows)
  unfolding note_all
  noted-next next e h = rw e (here (omega arith))
    where
      here : i + 1 < length bytes → note_all (drop i (neighbours bytes)) rows ≡ note_all (drop (i + 1) (neighbours bytes)) (note (get_or bytes i 0, get_or bytes (i + 1) 0) rows)
      here h =
          ap (λ (ps : List (ℕ × ℕ)). note_all ps rows) (drop-cons (neighbours bytes) i (0, 0) (omega (arith, length-neighbours bytes)) ∙ ap₂ {C = List (ℕ × ℕ)} ◌∷◌ (get_or_neighbours bytes i 0 0 h) (ap (λ (k : ℕ). drop k (neighbours bytes)) (sym (add-one i))))

  pub noted-ended : length bytes ≤ i + 1 → note_all (drop i (neighbours bytes)) rows ≡ rows
  unfolding note_all
  noted-ended h = rw (drop_of_length-le (neighbours bytes) {i = i} (omega (arith, length-neighbours bytes)))

module _ (pieces : List (List ℕ)) (rows : List ℕ) (i : ℕ) where
  pub walked_next : i < length pieces → note_all (join_map neighbours (drop i pieces)) rows ≡ note_all (join_map neighbours (drop (i + 1) pieces)) (note_all (neighbours (get_or pieces i [])) rows)
  walked_next h =
      ap (λ (ps : List (List ℕ)). note_all (join_map neighbours ps) rows) (drop-cons pieces i [] h ∙ ap (λ (k : ℕ). get_or pieces i [] ∷ drop k pieces) (sym (add-one i)))
      ∙ note_all-append (neighbours (get_or pieces i [])) (join_map neighbours (drop (i + 1) pieces)) rows

  pub walked_ended : length pieces ≤ i → note_all (join_map neighbours (drop i pieces)) rows ≡ rows
  unfolding note_all
  walked_ended h = rw (drop_of_length-le pieces h)
