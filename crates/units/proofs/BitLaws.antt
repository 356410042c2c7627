-- Laws of numbers made of bits. Assumes nothing.
use Prim.Native.Nat.{ℕ, zero, suc, ◌+◌, ◌-◌, ◌*◌, ◌/◌, ◌%◌, ◌^◌, ◌<◌, ◌≤◌}
use native.Mathlib.Nat.{not-suc-le-zero, pow-suc}
use native.Mathlib.Omega.{arith}
use mathlib.Core.Path.{◌≡◌, refl, sym, ap, ap₂, ◌∙◌}
use mathlib.Core.Bool.{Bool, true, false, cond}
use mathlib.Core.Logic.{◌⊎◌, inl, inr, ⊎_elim}
use lib.Dec.{eqb}
use lib.Bits.{bit_or, or_block, or_zero_r}
use lib.Pow.{pow_pos, pow-lt, high, low, field, mod-mod-pow}
use Rattle.units.specs.Adjacency.{bits}

-- below the successor of n lie n and what is below it
last-or-below : (k n : ℕ) → k < suc n → (k ≡ n) ⊎ (k < n)
last-or-below zero zero h = inl refl
last-or-below zero (suc n) h = inr (omega arith)
last-or-below (suc k) zero h = absurd (omega arith)
last-or-below (suc k) (suc n) h = ⊎_elim (λ e. inl (ap suc e)) (λ l. inr (omega arith)) (last-or-below k n (omega arith))

pub digit : Bool → ℕ
digit b = cond b 1 0

pub digit_says : (b : Bool) → eqb (digit b) 1 ≡ b
unfolding digit
digit_says true = refl
digit_says false = refl

within_two : (d n r : ℕ) → d ≤ 1 → r < 2 ^ n → d * 2 ^ n + r < 2 ^ suc n
within_two zero n r h k = omega (arith, pow-suc 2 n)
within_two (suc zero) n r h k = omega (arith, pow-suc 2 n)
within_two (suc (suc d)) n r h k = absurd (omega arith)

digit_most : (b : Bool) → digit b ≤ 1
unfolding digit
digit_most true = omega arith
digit_most false = omega arith

pub bits_below : (test : ℕ → Bool) (n : ℕ) → bits test n < 2 ^ n
unfolding bits digit
bits_below test zero = omega arith
bits_below test (suc n) = within_two (digit (test n)) n (bits test n) (digit_most (test n)) (bits_below test n)

-- two tests that agree
pub bits-same : (t u : ℕ → Bool) (n : ℕ) → ((k : ℕ) → k < n → t k ≡ u k) → bits t n ≡ bits u n
unfolding bits
bits-same t u zero h = refl
bits-same t u (suc n) h = ap₂ (λ (b : Bool) (r : ℕ). cond b 1 0 * 2 ^ n + r) (h n (omega arith)) (bits-same t u n (λ k l. h k (omega arith)))

pub bits_none : (t : ℕ → Bool) (n : ℕ) → ((k : ℕ) → k < n → t k ≡ false) → bits t n ≡ 0
unfolding bits
bits_none t zero h = refl
bits_none t (suc n) h = rw (h n (omega arith), bits_none t n (λ k l. h k (omega arith))) (omega arith)

digit_odd : (b : Bool) → digit b % 2 ≡ digit b
unfolding digit
digit_odd true = refl
digit_odd false = refl

-- a bit below the highest is one of the rest
bit_of_rest : (d n k r : ℕ) → r < 2 ^ n → k < n → (d * 2 ^ n + r) / 2 ^ k % 2 ≡ r / 2 ^ k % 2
bit_of_rest d n k r h l =
    let whole = d * 2 ^ n + r in
    let high_part = n - (1 + k) in
    let width : high_part + (1 + k) ≡ n = omega arith in
    let rest : whole % 2 ^ (1 + k) ≡ r % 2 ^ (1 + k) =
    sym (mod-mod-pow whole high_part (1 + k)) ∙ ap (λ (m : ℕ). whole % 2 ^ m % 2 ^ (1 + k)) width ∙ ap (λ (m : ℕ). m % 2 ^ (1 + k)) (low d n h) in
    sym (field whole 1 k) ∙ ap (λ (m : ℕ). m / 2 ^ k) rest ∙ field r 1 k

-- each bit says what the test says
pub bit_at : (test : ℕ → Bool) (n k : ℕ) → k < n → bits test n / 2 ^ k % 2 ≡ digit (test k)
unfolding bits digit
bit_at test zero k h = absurd (not-suc-le-zero h)
bit_at test (suc n) k h =
    ⊎_elim
    (λ e. rw e (ap (λ (m : ℕ). m % 2) (high (digit (test n)) n (bits_below test n)) ∙ digit_odd (test n)))
    (λ l. bit_of_rest (digit (test n)) n k (bits test n) (bits_below test n) l ∙ bit_at test n k l)
    (last-or-below k n h)

or-one : (b : Bool) → bit_or (digit b) 1 ≡ 1
unfolding digit
or-one true = refl
or-one false = refl

-- setting the bit j of a number of bits
pub bits-set : (t u : ℕ → Bool) (j n : ℕ) → j < n → u j ≡ true → ((k : ℕ) → k < n → (k ≡ j → ⊥) → t k ≡ u k) → bit_or (bits t n) (2 ^ j) ≡ bits u n
unfolding bits digit
bits-set t u j zero h e f = absurd (not-suc-le-zero h)
bits-set t u j (suc n) h e f =
    ⊎_elim
    (λ q.
    let same : bits t n ≡ bits u n = bits-same t u n (λ k l. f k (omega arith) (λ z. omega arith)) in
    let one : 2 ^ j ≡ 1 * 2 ^ n + 0 = ap (λ (m : ℕ). 2 ^ m) q ∙ omega arith in
    ap (bit_or (digit (t n) * 2 ^ n + bits t n)) one
    ∙ or_block n (digit (t n)) 1 (bits t n) 0 (bits_below t n) (pow_pos n)
    ∙ ap₂ (λ (a b : ℕ). a * 2 ^ n + b) (or-one (t n) ∙ ap digit (sym (ap u (sym q) ∙ e))) (or_zero_r (bits t n) ∙ same))
    (λ l.
    let none : 2 ^ j ≡ 0 * 2 ^ n + 2 ^ j = omega arith in
    ap (bit_or (digit (t n) * 2 ^ n + bits t n)) none
    ∙ or_block n (digit (t n)) 0 (bits t n) (2 ^ j) (bits_below t n) (pow-lt l)
    ∙ ap₂ (λ (a b : ℕ). a * 2 ^ n + b)
    (or_zero_r (digit (t n)) ∙ ap digit (f n (omega arith) (λ z. omega arith)))
    (bits-set t u j n l e (λ k m. f k (omega arith))))
    (last-or-below j n h)
