-- Laws of bytes in one number. Assumes nothing.
use Prim.Native.Nat.{ℕ, zero, suc, ◌+◌, ◌*◌, ◌%◌, ◌/◌, ◌^◌, ◌≤◌, ◌<◌}
use native.Mathlib.Nat.{pow-suc, mul_assoc, mod-one, mod-lt, mod-eq_of_lt, div-add-mod', add-mul-mod_self_right, div-div-eq-div-mul, div-one}
use native.Mathlib.Omega.{arith}
use mathlib.Core.Path.{◌≡◌, refl, sym, ap, ap₂, ◌∙◌}
use mathlib.Core.Bool.{Bool, true, false, ◌&&◌}
use mathlib.Core.Logic.{⊎_elim}
use mathlib.Core.List.{List, [], ◌∷◌}
use borrow.Author.Tests.{ltb-true, lt-ltb, eqb-true, eqb-false, eq-eqb}
use lib.Dec.{eqb}
use lib.ListN.{length, take, get_or}
use Rattle.std.specs.Bool.{MatchBool}
use Rattle.std.specs.Int.{w64, bytes_low_first, byte_at, from_le_bytes, to_le_bytes}
use Rattle.std.specs.Str.{IsAscii, IsNotAscii}
use Rattle.std.proofs.lemmas.Nat.{le_bytes_8}
use Rattle.utf8.specs.Lists.{all, starts_with}
use Rattle.utf8.proofs.Tests.{either, and_left, and_right}
use Rattle.model.specs.Mark.{mark}
use Rattle.decode.specs.inner.Words.{is_plain}

-- The n lowest bytes of a number, the lowest first.
unfoldable pub bytes_in : ℕ → ℕ → List ℕ
bytes_in zero word = []
bytes_in (suc n) word = word % 256 ∷ bytes_in n (word / 256)

bytes_take : (n m word : ℕ) → n ≤ m → bytes_in n word ≡ take n (bytes_in m word)
unfolding bytes_in
bytes_take zero m word h = refl
bytes_take (suc n) zero word h = absurd (omega arith)
bytes_take (suc n) (suc m) word h = ap (λ (l : List ℕ). word % 256 ∷ l) (bytes_take n m (word / 256) (omega arith))

-- the library's word for them
low_first : (k i word : ℕ) → bytes_in k (word / 256 ^ i) ≡ bytes_low_first i k word
unfolding bytes_in
low_first zero i word = refl
low_first (suc k) i word =
    let later : word / 256 ^ i / 256 ≡ word / 256 ^ suc i = div-div-eq-div-mul word (256 ^ i) 256 ∙ ap (λ (n : ℕ). word / n) (sym (pow-suc 256 i)) in
    ap₂ (λ (b : ℕ) (l : List ℕ). b ∷ l) (here i) (ap (bytes_in k) later ∙ low_first k (suc i) word)
  where
    here : (i : ℕ) → word / 256 ^ i % 256 ≡ byte_at i word
    here zero = ap (λ (n : ℕ). n % 256) (div-one word)
    here (suc i) = refl

bytes_same : (word : ℕ) → bytes_in 8 word ≡ to_le_bytes w64 word
bytes_same word = ap (bytes_in 8) (sym (div-one word)) ∙ low_first 8 0 word

-- ---- plain bytes

plain-zero : (m : ℕ) → all is_plain (bytes_in m 0) ≡ true
unfolding bytes_in
plain-zero zero = refl
plain-zero (suc m) = plain-zero m

module _ (word p : ℕ) (pos : 0 < p) where
  masked_low : word % (p * 256) % 256 ≡ word % 256
  masked_low =
      let q = word / (p * 256) in
      let e : q * (p * 256) ≡ q * p * 256 = sym (mul_assoc q p 256) in
      omega (arith, div-add-mod' word (p * 256))

  masked_high : word % (p * 256) / 256 ≡ word / 256 % p
  masked_high =
      let q = word / (p * 256) in
      let e : q * (p * 256) ≡ q * p * 256 = sym (mul_assoc q p 256) in
      let m = word % (p * 256) in
      let less : m < p * 256 = mod-lt word (omega arith) in
      let parts : word / 256 ≡ m / 256 + q * p = omega (arith, div-add-mod' word (p * 256)) in
      sym (ap (λ (x : ℕ). x % p) parts ∙ add-mul-mod_self_right (m / 256) q p ∙ mod-eq_of_lt {n = m / 256} {m = p} (omega arith))

pub power_positive : (n : ℕ) → 0 < 256 ^ n
power_positive zero = omega arith
power_positive (suc n) = omega (arith, pow-suc 256 n, power_positive n)

-- What lies above the n lowest bytes taken away.
pub masked : (m n word : ℕ) → n ≤ m → all is_plain (bytes_in m (word % 256 ^ n)) ≡ all is_plain (bytes_in n word)
unfolding bytes_in
masked m zero word h = ap (λ (w : ℕ). all is_plain (bytes_in m w)) (mod-one word) ∙ plain-zero m
masked zero (suc n) word h = absurd (omega arith)
masked (suc m) (suc n) word h =
    let p = power_positive n in
    rw (pow-suc 256 n, masked_low word (256 ^ n) p, masked_high word (256 ^ n) p)
    (ap (λ (d : Bool). is_plain (word % 256) && d) (masked m n (word / 256) (omega arith)))

pub power-is : (n : ℕ) → n < 8 → 1 * 2 ^ (n * 8) % 18446744073709551616 ≡ 256 ^ n
power-is zero h = refl
power-is (suc zero) h = refl
power-is (suc (suc zero)) h = refl
power-is (suc (suc (suc zero))) h = refl
power-is (suc (suc (suc (suc zero)))) h = refl
power-is (suc (suc (suc (suc (suc zero))))) h = refl
power-is (suc (suc (suc (suc (suc (suc zero)))))) h = refl
power-is (suc (suc (suc (suc (suc (suc (suc zero))))))) h = refl
power-is (suc (suc (suc (suc (suc (suc (suc (suc n)))))))) h = absurd (omega arith)

-- ---- the test on the number

ascii_each : (bytes : List ℕ) → all is_plain bytes ≡ true → IsAscii bytes
ascii_each [] e i = omega arith
ascii_each (b ∷ bytes) e zero = ltb-true b 0x80 (and_left (is_plain b) (all is_plain bytes) e)
ascii_each (b ∷ bytes) e (suc i) = ascii_each bytes (and_right (is_plain b) (all is_plain bytes) e) i

each_ascii : (bytes : List ℕ) → IsAscii bytes → all is_plain bytes ≡ true
each_ascii [] h = refl
each_ascii (b ∷ bytes) h = rw (lt-ltb b 0x80 (h 0)) (each_ascii bytes (λ i. h (suc i)))

ascii_test : (bytes : List ℕ) (r : Bool) → MatchBool r (IsAscii bytes) (IsNotAscii bytes) → r ≡ all is_plain bytes
ascii_test bytes true h = sym (each_ascii bytes h)
ascii_test bytes false (i, h) = sym (⊎_elim (λ e. let low = ascii_each bytes e i in absurd (omega arith)) (λ e. e) (either (all is_plain bytes)))

-- What lies above the n lowest bytes of eight is taken away before all are tested.
pub plain_front : (eight : List ℕ) (n word front : ℕ) (r : Bool) → length eight ≡ 8 → ((i : ℕ) → get_or eight i 0 < 256) → n < 8
    → word ≡ from_le_bytes w64 eight → front ≡ word % 256 ^ n → MatchBool r (IsAscii (to_le_bytes w64 front)) (IsNotAscii (to_le_bytes w64 front))
    → r ≡ all is_plain (take n eight)
plain_front eight n word front r long fits few is e test =
    ascii_test (to_le_bytes w64 front) r test
    ∙ ap (all is_plain) (sym (bytes_same front))
    ∙ ap (λ (w : ℕ). all is_plain (bytes_in 8 w)) e
    ∙ masked 8 n word (omega arith)
    ∙ ap (all is_plain) (bytes_take n 8 word (omega arith) ∙ ap (take n) (bytes_same word ∙ le_bytes_8 eight word long fits is))

-- ---- the mark

mark_in : (word : ℕ) → eqb (word % 16777216) 8492770 ≡ starts_with mark (bytes_in 3 word)
unfolding bytes_in mark
mark_in word = ⊎_elim hit miss (either (eqb (word % 16777216) 8492770))
  where
    hit : eqb (word % 16777216) 8492770 ≡ true → eqb (word % 16777216) 8492770 ≡ (eqb 0xE2 (word % 256) && (eqb 0x96 (word / 256 % 256) && (eqb 0x81 (word / 256 / 256 % 256) && true)))
    hit e =
        let q = eqb-true (word % 16777216) 8492770 e in
        rw (e, eq-eqb 0xE2 (word % 256) (omega arith), eq-eqb 0x96 (word / 256 % 256) (omega arith), eq-eqb 0x81 (word / 256 / 256 % 256) (omega arith))

    miss : eqb (word % 16777216) 8492770 ≡ false → eqb (word % 16777216) 8492770 ≡ (eqb 0xE2 (word % 256) && (eqb 0x96 (word / 256 % 256) && (eqb 0x81 (word / 256 / 256 % 256) && true)))
    miss e = e ∙ sym (⊎_elim apart (λ f. f) (either (eqb 0xE2 (word % 256) && (eqb 0x96 (word / 256 % 256) && (eqb 0x81 (word / 256 / 256 % 256) && true)))))
      where
        apart : (eqb 0xE2 (word % 256) && (eqb 0x96 (word / 256 % 256) && (eqb 0x81 (word / 256 / 256 % 256) && true))) ≡ true
            → (eqb 0xE2 (word % 256) && (eqb 0x96 (word / 256 % 256) && (eqb 0x81 (word / 256 / 256 % 256) && true))) ≡ false
        apart f =
            let tail = and_right (eqb 0xE2 (word % 256)) _ f in
            let a = eqb-true 0xE2 (word % 256) (and_left (eqb 0xE2 (word % 256)) _ f) in
            let b = eqb-true 0x96 (word / 256 % 256) (and_left (eqb 0x96 (word / 256 % 256)) _ tail) in
            let c = eqb-true 0x81 (word / 256 / 256 % 256) (and_left (eqb 0x81 (word / 256 / 256 % 256)) _ (and_right (eqb 0x96 (word / 256 % 256)) _ tail)) in
            absurd (eqb-false (word % 16777216) 8492770 e (omega arith))

-- Three bytes are looked at.
starts_three : (xs : List ℕ) → starts_with mark (take 3 xs) ≡ starts_with mark xs
unfolding mark
starts_three [] = refl
starts_three (a ∷ []) = refl
starts_three (a ∷ b ∷ []) = refl
starts_three (a ∷ b ∷ c ∷ xs) = refl

pub mark_word : (eight : List ℕ) (word : ℕ) → length eight ≡ 8 → ((i : ℕ) → get_or eight i 0 < 256) → word ≡ from_le_bytes w64 eight → eqb (word % 16777216) 8492770 ≡ starts_with mark eight
mark_word eight word long fits is =
    mark_in word ∙ ap (starts_with mark) (bytes_take 3 8 word (omega arith) ∙ ap (take 3) (bytes_same word ∙ le_bytes_8 eight word long fits is)) ∙ starts_three eight
