-- Laws of short pieces whose eight bytes show them. Assumes nothing.
use Prim.Native.Nat.{ℕ, zero, suc, ◌+◌, ◌-◌, ◌≤◌, ◌<◌}
use native.Mathlib.Nat.{add-zero}
use native.Mathlib.Omega.{arith}
use mathlib.Core.Path.{◌≡◌, refl, sym, ap, ap₂, ◌∙◌}
use mathlib.Core.Bool.{Bool, true, false, cond, ◌&&◌, and-false, ◌||◌}
use mathlib.Core.Logic.{◌⊎◌, inl, inr, ⊎_elim}
use mathlib.Core.List.{List, [], ◌∷◌}
use borrow.Author.Tests.{leb-true, le-leb, lt-leb, ltb-true, lt-ltb, le-ltb, eqb-true}
use lib.Dec.{leb, ltb, eqb}
use lib.ListN.{length, take, drop, set, length-take, length-drop}
use lib.Seq.{take-take, drop-drop, length-take-le}
use Rattle.std.specs.Prelude.{Some, None}
use Rattle.std.specs.Bool.{then_some}
use Rattle.utf8.specs.Lists.{all, starts_with}
use Rattle.utf8.proofs.Tests.{either, clash, and_left, and_right}
use Rattle.utf8.proofs.Starts.{starts_length}
use Rattle.model.specs.Mark.{mark}
use Rattle.decode.specs.inner.Words.{is_plain, head_spaced, eight_at, quick_at, shown_at, all_or_none}
use Rattle.decode.specs.declared.words.Shown.{Shown}

-- ---- the mark in front

pub mark_few : (xs : List ℕ) (len : ℕ) → len < 3 → starts_with mark (take len xs) ≡ false
unfolding mark
mark_few xs len h =
    ⊎_elim
    (λ e. absurd (omega (arith, starts_length mark (take len xs) e, length-take len xs)))
    (λ e. e)
    (either (starts_with mark (take len xs)))

pub mark_three : (xs : List ℕ) (len : ℕ) → 3 ≤ length xs → 3 ≤ len → starts_with mark (take 3 xs) ≡ starts_with mark (take len xs)
unfolding mark
mark_three (a ∷ b ∷ c ∷ xs) (suc (suc (suc len))) h k = refl
mark_three [] len h k = absurd (omega arith)
mark_three (a ∷ []) len h k = absurd (omega arith)
mark_three (a ∷ b ∷ []) len h k = absurd (omega arith)
mark_three (a ∷ b ∷ c ∷ xs) zero h k = absurd (omega arith)
mark_three (a ∷ b ∷ c ∷ xs) (suc zero) h k = absurd (omega arith)
mark_three (a ∷ b ∷ c ∷ xs) (suc (suc zero)) h k = absurd (omega arith)

-- Where three bytes are looked at, it does not matter how many more are.
pub mark_both : (xs : List ℕ) (n len : ℕ) → 3 ≤ length xs → 3 ≤ n → 3 ≤ len → starts_with mark (take n xs) ≡ starts_with mark (take len xs)
mark_both xs n len h k l = sym (mark_three xs n h k) ∙ mark_three xs len h l

-- What a mark in front is followed by.
mark_third : (xs : List ℕ) → starts_with mark (take 3 xs) ≡ true → drop 2 xs ≡ 0x81 ∷ drop 3 xs
unfolding mark
mark_third [] e = clash refl e
mark_third (a ∷ []) e = clash refl (and_right (eqb 0xE2 a) false e)
mark_third (a ∷ b ∷ []) e = clash refl (and_right (eqb 0x96 b) false (and_right (eqb 0xE2 a) (eqb 0x96 b && false) e))
mark_third (a ∷ b ∷ c ∷ xs) e =
    let tail = and_right (eqb 0x96 b) (eqb 0x81 c && true) (and_right (eqb 0xE2 a) (eqb 0x96 b && (eqb 0x81 c && true)) e) in
    ap (λ (x : ℕ). x ∷ xs) (sym (eqb-true 0x81 c (and_left (eqb 0x81 c) true tail)))

record Marked (xs : List ℕ) (len : ℕ) : Type 0 where
  long : 3 ≤ len
  last : drop 2 xs ≡ 0x81 ∷ drop 3 xs

marked : (xs : List ℕ) (len : ℕ) → starts_with mark (take len xs) ≡ true → Marked xs len
unfolding mark
marked xs len e =
    let h = starts_length mark (take len xs) e in
    let t = length-take len xs in
    record { long = omega arith; last = mark_third xs (mark_three xs len (omega arith) (omega arith) ∙ e) }

-- ---- eight bytes of a table

module _ (bytes : List ℕ) (start len : ℕ) (far : start + 16 ≤ length bytes) where
  abbrev piece : List ℕ
  piece = take len (drop start bytes)

  table-left : 16 ≤ length (drop start bytes)
  table-left = omega (arith, length-drop start bytes)

  behind : (k : ℕ) → drop (start + k) bytes ≡ drop k (drop start bytes)
  behind k = sym (drop-drop k start bytes)

  -- The eight bytes of the table, where a space is put in place of a mark's last byte.
  pub spaced_eight : (m : Bool) (eight : List ℕ) → m ≡ starts_with mark piece → eight ≡ take 8 (drop (start + cond m 2 0) bytes) → cond m (set eight 0 0x20) eight ≡ eight_at bytes start len
  unfolding eight_at
  spaced_eight true eight q r =
      let all : eight ≡ 0x81 ∷ take 7 (drop 3 (drop start bytes)) = r ∙ ap (take 8) (behind 2 ∙ (marked (drop start bytes) len (sym q)).last) in
      rw (all, ← q, behind 3)
  spaced_eight false eight q r = r ∙ ap (λ (k : ℕ). take 8 (drop k bytes)) (add-zero start) ∙ rw (← q)

  module _ (short : len < 10) where
    piece-length : length piece ≡ len
    piece-length = length-take-le len (drop start bytes) (omega (arith, table-left))

    pub spaced-length : (m : Bool) → m ≡ starts_with mark piece → (cond m 2 0 ≤ len) × (len - cond m 2 0 ≡ length (head_spaced piece))
    unfolding head_spaced
    spaced-length true q =
        let long = (marked (drop start bytes) len (sym q)).long in
        (omega arith, rw (← q) (omega (arith, length-drop 3 piece, piece-length)))
    spaced-length false q = (omega arith, rw (← q) (omega (arith, piece-length)))

    rest_of : (xs : List ℕ) (k : ℕ) → 3 ≤ length xs → drop 3 (take (suc (suc (suc k))) xs) ≡ take k (drop 3 xs)
    rest_of (a ∷ b ∷ c ∷ xs) k h = refl
    rest_of [] k h = absurd (omega arith)
    rest_of (a ∷ []) k h = absurd (omega arith)
    rest_of (a ∷ b ∷ []) k h = absurd (omega arith)

    -- They begin with what the piece is shown as.
    pub eight_front : length (head_spaced piece) < 8 → take (length (head_spaced piece)) (eight_at bytes start len) ≡ head_spaced piece
    unfolding head_spaced eight_at
    eight_front small = go (starts_with mark piece) refl small
      where
        go : (m : Bool) → starts_with mark piece ≡ m → length (cond m (0x20 ∷ drop 3 piece) piece) < 8
            → take (length (cond m (0x20 ∷ drop 3 piece) piece)) (cond m (0x20 ∷ take 7 (drop (start + 3) bytes)) (take 8 (drop start bytes))) ≡ cond m (0x20 ∷ drop 3 piece) piece
        go true q small =
            let long = (marked (drop start bytes) len q).long in
            let k : len ≡ suc (suc (suc (len - 3))) = omega arith in
            let rest : drop 3 piece ≡ take (len - 3) (drop 3 (drop start bytes)) = ap (λ (n : ℕ). drop 3 (take n (drop start bytes))) k ∙ rest_of (drop start bytes) (len - 3) (omega (arith, table-left)) in
            let many : length (drop 3 piece) ≡ len - 3 = omega (arith, length-drop 3 piece, piece-length) in
            ap (λ (l : List ℕ). 0x20 ∷ l) (ap₂ (λ (n : ℕ) (l : List ℕ). take n (take 7 l)) many (behind 3) ∙ take-take (len - 3) 7 (drop 3 (drop start bytes)) (omega arith) ∙ sym rest)
        go false q small = ap (λ (n : ℕ). take n (take 8 (drop start bytes))) piece-length ∙ take-take len 8 (drop start bytes) (omega (arith, piece-length))

-- ---- whether they show the piece

module _ (bytes : List ℕ) (start len : ℕ) where
  pub quick_far : length bytes < start + 16 → quick_at bytes start len ≡ false
  unfolding quick_at
  quick_far h = rw (lt-leb (start + 16) (length bytes) h)

  pub quick_long : 9 < len → quick_at bytes start len ≡ false
  unfolding quick_at
  quick_long h = rw (le-ltb len 10 (omega arith)) (and-false (leb (start + 16) (length bytes)))

  pub quick_front : (far : start + 16 ≤ length bytes) (short : len < 10) (eight : List ℕ) (n : ℕ) → eight ≡ eight_at bytes start len → n ≡ length (head_spaced (take len (drop start bytes)))
      → (ltb n 8 && all is_plain (take n eight)) ≡ quick_at bytes start len
  unfolding quick_at
  quick_front far short eight n is long = rw (le-leb (start + 16) (length bytes) far, lt-ltb len 10 short, long, is) (go (ltb (length (head_spaced (take len (drop start bytes)))) 8) refl)
    where
      go : (d : Bool) → ltb (length (head_spaced (take len (drop start bytes)))) 8 ≡ d → (d && all is_plain (take (length (head_spaced (take len (drop start bytes)))) (eight_at bytes start len))) ≡ (d && all is_plain (head_spaced (take len (drop start bytes))))
      go true e = ap (all is_plain) (eight_front bytes start len far short (ltb-true (length (head_spaced (take len (drop start bytes)))) 8 e))
      go false e = refl

  pub none_shown : quick_at bytes start len ≡ false → None ≡ shown_at bytes start len
  unfolding shown_at
  none_shown e = rw e

  pub shown_by : (p : Bool) (eight : List ℕ) (n : ℕ) → p ≡ quick_at bytes start len → eight ≡ eight_at bytes start len → n ≡ length (head_spaced (take len (drop start bytes)))
      → then_some p (record { eight = eight; len = n }) ≡ shown_at bytes start len
  unfolding shown_at
  shown_by p eight n e f g = rw (e, f, g)

  -- What a piece is shown as that is one.
  pub some_shown : (s : Shown) → Some s ≡ shown_at bytes start len
      → (quick_at bytes start len ≡ true) × (s ≡ record { eight = eight_at bytes start len; len = length (head_spaced (take len (drop start bytes))) })
  unfolding shown_at
  some_shown s e = go (quick_at bytes start len) e
    where
      go : (d : Bool) → Some s ≡ then_some d (record { eight = eight_at bytes start len; len = length (head_spaced (take len (drop start bytes))) })
          → (d ≡ true) × (s ≡ record { eight = eight_at bytes start len; len = length (head_spaced (take len (drop start bytes))) })
      go true e = (refl, cc)
      go false e = absurd (cc)

-- What it says.
pub record Quick (bytes : List ℕ) (start len : ℕ) : Type 0 where
  pub far : start + 16 ≤ length bytes
  pub short : len < 10
  pub small : length (head_spaced (take len (drop start bytes))) < 8
  pub plain : all is_plain (head_spaced (take len (drop start bytes))) ≡ true

pub quick : (bytes : List ℕ) (start len : ℕ) → quick_at bytes start len ≡ true → Quick bytes start len
unfolding quick_at
quick bytes start len e =
    let text = head_spaced (take len (drop start bytes)) in
    let later = and_right (leb (start + 16) (length bytes)) _ e in
    let last = and_right (ltb len 10) _ later in
    record {
      far = leb-true (start + 16) (length bytes) (and_left (leb (start + 16) (length bytes)) _ e);
      short = ltb-true len 10 (and_left (ltb len 10) _ later);
      small = ltb-true (length text) 8 (and_left (ltb (length text) 8) _ last);
      plain = and_right (ltb (length text) 8) _ last;
    }

pub few_spared : (m : Bool) → cond m 2 0 ≤ 2
few_spared true = omega arith
few_spared false = omega arith

pub all-or-none : (at room : ℕ) → all_or_none at room ≡ true → (room ≤ at) ⊎ (at + 8 ≤ room)
unfolding all_or_none
all-or-none at room e = go (leb room at) refl e
  where
    go : (d : Bool) → leb room at ≡ d → (d || leb (at + 8) room) ≡ true → (room ≤ at) ⊎ (at + 8 ≤ room)
    go true q f = inl (leb-true room at q)
    go false q f = inr (leb-true (at + 8) room f)
