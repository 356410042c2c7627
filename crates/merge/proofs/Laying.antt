-- Ids laid part by part over the front of a buffer that may be too short for them, and the same as a count. Assumes nothing.
use Prim.Native.Nat.{ℕ, suc, ◌+◌, ◌-◌, ◌≤◌, ◌<◌, min}
use native.Mathlib.Nat.{add-zero, zero-min, min-zero, suc-min-suc}
use native.Mathlib.Omega.{arith}
use mathlib.Core.Path.{◌≡◌, refl, sym, ap, ◌∙◌}
use mathlib.Core.List.{List, [], ◌∷◌, ◌++◌, append_assoc}
use lib.ListN.{length, take, drop, set, length-append, length-drop, take-append-drop, drop_of_length-le}
use lib.Seq.{length-take-le, take-append-add, drop-append-add, set_split, drop-cons}
use Rattle.merge.specs.inner.Laid.{laid}

-- ---- a count up to a room

-- n of the ids are counted, and rest follows them.
pub record Counted (ids rest : List ℕ) (room n : ℕ) : Type 0 where
  pub within : n ≤ room
  pub counted : min (length ids) room ≡ n + min (length rest) (room - n)

pub counted_start : (ids : List ℕ) (room : ℕ) → Counted ids ids room 0
counted_start ids room = record { within = omega arith; counted = omega arith }

module _ {ids : List ℕ} {room n : ℕ} where
  pub counted-part : (part rest : List ℕ) {whole : List ℕ} → whole ≡ part ++ rest → Counted ids whole room n → Counted ids rest room (n + min (length part) (room - n))
  counted-part part rest is c =
      record { within = omega (arith, c.within); counted = omega (arith, c.counted, c.within, ap length is, length-append part rest) }

  pub counted-ended : {whole : List ℕ} → whole ≡ [] → Counted ids whole room n → n ≡ min (length ids) room
  counted-ended is c = omega (arith, c.counted, ap length is)

-- ---- ids in a buffer

pub length-laid : (ids out : List ℕ) → length (laid ids out) ≡ length out
length-laid [] out = refl
length-laid (id ∷ ids) [] = refl
length-laid (id ∷ ids) (cell ∷ out) = ap suc (length-laid ids out)

laid-nothing : (ids : List ℕ) → laid ids [] ≡ []
laid-nothing [] = refl
laid-nothing (id ∷ ids) = refl

-- Where there is room for all: the ids, and then what was there.
pub laid_fits : (ids out : List ℕ) → length ids ≤ length out → laid ids out ≡ ids ++ drop (length ids) out
laid_fits [] out h = refl
laid_fits (id ∷ ids) [] h = absurd (omega arith)
laid_fits (id ∷ ids) (cell ∷ out) h = ap {B = List ℕ} (λ l. id ∷ l) (laid_fits ids out (omega arith))

-- Two parts one after the other.
laid-append : (a b out : List ℕ) → laid (a ++ b) out ≡ take (min (length a) (length out)) (laid a out) ++ laid b (drop (min (length a) (length out)) (laid a out))
laid-append [] b out = rw (zero-min (length out))
laid-append (x ∷ a) b [] = rw (min-zero (suc (length a))) (sym (laid-nothing b))
laid-append (x ∷ a) b (y ∷ out) = rw (suc-min-suc (length a) (length out)) (ap {B = List ℕ} (λ l. x ∷ l) (laid-append a b out))

-- n of the ids stand in out, and rest is to follow them; behind them out is as it was before.
pub record Laying (ids rest before out : List ℕ) (n : ℕ) : Type 0 where
  pub long : length out ≡ length before
  pub count : Counted ids rest (length before) n
  pub front : laid ids before ≡ take n out ++ laid rest (drop n out)

pub laying_start : (ids before : List ℕ) → Laying ids ids before before 0
laying_start ids before = record { long = refl; count = counted_start ids (length before); front = refl }

module _ {ids before out : List ℕ} {n : ℕ} where
  -- One part more, as a call leaves it that is lent the buffer from n on.
  pub laying_part : (part rest : List ℕ) {whole : List ℕ} → whole ≡ part ++ rest → Laying ids whole before out n
      → {k : ℕ} → k ≡ min (length part) (length before - n)
      → {after : List ℕ} → after ≡ take n out ++ laid part (drop n out)
      → Laying ids rest before after (n + k)
  laying_part part rest {whole} is l {k} k-is {after} after_is =
      let tail = drop n out in
      let inside : n ≤ length out = omega (arith, l.count.within, l.long) in
      let taken : length (take n out) ≡ n = length-take-le n out inside in
      let most : k ≡ min (length part) (length tail) = omega (arith, length-drop n out, l.long) in
      record {
        long = omega (arith, ap length after_is, length-append (take n out) (laid part tail), taken, length-laid part tail, length-drop n out, l.long, inside);
        count = rw k-is (counted-part part rest is l.count);
        front =
            l.front
            ∙ rw (is, laid-append part rest tail, ← most, after_is)
            (let cut : take (n + k) (take n out ++ laid part tail) ≡ take n out ++ take k (laid part tail) = ap (λ (m : ℕ). take (m + k) (take n out ++ laid part tail)) (sym taken) ∙ take-append-add (take n out) (laid part tail) k in
            let left : drop (n + k) (take n out ++ laid part tail) ≡ drop k (laid part tail) = ap (λ (m : ℕ). drop (m + k) (take n out ++ laid part tail)) (sym taken) ∙ drop-append-add (take n out) (laid part tail) k in
            rw (cut, left) (sym (append_assoc (take n out) (take k (laid part tail)) (laid rest (drop k (laid part tail))))));
      }

  pub laying_ended : {whole : List ℕ} → whole ≡ [] → Laying ids whole before out n → out ≡ laid ids before
  laying_ended is l = sym (l.front ∙ rw is (take-append-drop n out))

  -- One id more, where there is a cell for it, and where there is none.
  pub laying_one : {id : ℕ} {rest whole : List ℕ} → whole ≡ id ∷ rest → Laying ids whole before out n → n < length out → Laying ids rest before (set out n id) (n + 1)
  laying_one {id} {rest} is l h =
      laying_part (id ∷ []) rest is l (omega (arith, l.long))
      (set_split out n id h ∙ rw (drop-cons out n 0 h))

  pub laying_full : {id : ℕ} {rest whole : List ℕ} → whole ≡ id ∷ rest → Laying ids whole before out n → length out ≤ n → Laying ids rest before out n
  laying_full {id} {rest} is l h =
      rw (add-zero n) at (laying_part (id ∷ []) rest is l {k = 0} (omega (arith, l.long))
      (sym (take-append-drop n out) ∙ rw (drop_of_length-le out h)))
