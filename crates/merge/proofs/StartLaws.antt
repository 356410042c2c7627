-- Laws of starting ids: what a character gives, and a unit from a place on. Assumes nothing.
use Rattle.std.specs.Prelude.{Option, None, Some}
use Prim.Native.Nat.{ℕ, ◌+◌, ◌≤◌, ◌<◌}
use native.Mathlib.Omega.{arith}
use native.Mathlib.Numerals.{add-one}
use mathlib.Core.Path.{◌≡◌, refl, sym, ap, ◌∙◌}
use mathlib.Core.Bool.{Bool, true, false, cond}
use mathlib.Core.List.{List, [], ◌∷◌, ◌++◌}
use lib.ListN.{length, drop, get_or, set, drop_of_length-le}
use lib.Seq.{drop-cons}
use Rattle.utf8.specs.Lists.{any}
use Rattle.utf8.proofs.Places.{any_next, any_found}
use Rattle.model.specs.Model.{fallback_id}
use Rattle.merge.specs.Start.{if_any, is_missing, fallback_ids, lacks_byte}
use Rattle.merge.specs.inner.Laid.{Laid, laid_in}
use Rattle.merge.proofs.Laying.{Laying, laying_start, laying_one, laying_full, laying_ended, counted-ended}

-- ---- the fallback ids of a character's bytes

module _ (fallback char : List ℕ) (i : ℕ) where
  bytes-at : i < length char → fallback_ids fallback (drop i char) ≡ if_any (fallback_id fallback (get_or char i 0)) ++ fallback_ids fallback (drop (i + 1) char)
  unfolding fallback_ids
  bytes-at h = rw (add-one, drop-cons char i 0 h)

  bytes_over : length char ≤ i → fallback_ids fallback (drop i char) ≡ []
  unfolding fallback_ids
  bytes_over h = rw (drop_of_length-le char h)

-- A fallback id of a table of 32-bit numbers is one.
-- The bytes before i are spelled: n ids of theirs stand in out, and d is 1 where one of them has none.
pub record Bytes (fallback char before out : List ℕ) (i n d : ℕ) : Type 0 where
  pub inside : i ≤ length char
  pub laying : Laying (fallback_ids fallback char) (fallback_ids fallback (drop i char)) before out n
  pub drops : cond (lacks_byte fallback char) 1 0 ≡ cond (lacks_byte fallback (drop i char)) 1 d

pub bytes-start : (fallback char before : List ℕ) → Bytes fallback char before before 0 0 0
bytes-start fallback char before = record { inside = omega arith; laying = laying_start (fallback_ids fallback char) before; drops = refl }

module _ {fallback char before out : List ℕ} {i n d : ℕ} (b : Bytes fallback char before out i n d) where
  module _ (h : i < length char) where
    module _ {f : Option ℕ} {id : ℕ} (told : f ≡ fallback_id fallback (get_or char i 0)) (e : f ≡ Some id) where
      has : fallback_id fallback (get_or char i 0) ≡ Some id
      has = sym told ∙ e

      first : fallback_ids fallback (drop i char) ≡ id ∷ fallback_ids fallback (drop (i + 1) char)
      first = bytes-at fallback char i h ∙ rw has

      lacks_on : lacks_byte fallback (drop i char) ≡ lacks_byte fallback (drop (i + 1) char)
      unfolding lacks_byte
      lacks_on = any_next _ char i 0 h (ap is_missing has)

      pub bytes-put : n < length out → Bytes fallback char before (set out n id) (i + 1) (n + 1) d
      bytes-put k = record { inside = omega arith; laying = laying_one first b.laying k; drops = b.drops ∙ rw lacks_on }

      pub bytes_full : length out ≤ n → Bytes fallback char before out (i + 1) n d
      bytes_full k = record { inside = omega arith; laying = laying_full first b.laying k; drops = b.drops ∙ rw lacks_on }

    pub bytes_lacking : {f : Option ℕ} → f ≡ fallback_id fallback (get_or char i 0) → f ≡ None → Bytes fallback char before out (i + 1) n 1
    unfolding lacks_byte
    bytes_lacking {f} told e =
        let none' : fallback_id fallback (get_or char i 0) ≡ None = sym told ∙ e in
        let same : fallback_ids fallback (drop i char) ≡ fallback_ids fallback (drop (i + 1) char) = bytes-at fallback char i h ∙ rw none' in
        record {
          inside = omega arith;
          laying = rw same at b.laying;
          drops = b.drops ∙ rw (any_found _ char i 0 h (ap is_missing none')) (one (any (λ (b : ℕ). is_missing (fallback_id fallback b)) (drop (i + 1) char)));
        }
      where
        one : (t : Bool) → ◌≡◌ {A = ℕ} 1 (cond t 1 1)
        one true = refl
        one false = refl

  pub bytes-ended : length char ≤ i → ◌≡◌ {A = Laid} (record { symbols = record { count = n; drops = d }; out = out }) (laid_in (fallback_ids fallback char) (cond (lacks_byte fallback char) 1 0) before)
  unfolding lacks_byte
  bytes-ended h =
      let over = bytes_over fallback char i h in
      let all : d ≡ cond (lacks_byte fallback char) 1 0 = sym (b.drops ∙ rw (drop_of_length-le char h)) in
      rw (laying_ended over b.laying, counted-ended over b.laying.count, all)
