-- A byte below 0x80 is a character by itself, and its word is the id of its piece. Assumes nothing.
use Rattle.std.specs.Prelude.{Some}
use Prim.Native.Nat.{ℕ, ◌+◌, ◌-◌, ◌<◌}
use native.Mathlib.Nat.{add-zero}
use native.Mathlib.Omega.{arith}
use mathlib.Core.Path.{◌≡◌, refl, ap, ◌∙◌}
use mathlib.Core.Bool.{Bool, true, false, cond, ◌&&◌}
use mathlib.Core.List.{List, [], ◌∷◌}
use borrow.Author.Tests.{ltb-true, lt-ltb, ne_eqb}
use lib.Dec.{eqb, ltb}
use lib.ListN.{length, take, drop, get_or, length-drop}
use lib.Seq.{drop-cons, get_or-drop}
use Rattle.utf8.specs.Chars.{char_forms, char_width}
use Rattle.utf8.proofs.Characters.{char_width_lead}
use Rattle.model.specs.Model.{strings, no_id}
use Rattle.model.specs.Mark.{mark, space}
use Rattle.index.specs.inner.Find.{byte_word, id_from}
use Rattle.index.specs.inner.Find as indexed
use Rattle.merge.specs.Start.{as_mark, unit_chars}
use Rattle.merge.specs.inner.Laid.{own_found, byte_own}
use Rattle.merge.proofs.WalkLaws.{Stepped, unit-at}

module _ (bytes offsets lookup first_bytes : List ℕ) (mark_id : ℕ) (raw : Bool) where
  -- The number of an id that is not none's stands for it.
  stands : (id : ℕ) → (id ≡ no_id → ⊥) → indexed.id_of id ≡ Some id
  unfolding indexed.id_of
  stands id has = rw (ne_eqb id no_id has)

  module _ (b : ℕ) (has : byte_own first_bytes mark_id raw b ≡ no_id → ⊥) where
    low : b < 0x80
    unfolding byte_own
    low = go (ltb b 0x80) refl
      where
        go : (t : Bool) → ltb b 0x80 ≡ t → b < 0x80
        go true e = ltb-true b 0x80 e
        go false e = absurd (has (rw e))

    -- What is sought for the character is the byte's number.
    sought : own_found bytes offsets lookup first_bytes mark_id (as_mark raw (b ∷ [])) ≡ indexed.id_of (byte_own first_bytes mark_id raw b)
    unfolding own_found id_from as_mark mark space byte_own
    sought = go raw (eqb b 0x20)
      where
        go : (r s : Bool) → id_from (strings bytes offsets) lookup first_bytes mark_id (cond (r && (s && true)) mark (b ∷ [])) ≡ indexed.id_of (cond (ltb b 0x80) (cond (r && s) mark_id (byte_word first_bytes b)) no_id)
        go true true = rw (lt-ltb b 0x80 low)
        go true false = rw (lt-ltb b 0x80 low)
        go false s = rw (lt-ltb b 0x80 low)

    width_one : (text : List ℕ) → 0 < length text → get_or text 0 0 ≡ b → char_width text ≡ 1
    unfolding char_forms
    width_one text h e = char_width_lead 0 text h (omega arith) (omega (arith, low))

  module _ (unit : List ℕ) (i : ℕ) where
    -- The character at i is the byte there, and id is its own.
    pub record Alone (id : ℕ) : Type 0 where
      pub is : unit_chars raw (drop i unit) ≡ as_mark raw (get_or unit i 0 ∷ []) ∷ unit_chars raw (drop (i + 1) unit)
      pub has : own_found bytes offsets lookup first_bytes mark_id (as_mark raw (get_or unit i 0 ∷ [])) ≡ Some id

    pub alone : {id : ℕ} → i < length unit → id ≡ byte_own first_bytes mark_id raw (get_or unit i 0) → (id ≡ no_id → ⊥) → Alone id
    alone {id} h e some' =
        let b = get_or unit i 0 in
        let has' : byte_own first_bytes mark_id raw b ≡ no_id → ⊥ = λ q. some' (e ∙ q) in
        let width : char_width (drop i unit) ≡ 1 = width_one b has' (drop i unit) (omega (arith, length-drop i unit)) (get_or-drop i unit 0 0 ∙ ap (λ (k : ℕ). get_or unit k 0) (add-zero i)) in
        let step : Stepped unit i 1 = record { wide = omega (arith, width); some = omega arith; ends = omega arith } in
        let one : i + 1 - i ≡ 1 = omega arith in
        let char : take (i + 1 - i) (drop i unit) ≡ b ∷ [] = rw (one, drop-cons unit i 0 h) in
        record {
          is = unit-at raw unit i step h ∙ rw char;
          has = sought b has' ∙ rw (← e) (stands id some');
        }
