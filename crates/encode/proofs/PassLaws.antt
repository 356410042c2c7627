-- Laws of the two passes over the parts of a text: part by part. Assumes nothing.
use Rattle.std.specs.Prelude.{Option}
use Prim.Native.Nat.{ℕ, zero, suc, ◌+◌, ◌-◌, ◌≤◌, min}
use native.Mathlib.Omega.{arith}
use native.Mathlib.Nat.{zero-add}
use mathlib.Core.Path.{◌≡◌, refl, sym, ap, ap₂, ◌∙◌, subst}
use mathlib.Core.Bool.{Bool, true, not}
use mathlib.Core.List.{List, [], ◌∷◌, ◌++◌, map, map-append}
use borrow.Author.Tests.{lt-ltb}
use lib.Dec.{eqb, ltb, eqb-suc-zero}
use lib.ListN.{length, take, drop, set}
use Rattle.utf8.specs.Lists.{sum}
use Rattle.model.specs.Mark.{mark_width, starts_with_mark}
use Rattle.merge.specs.inner.Laid.{laid}
use Rattle.merge.specs.inner.Turns.{Merged}
use Rattle.merge.specs.declared.Symbols.{Symbols}
use Rattle.sections.specs.Sections.{Item, token}
use Rattle.stretches.specs.Stretches.{Stretch, stretch, held}
use Rattle.stretches.specs.inner.Writers.{Writer, in_turn}
use Rattle.stretches.specs.inner.Tables.{Tables}
use Rattle.stretches.specs.inner.Parts.{part_starts, part_drops, parts_symbols, id_writer, part_writer, parts_writer}
use Rattle.stretches.proofs.WriterLaws.{keeps_all, Going, going_fits, going_on, going_next, going_ended, turn-append}
use Rattle.stretches.proofs.PartLaws.{keeps_id, keeps_part}

-- ---- the virtual mark

pub unmarked-is : (bytes : List ℕ) (w : ℕ) → w ≡ mark_width true bytes → eqb w 0 ≡ not (starts_with_mark true bytes)
unfolding starts_with_mark
unmarked-is bytes w e = rw (← e) (go w)
  where
    go : (n : ℕ) → eqb n 0 ≡ not (ltb 0 n)
    go zero = refl
    go (suc n) = rw (eqb-suc-zero n, lt-ltb 0 (suc n) (omega arith))

-- ---- a stretch by a virtual mark that was found

pub counted_marked : (own : List ℕ → Option ℕ) (fallback bytes : List ℕ) (virtual raw : Bool) (room : ℕ) {mark : Bool} {s : Symbols}
    → s ≡ parts_symbols own fallback (stretch bytes mark raw) room → mark ≡ virtual → s ≡ parts_symbols own fallback (stretch bytes virtual raw) room
counted_marked own fallback bytes virtual raw room e v = e ∙ ap (λ (mark : Bool). parts_symbols own fallback (stretch bytes mark raw) room) v

-- ---- one token

module _ (id : ℕ) (out : List ℕ) where
  pub no_cell : length out ≡ 0 → ◌≡◌ {A = Merged} (record { count = 0; ids = out }) (id_writer id out)
  unfolding id_writer
  no_cell e = go out e
    where
      go : (l : List ℕ) → length l ≡ 0 → ◌≡◌ {A = Merged} (record { count = 0; ids = l }) (record { count = min 1 (length l); ids = laid (id ∷ []) l })
      go [] e = refl
      go (x ∷ l) e = absurd (omega arith)

  pub one_cell : (length out ≡ 0 → ⊥) → ◌≡◌ {A = Merged} (record { count = 1; ids = set out 0 id }) (id_writer id out)
  unfolding id_writer
  one_cell e = go out e
    where
      go : (l : List ℕ) → (length l ≡ 0 → ⊥) → ◌≡◌ {A = Merged} (record { count = 1; ids = set l 0 id }) (record { count = min 1 (length l); ids = laid (id ∷ []) l })
      go [] e = absurd (e refl)
      go (x ∷ l) e = let one : 1 ≡ min 1 (suc (length l)) = omega arith in ap {B = Merged} (λ (n : ℕ). record { count = n; ids = id ∷ l }) one

-- ---- the first pass

sum-append : {A : Type 0} (f : A → ℕ) (xs ys : List A) → sum (map f (xs ++ ys)) ≡ sum (map f xs) + sum (map f ys)
sum-append f [] ys = sym (zero-add _)
sum-append f (x ∷ xs) ys = omega (arith, sum-append f xs ys)

-- n starting ids and d drops are counted, and the parts of rest are to follow.
pub record Tallying (own : List ℕ → Option ℕ) (fallback : List ℕ) (whole rest : List (Item Stretch)) (room n d : ℕ) : Type 0 where
  pub within : n ≤ room
  pub counted : min (sum (map (part_starts own fallback) whole)) room ≡ n + min (sum (map (part_starts own fallback) rest)) (room - n)
  pub dropped : held (sum (map (part_drops own fallback) whole)) ≡ held (d + sum (map (part_drops own fallback) rest))
  pub few : d ≡ held d

pub tallying_start : (own : List ℕ → Option ℕ) (fallback : List ℕ) (whole : List (Item Stretch)) (room : ℕ) → Tallying own fallback whole whole room 0 0
tallying_start own fallback whole room = record { within = omega arith; counted = omega arith; dropped = omega arith; few = omega arith }

module _ {own : List ℕ → Option ℕ} {fallback : List ℕ} {whole : List (Item Stretch)} {room n d : ℕ} where
  pub tallying_next : {left : List (Item Stretch)} → Tallying own fallback whole left room n d → (parts rest : List (Item Stretch)) → left ≡ parts ++ rest → {s : Symbols} → s ≡ parts_symbols own fallback parts (room - n)
      → {more : ℕ} → more ≡ held (d + s.drops) → Tallying own fallback whole rest room (n + s.count) more
  unfolding parts_symbols
  tallying_next {left} g parts rest is {s} e {more} f =
      let starts = part_starts own fallback in
      let drops = part_drops own fallback in
      let c : s.count ≡ min (sum (map starts parts)) (room - n) = ap (λ (s : Symbols). s.count) e in
      let x : s.drops ≡ held (sum (map drops parts)) = ap (λ (s : Symbols). s.drops) e in
      let l : sum (map starts left) ≡ sum (map starts parts) + sum (map starts rest) = rw is (sum-append starts parts rest) in
      let m : sum (map drops left) ≡ sum (map drops parts) + sum (map drops rest) = rw is (sum-append drops parts rest) in
      record { within = omega (arith, g.within); counted = omega (arith, g.counted, g.within); dropped = omega (arith, g.dropped); few = omega arith }

  module _ {left : List (Item Stretch)} (g : Tallying own fallback whole left room n d) where
    -- A token is one more, where there is room for it.
    pub tallying_token : (id : ℕ) (rest : List (Item Stretch)) → left ≡ token id ∷ rest → {more : ℕ} → more ≡ min room (n + 1) → Tallying own fallback whole rest room more d
    unfolding part_starts part_drops
    tallying_token id rest is e =
        let l : sum (map (part_starts own fallback) left) ≡ 1 + sum (map (part_starts own fallback) rest) = rw is in
        let m : sum (map (part_drops own fallback) left) ≡ 0 + sum (map (part_drops own fallback) rest) = rw is in
        record { within = omega arith; counted = omega (arith, g.counted, g.within); dropped = omega (arith, g.dropped); few = g.few }

    pub tallying_ended : left ≡ [] → ◌≡◌ {A = Symbols} (record { count = n; drops = d }) (parts_symbols own fallback whole room)
    unfolding parts_symbols
    tallying_ended is =
        let l : sum (map (part_starts own fallback) left) ≡ 0 = rw is in
        let m : sum (map (part_drops own fallback) left) ≡ 0 = rw is in
        ap₂ {C = Symbols} (λ (c : ℕ) (x : ℕ). record { count = c; drops = x }) (let z : n ≡ min (sum (map (part_starts own fallback) whole)) room = omega (arith, g.counted) in z) (let z : d ≡ held (sum (map (part_drops own fallback) whole)) = omega (arith, g.dropped, g.few) in z)

-- ---- the second pass

module _ (t : Tables) (whole left : List (Item Stretch)) {before out : List ℕ} {n : ℕ} (g : Going (map (part_writer t) whole) (map (part_writer t) left) before out n) where
  pub parts_on : (parts rest : List (Item Stretch)) → left ≡ parts ++ rest → {k : ℕ} {after : List ℕ}
      → ◌≡◌ {A = Merged} (record { count = k; ids = after }) (parts_writer t parts (take (length out - n) (drop n out)))
      → Going (map (part_writer t) whole) (map (part_writer t) rest) before (take n out ++ (after ++ drop (length out - n) (drop n out))) (n + k)
  unfolding parts_writer
  parts_on parts rest is e =
      going_on g (parts_writer t parts) (map (part_writer t) rest)
      (λ l. ap (λ (r : List (Item Stretch)). in_turn (map (part_writer t) r) l) is ∙ ap (λ (r : List Writer). in_turn r l) (map-append (part_writer t) parts rest) ∙ turn-append (part_writer t) (keeps_part t) parts (map (part_writer t) rest) l)
      (keeps_all (part_writer t) (keeps_part t) parts) e

  pub parts-fit : (parts : List (Item Stretch)) → {k : ℕ} {after : List ℕ}
      → ◌≡◌ {A = Merged} (record { count = k; ids = after }) (parts_writer t parts (take (length out - n) (drop n out))) → n + k ≤ length before
  unfolding parts_writer
  parts-fit parts e = going_fits g (parts_writer t parts) (keeps_all (part_writer t) (keeps_part t) parts) e

  pub token_on : (id : ℕ) (rest : List (Item Stretch)) → left ≡ token id ∷ rest → {k : ℕ} {after : List ℕ}
      → ◌≡◌ {A = Merged} (record { count = k; ids = after }) (id_writer id (take (length out - n) (drop n out)))
      → Going (map (part_writer t) whole) (map (part_writer t) rest) before (take n out ++ (after ++ drop (length out - n) (drop n out))) (n + k)
  unfolding part_writer
  token_on id rest is e = going_next g (id_writer id) (map (part_writer t) rest) (ap (map (part_writer t)) is) (keeps_id id) e

  pub token-fit : (id : ℕ) → {k : ℕ} {after : List ℕ} → ◌≡◌ {A = Merged} (record { count = k; ids = after }) (id_writer id (take (length out - n) (drop n out))) → n + k ≤ length before
  token-fit id e = going_fits g (id_writer id) (keeps_id id) e

  pub parts-ended : left ≡ [] → ◌≡◌ {A = Merged} (record { count = n; ids = out }) (parts_writer t whole before)
  unfolding parts_writer
  parts-ended is = going_ended (subst (λ (r : List (Item Stretch)). Going (map (part_writer t) whole) (map (part_writer t) r) before out n) is g)

pub counted-most : (own : List ℕ → Option ℕ) (fallback : List ℕ) (parts : List (Item Stretch)) (room : ℕ) {s : Symbols} → s ≡ parts_symbols own fallback parts room → s.count ≤ room
unfolding parts_symbols
counted-most own fallback parts room {s} is = let c : s.count ≡ min (sum (map (part_starts own fallback) parts)) room = ap (λ (s : Symbols). s.count) is in omega arith
