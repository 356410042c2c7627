-- Laws of a walk over the characters of a unit: what one gives, and the walk from character to character. Assumes nothing.
use Rattle.std.specs.Prelude.{Option, None, Some}
use Prim.Native.Nat.{ℕ, suc, ◌+◌, ◌-◌, ◌≤◌, ◌<◌, min, max}
use native.Mathlib.Nat.{zero-add, sub-zero, zero-min, suc-min-suc}
use native.Mathlib.Omega.{arith}
use mathlib.Core.Path.{◌≡◌, refl, sym, ap, ◌∙◌}
use mathlib.Core.Bool.{Bool, true, false, not, cond, ◌&&◌}
use mathlib.Core.List.{List, [], ◌∷◌, ◌++◌, append-nil}
use borrow.Author.Tests.{not-true, not-false}
use lib.ListN.{length, take, drop, set, length-take, length-drop, drop_of_length-le}
use Rattle.utf8.specs.Lists.{join_map, same}
use Rattle.utf8.specs.Lists as lists
use Rattle.utf8.specs.Chars.{chars, char_width}
use Rattle.utf8.proofs.Lists.{part_to_end}
use Rattle.utf8.proofs.Characters.{chars-next, chars-nil, char_width-le_four, char_ends}
use Rattle.model.specs.Mark.{mark, space}
use Rattle.model.specs.Model.{fallback_id}
use Rattle.merge.specs.declared.Symbols.{Symbols}
use Rattle.merge.specs.Start.{if_any, is_missing, fallback_ids, lacks_byte, starting_ids_by, is_dropped_by, as_mark, unit_chars}
use Rattle.merge.specs.inner.Laid.{Laid, laid, laid_in, char_laid, marked_chars, unit_laid, unit_symbols}
use Rattle.merge.proofs.Laying.{Counted, counted_start, counted-part, counted-ended, Laying, laying_start, laying_part, laying_ended, laying_one, laying_full}

-- ---- one character

-- One id, in a buffer without a cell and in one with cells.
laid_none : (id : ℕ) (out : List ℕ) → length out ≡ 0 → ◌≡◌ {A = Laid} (record { symbols = record { count = 0; drops = 0 }; out = out }) (laid_in (id ∷ []) 0 out)
laid_none id [] h = refl
laid_none id (cell ∷ out) h = absurd (omega arith)

laid-first : (id : ℕ) (out : List ℕ) → 0 < length out → ◌≡◌ {A = Laid} (record { symbols = record { count = 1; drops = 0 }; out = set out 0 id }) (laid_in (id ∷ []) 0 out)
laid-first id [] h = absurd (omega arith)
laid-first id (cell ∷ out) h = rw (suc-min-suc 0 (length out), zero-min (length out))

module _ (own : List ℕ → Option ℕ) (fallback char out : List ℕ) {o : Option ℕ} (told : o ≡ own char) where
  module _ {id : ℕ} (e : o ≡ Some id) where
    alone : char_laid own fallback char out ≡ laid_in (id ∷ []) 0 out
    unfolding char_laid starting_ids_by is_dropped_by
    alone = rw (← told, e)

    pub own_no_room : length out ≡ 0 → ◌≡◌ {A = Laid} (record { symbols = record { count = 0; drops = 0 }; out = out }) (char_laid own fallback char out)
    own_no_room h = laid_none id out h ∙ sym alone

    pub own_put : 0 < length out → ◌≡◌ {A = Laid} (record { symbols = record { count = 1; drops = 0 }; out = set out 0 id }) (char_laid own fallback char out)
    own_put h = laid-first id out h ∙ sym alone

  pub own_lacking : o ≡ None → laid_in (fallback_ids fallback char) (cond (lacks_byte fallback char) 1 0) out ≡ char_laid own fallback char out
  unfolding char_laid starting_ids_by is_dropped_by
  own_lacking e = rw (← told, e)

module _ (raw : Bool) (char : List ℕ) where
  pub as_plain : not raw ≡ true → char ≡ as_mark raw char
  unfolding as_mark
  as_plain e = rw (not-true raw e)

  pub as_mark_lem : {r : Bool} → not raw ≡ false → r ≡ same char (0x20 ∷ []) → r ≡ true → mark ≡ as_mark raw char
  unfolding as_mark space
  as_mark_lem e told t = rw (not-false raw e, ← told, t)

  pub as_other : {r : Bool} → r ≡ same char (0x20 ∷ []) → r ≡ false → char ≡ as_mark raw char
  unfolding as_mark space
  as_other told f = go raw
    where
      go : (raw : Bool) → char ≡ cond (raw && same char (0x20 ∷ [])) mark char
      go true = rw (← told, f)
      go false = refl

-- ---- the characters of a unit from a place on

-- r is how far the character at i reaches.
pub record Stepped (unit : List ℕ) (i r : ℕ) : Type 0 where
  pub wide : r ≡ max 1 (char_width (drop i unit))
  pub some : 0 < r
  pub ends : i + r ≤ length unit

pub stepped : (unit : List ℕ) (i r : ℕ) → i < length unit → r ≡ max 1 (char_width (take (length unit - i) (drop i unit))) → Stepped unit i r
stepped unit i r h e =
    let wide' : r ≡ max 1 (char_width (drop i unit)) = e ∙ rw (part_to_end unit i) in
    record { wide = wide'; some = omega arith; ends = omega (arith, wide', char_ends unit i (omega arith)) }

module _ (raw : Bool) (unit : List ℕ) (i : ℕ) where
  pub unit-at : {r : ℕ} → Stepped unit i r → i < length unit → unit_chars raw (drop i unit) ≡ as_mark raw (take (i + r - i) (drop i unit)) ∷ unit_chars raw (drop (i + r) unit)
  unfolding unit_chars
  unit-at {r} st h =
      let wide' : i + r - i ≡ max 1 (char_width (drop i unit)) = omega (arith, st.wide) in
      rw (wide', st.wide) (rw (chars-next unit i h))

  pub unit_over : length unit ≤ i → unit_chars raw (drop i unit) ≡ []
  unfolding unit_chars
  unit_over h = rw (drop_of_length-le unit h) (rw chars-nil)

  -- A character is spelled by four bytes at most.
  pub unit_narrow : {r : ℕ} → Stepped unit i r → max 1 (length (as_mark raw (take (i + r - i) (drop i unit)))) ≤ 4
  unfolding as_mark mark
  unit_narrow {r} st = go (raw && same (take (i + r - i) (drop i unit)) space)
    where
      go : (b : Bool) → max 1 (length (cond b mark (take (i + r - i) (drop i unit)))) ≤ 4
      go true = omega arith
      go false = omega (arith, length-take (i + r - i) (drop i unit), st.wide, char_width-le_four (drop i unit))

-- ---- how many ids a character has, and drops

fallback_few : (fallback char : List ℕ) → length (fallback_ids fallback char) ≤ length char
unfolding fallback_ids
fallback_few fallback [] = omega arith
fallback_few fallback (b ∷ char) = go (fallback_id fallback b) (fallback_few fallback char)
  where
    go : (o : Option ℕ) → length (join_map (λ (b : ℕ). if_any (fallback_id fallback b)) char) ≤ length char → length (if_any o ++ join_map (λ (b : ℕ). if_any (fallback_id fallback b)) char) ≤ suc (length char)
    go None h = omega arith
    go (Some id) h = omega arith

module _ (own : List ℕ → Option ℕ) (fallback : List ℕ) where
  starting_few : (char : List ℕ) → length (starting_ids_by own fallback char) ≤ max 1 (length char)
  unfolding starting_ids_by
  starting_few char = go (own char)
    where
      go : (o : Option ℕ) → length (cond (is_missing o) (fallback_ids fallback char) (if_any o)) ≤ max 1 (length char)
      go None = omega (arith, fallback_few fallback char)
      go (Some id) = omega arith

  drops-cons : (char : List ℕ) (rest : List (List ℕ)) → lists.count (is_dropped_by own fallback) (char ∷ rest) ≡ cond (is_dropped_by own fallback char) 1 0 + lists.count (is_dropped_by own fallback) rest
  drops-cons char rest = go (is_dropped_by own fallback char)
    where
      go : (t : Bool) → length (cond t (char ∷ lists.filter (is_dropped_by own fallback) rest) (lists.filter (is_dropped_by own fallback) rest)) ≡ cond t 1 0 + lists.count (is_dropped_by own fallback) rest
      go true = omega arith
      go false = sym (zero-add _)

  one_at_most : (char : List ℕ) → cond (is_dropped_by own fallback char) 1 0 ≤ 1
  one_at_most char = go (is_dropped_by own fallback char)
    where
      go : (t : Bool) → cond t 1 0 ≤ 1
      go true = omega arith
      go false = omega arith

-- What a call gives that spells one character into a buffer.
pub record Given (own : List ℕ → Option ℕ) (fallback char buffer after : List ℕ) (s : Symbols) : Type 0 where
  pub count : s.count ≡ min (length (starting_ids_by own fallback char)) (length buffer)
  pub drops : s.drops ≡ cond (is_dropped_by own fallback char) 1 0
  pub out : after ≡ laid (starting_ids_by own fallback char) buffer

pub given : (own : List ℕ → Option ℕ) (fallback char buffer : List ℕ) {after : List ℕ} {s : Symbols} → ◌≡◌ {A = Laid} (record { symbols = s; out = after }) (char_laid own fallback char buffer) → Given own fallback char buffer after s
unfolding char_laid
given own fallback char buffer e =
    record { count = ap (λ (l : Laid). l.symbols.count) e; drops = ap (λ (l : Laid). l.symbols.drops) e; out = ap (λ (l : Laid). l.out) e }

-- ---- a walk over the characters

-- The ids of characters, and how many of them are dropped.
abbrev pub ids_of : (List ℕ → Option ℕ) → List ℕ → List (List ℕ) → List ℕ
ids_of own fallback chars = join_map (starting_ids_by own fallback) chars

abbrev pub drops_of : (List ℕ → Option ℕ) → List ℕ → List (List ℕ) → ℕ
drops_of own fallback chars = lists.count (is_dropped_by own fallback) chars

-- The characters before rest are counted: n ids and d drops.
pub record Tallied (own : List ℕ → Option ℕ) (fallback : List ℕ) (chars rest : List (List ℕ)) (room n d : ℕ) : Type 0 where
  pub count : Counted (ids_of own fallback chars) (ids_of own fallback rest) room n
  pub drops : drops_of own fallback chars ≡ d + drops_of own fallback rest

-- The same, with the ids in a buffer.
pub record Walked (own : List ℕ → Option ℕ) (fallback : List ℕ) (chars rest : List (List ℕ)) (before out : List ℕ) (n d : ℕ) : Type 0 where
  pub laying : Laying (ids_of own fallback chars) (ids_of own fallback rest) before out n
  pub drops : drops_of own fallback chars ≡ d + drops_of own fallback rest

module _ {own : List ℕ → Option ℕ} {fallback char buffer after : List ℕ} {s : Symbols} (g : Given own fallback char buffer after s) where
  -- A character is one drop at most.
  pub given-one : s.drops ≤ 1
  given-one = omega (arith, g.drops, one_at_most own fallback char)

  drops_on : (chars : ℕ) (rest : List (List ℕ)) (d : ℕ) → chars ≡ d + drops_of own fallback (char ∷ rest) → chars ≡ d + s.drops + drops_of own fallback rest
  drops_on chars rest d e = omega (arith, e, drops-cons own fallback char rest, g.drops)

  -- A buffer that has room for the character's ids tells how many there are.
  pub tallied_next : {chars rest whole : List (List ℕ)} {room n d : ℕ} → Tallied own fallback chars whole room n d → whole ≡ char ∷ rest
      → max 1 (length char) ≤ length buffer → {k : ℕ} → k ≡ min s.count (room - n) → Tallied own fallback chars rest room (n + k) (d + s.drops)
  tallied_next {chars} {rest} {room = room} {n = n} {d = d} t is wide {k} k-is =
      let ids = starting_ids_by own fallback char in
      let most : min s.count (room - n) ≡ min (length ids) (room - n) = omega (arith, g.count, starting_few own fallback char) in
      record {
        count = rw (k-is, most) (counted-part ids (ids_of own fallback rest) (ap (ids_of own fallback) is) t.count);
        drops = drops_on (drops_of own fallback chars) rest d (t.drops ∙ rw is);
      }

-- The same, where the call was lent the buffer from n on.
pub walked_next : {own : List ℕ → Option ℕ} {fallback char before out after : List ℕ} {s : Symbols} {chars rest whole : List (List ℕ)} {n d : ℕ}
    → Walked own fallback chars whole before out n d → whole ≡ char ∷ rest
    → Given own fallback char (take (length out - n) (drop n out)) after s
    → Walked own fallback chars rest before (take n out ++ (after ++ drop (length out - n) (drop n out))) (n + s.count) (d + s.drops)
walked_next {own} {fallback} {char} {before} {out} {after} {s} {chars} {rest} {n = n} {d = d} w is g =
    let ids = starting_ids_by own fallback char in
    let none' : drop (length out - n) (drop n out) ≡ [] = drop_of_length-le (drop n out) {i = length out - n} (omega (arith, length-drop n out)) in
    let back : take (length out - n) (drop n out) ≡ drop n out = part_to_end out n in
    let told : after ≡ laid ids (drop n out) = g.out ∙ ap (laid ids) back in
    let k-is : s.count ≡ min (length ids) (length before - n) = g.count ∙ ap (λ (l : List ℕ). min (length ids) (length l)) back ∙ ap (min (length ids)) (length-drop n out ∙ ap (λ (m : ℕ). m - n) w.laying.long) in
    record {
      laying = laying_part ids (ids_of own fallback rest) (ap (ids_of own fallback) is) w.laying k-is (rw (none', append-nil, told));
      drops = drops_on g (drops_of own fallback chars) rest d (w.drops ∙ rw is);
    }

-- A character that has a piece is its id alone, and no drop.
module _ (own : List ℕ → Option ℕ) (fallback : List ℕ) {char : List ℕ} {rest whole : List (List ℕ)} {id : ℕ} (is : whole ≡ char ∷ rest) (has : own char ≡ Some id) where
  ids-one : ids_of own fallback whole ≡ id ∷ ids_of own fallback rest
  unfolding starting_ids_by
  ids-one = rw (is, has)

  drops-none : drops_of own fallback whole ≡ drops_of own fallback rest
  unfolding is_dropped_by
  drops-none = rw (is, has)

module _ {own : List ℕ → Option ℕ} {fallback char : List ℕ} {chars rest whole : List (List ℕ)} {room id n d : ℕ} (t : Tallied own fallback chars whole room n d) (is : whole ≡ char ∷ rest) (has : own char ≡ Some id) where
  counted-one : Counted (ids_of own fallback chars) (ids_of own fallback rest) room (n + min 1 (room - n))
  counted-one = counted-part (id ∷ []) (ids_of own fallback rest) (ids-one own fallback is has) t.count

  pub tallied_one : n < room → Tallied own fallback chars rest room (n + 1) d
  tallied_one h =
      let one : min 1 (room - n) ≡ 1 = omega arith in
      record { count = rw one at counted-one; drops = t.drops ∙ rw (drops-none own fallback is has) }

  pub tallied_full : room ≤ n → Tallied own fallback chars rest room n d
  tallied_full h =
      let same' : n + min 1 (room - n) ≡ n = omega arith in
      record { count = rw same' at counted-one; drops = t.drops ∙ rw (drops-none own fallback is has) }

module _ {own : List ℕ → Option ℕ} {fallback char before out : List ℕ} {chars rest whole : List (List ℕ)} {id n d : ℕ} (w : Walked own fallback chars whole before out n d) (is : whole ≡ char ∷ rest) (has : own char ≡ Some id) where
  walked_one : n < length out → Walked own fallback chars rest before (set out n id) (n + 1) d
  walked_one h = record { laying = laying_one (ids-one own fallback is has) w.laying h; drops = w.drops ∙ rw (drops-none own fallback is has) }

  walked_full : length out ≤ n → Walked own fallback chars rest before out n d
  walked_full h = record { laying = laying_full (ids-one own fallback is has) w.laying h; drops = w.drops ∙ rw (drops-none own fallback is has) }

-- From one place of a walk to a later one, wherever it began.
pub record Onward (own : List ℕ → Option ℕ) (fallback : List ℕ) (rest₀ rest : List (List ℕ)) (out₀ : List ℕ) (n₀ d₀ : ℕ) (out : List ℕ) (n d : ℕ) : Type 0 where
  pub goes : {chars : List (List ℕ)} {before : List ℕ} → Walked own fallback chars rest₀ before out₀ n₀ d₀ → Walked own fallback chars rest before out n d

pub onward_start : (own : List ℕ → Option ℕ) (fallback : List ℕ) (rest : List (List ℕ)) (out : List ℕ) (n d : ℕ) → Onward own fallback rest rest out n d out n d
onward_start own fallback rest out n d = record { goes = λ w. w }

pub onward_next : {own : List ℕ → Option ℕ} {fallback char out₀ out after : List ℕ} {s : Symbols} {rest₀ rest whole : List (List ℕ)} {n₀ d₀ n d : ℕ}
    → Onward own fallback rest₀ whole out₀ n₀ d₀ out n d → whole ≡ char ∷ rest
    → Given own fallback char (take (length out - n) (drop n out)) after s
    → Onward own fallback rest₀ rest out₀ n₀ d₀ (take n out ++ (after ++ drop (length out - n) (drop n out))) (n + s.count) (d + s.drops)
onward_next o is g = record { goes = λ w. walked_next (o.goes w) is g }

module _ {own : List ℕ → Option ℕ} {fallback char out₀ out : List ℕ} {rest₀ rest whole : List (List ℕ)} {id n₀ d₀ n d : ℕ}
    (o : Onward own fallback rest₀ whole out₀ n₀ d₀ out n d) (is : whole ≡ char ∷ rest) (has : own char ≡ Some id) where
  pub onward_one : n < length out → Onward own fallback rest₀ rest out₀ n₀ d₀ (set out n id) (n + 1) d
  onward_one h = record { goes = λ w. walked_one (o.goes w) is has h }

  pub onward_full : length out ≤ n → Onward own fallback rest₀ rest out₀ n₀ d₀ out n d
  onward_full h = record { goes = λ w. walked_full (o.goes w) is has h }

module _ (own : List ℕ → Option ℕ) (fallback : List ℕ) (virtual raw : Bool) (unit : List ℕ) where
  -- The virtual mark is the first character, where there is one.
  pub tallied_start : (buffer : List ℕ) (room : ℕ) {after : List ℕ} {s : Symbols} {k : ℕ} → 3 ≤ length buffer
      → ◌≡◌ {A = Laid} (record { symbols = s; out = after }) (cond virtual (char_laid own fallback mark buffer) (laid_in [] 0 buffer))
      → k ≡ min s.count room
      → Tallied own fallback (marked_chars virtual raw unit) (unit_chars raw (drop 0 unit)) room k s.drops
  unfolding marked_chars mark
  tallied_start buffer room {after} {s} {k} wide e k-is = go virtual e
    where
      rest : List (List ℕ)
      rest = unit_chars raw unit

      go : (b : Bool) → ◌≡◌ {A = Laid} (record { symbols = s; out = after }) (cond b (char_laid own fallback mark buffer) (laid_in [] 0 buffer))
          → Tallied own fallback (cond b (mark ∷ rest) rest) rest room k s.drops
      go true e =
          let t : Tallied own fallback (mark ∷ rest) (mark ∷ rest) room 0 0 = record { count = counted_start (ids_of own fallback (mark ∷ rest)) room; drops = sym (zero-add _) } in
          rw (zero-add k, zero-add s.drops) at (tallied_next (given own fallback mark buffer e) t refl (omega arith) {k = k} (omega arith))
      go false e =
          let none' : s.count ≡ 0 = ap (λ (l : Laid). l.symbols.count) e ∙ zero-min (length buffer) in
          let kept : k ≡ 0 = omega arith in
          let no-drops : s.drops ≡ 0 = ap (λ (l : Laid). l.symbols.drops) e in
          rw (kept, no-drops) (record { count = counted_start (ids_of own fallback rest) room; drops = sym (zero-add _) })

  pub walked_start : (before : List ℕ) {after : List ℕ} {s : Symbols}
      → ◌≡◌ {A = Laid} (record { symbols = s; out = after }) (cond virtual (char_laid own fallback mark before) (laid_in [] 0 before))
      → Walked own fallback (marked_chars virtual raw unit) (unit_chars raw (drop 0 unit)) before after s.count s.drops
  unfolding marked_chars
  walked_start before {after} {s} e = go virtual e
    where
      rest : List (List ℕ)
      rest = unit_chars raw unit

      go : (b : Bool) → ◌≡◌ {A = Laid} (record { symbols = s; out = after }) (cond b (char_laid own fallback mark before) (laid_in [] 0 before))
          → Walked own fallback (cond b (mark ∷ rest) rest) rest before after s.count s.drops
      go true e =
          let g = given own fallback mark before e in
          let l = laying_part (starting_ids_by own fallback mark) (ids_of own fallback rest) refl (laying_start (ids_of own fallback (mark ∷ rest)) before) {k = s.count} (g.count ∙ rw (sub-zero (length before))) g.out in
          record { laying = rw (zero-add s.count) at l; drops = drops-cons own fallback mark rest ∙ rw g.drops }
      go false e =
          let none' : s.count ≡ 0 = ap (λ (l : Laid). l.symbols.count) e ∙ zero-min (length before) in
          let no-drops : s.drops ≡ 0 = ap (λ (l : Laid). l.symbols.drops) e in
          let same' : after ≡ before = ap (λ (l : Laid). l.out) e in
          rw (none', no-drops, same') (record { laying = laying_start (ids_of own fallback rest) before; drops = sym (zero-add _) })

all-dropped : (own : List ℕ → Option ℕ) (fallback : List ℕ) {whole : List (List ℕ)} (all d : ℕ) → whole ≡ [] → all ≡ d + drops_of own fallback whole → d ≡ all
all-dropped own fallback all d is e = omega (arith, e, ap (drops_of own fallback) is)

-- The virtual mark is one drop at most.
pub mark-one : (own : List ℕ → Option ℕ) (fallback : List ℕ) (virtual : Bool) (buffer : List ℕ) {after : List ℕ} {s : Symbols}
    → ◌≡◌ {A = Laid} (record { symbols = s; out = after }) (cond virtual (char_laid own fallback mark buffer) (laid_in [] 0 buffer)) → s.drops ≤ 1
mark-one own fallback true buffer e = given-one (given own fallback mark buffer e)
mark-one own fallback false buffer e = omega (arith, ap (λ (l : Laid). l.symbols.drops) e)

module _ {own : List ℕ → Option ℕ} {fallback : List ℕ} {chars whole : List (List ℕ)} {n d : ℕ} where
  pub tallied_ended : {room : ℕ} → Tallied own fallback chars whole room n d → whole ≡ [] → ◌≡◌ {A = Symbols} (record { count = n; drops = d }) (unit_symbols own fallback chars room)
  unfolding unit_symbols
  tallied_ended t is = rw (counted-ended (ap (ids_of own fallback) is) t.count, all-dropped own fallback (drops_of own fallback chars) d is t.drops)

  pub walked_ended : {before out : List ℕ} → Walked own fallback chars whole before out n d → whole ≡ []
      → ◌≡◌ {A = Laid} (record { symbols = record { count = n; drops = d }; out = out }) (unit_laid own fallback chars before)
  unfolding unit_laid
  walked_ended w is =
      let over = ap (ids_of own fallback) is in
      rw (laying_ended over w.laying, counted-ended over w.laying.count, all-dropped own fallback (drops_of own fallback chars) d is w.drops)
