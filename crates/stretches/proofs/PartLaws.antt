-- Laws of parts: what is counted and written of a stretch, by the rows that are derived of a model, and of a token. Assumes nothing.
use Rattle.std.specs.Prelude.{Option}
use Prim.Native.Nat.{ℕ, ◌+◌, ◌≤◌, ◌<◌, min, max}
use native.Mathlib.Omega.{arith}
use native.Mathlib.Nat.{add-zero, zero-min}
use mathlib.Core.Path.{◌≡◌, sym, ap, ◌∙◌}
use mathlib.Core.Bool.{Bool, true, false}
use mathlib.Core.List.{List, [], ◌∷◌, map}
use borrow.Author.Tests.{ne_eqb}
use lib.ListN.{length, get_or, drop, length-drop, length-map}
use lib.Seq.{slice}
use Rattle.utf8.specs.Lists.{join_map}
use Rattle.utf8.specs.Lists as lists
use Rattle.utf8.specs.Chars.{chars, char_width}
use Rattle.utf8.proofs.Lists.{by_length}
use Rattle.utf8.proofs.Places.{empty_by_length, slice_of}
use Rattle.utf8.proofs.Counts.{count-within}
use Rattle.utf8.proofs.Characters.{chars-nil, chars_step}
use Rattle.model.specs.Model.{strings}
use Rattle.units.specs.inner.Next.{units_from}
use Rattle.units.specs.Units.{begins_unit}
use Rattle.units.specs.Kinds.{Crossing}
use Rattle.units.specs.inner.Read.{pair_noted, named_crossings}
use Rattle.units.specs.declared.WordSplit.{WordSplit}
use Rattle.merge.specs.Start.{starting_ids_by, is_dropped_by, as_mark, unit_chars, with_virtual_mark}
use Rattle.merge.specs.inner.Laid.{own_found, marked_chars, unit_symbols}
use Rattle.merge.specs.inner.Turns.{row_in, Merged}
use Rattle.merge.specs.declared.Symbols.{Symbols}
use Rattle.merge.proofs.Laying.{length-laid}
use Rattle.prepare.specs.Layout.{kind_at, crossing_count_at, crossings_at, mark_id_at, shift_at, first_bytes_at, buckets_at, first_tokens_at}
use Rattle.prepare.specs.inner.Read.{kind_from}
use Rattle.sections.specs.Sections.{Item, token, plain}
use Rattle.stretches.specs.Stretches.{Stretch, stretch, held}
use Rattle.stretches.specs.inner.Writers.{in_turn, unit_writer, stretch_writer, unit_writers}
use Rattle.stretches.specs.inner.Tables.{Tables, words, own_in, rows_in, cuts_in, stretch_in}
use Rattle.stretches.specs.inner.Parts.{part_starts, part_drops, parts_symbols, id_writer, part_writer, parts_writer}
use Rattle.stretches.proofs.WriterLaws.{Keeps, keeps_all, keeps_unit, turn_one}

-- ---- a stretch has no more characters than bytes, and one

chars_few : (t : List ℕ) → length (chars t) ≤ length t
chars_few = by_length (λ (t : List ℕ). length (chars t) ≤ length t) turn
  where
    turn : (t : List ℕ) → ((u : List ℕ) → length u < length t → length (chars u) ≤ length u) → length (chars t) ≤ length t
    turn [] less = omega (arith, ap length chars-nil)
    turn (b ∷ u) less =
        let t = b ∷ u in
        let w = max 1 (char_width t) in
        omega (arith, ap length (chars_step t (omega arith)), less (drop w t) (omega (arith, length-drop w t)), length-drop w t)

marked_few : (virtual raw : Bool) (bytes : List ℕ) → length (marked_chars virtual raw bytes) ≤ length bytes + 1
unfolding marked_chars unit_chars
marked_few true raw bytes = omega (arith, length-map (chars bytes) (as_mark raw), chars_few bytes)
marked_few false raw bytes = omega (arith, length-map (chars bytes) (as_mark raw), chars_few bytes)

-- ---- one stretch

module _ (own : List ℕ → Option ℕ) (fallback : List ℕ) (bytes : List ℕ) (virtual raw : Bool) (room : ℕ) where
  pub nothing-counted : length bytes ≡ 0 → ◌≡◌ {A = Symbols} (record { count = 0; drops = 0 }) (parts_symbols own fallback (stretch bytes virtual raw) room)
  unfolding parts_symbols stretch
  nothing-counted e = rw (empty_by_length bytes, e) (rw (zero-min room))

  -- A buffer has less than 2^63 bytes, so an answer holds the drops of one stretch.
  pub section_counted : (length bytes ≡ 0 → ⊥) → length bytes < 9223372036854775808 → unit_symbols own fallback (marked_chars virtual raw bytes) room ≡ parts_symbols own fallback (stretch bytes virtual raw) room
  unfolding parts_symbols stretch unit_symbols part_starts part_drops
  section_counted e h =
      let all = marked_chars virtual raw bytes in
      let lost = lists.count (is_dropped_by own fallback) all in
      let whole : lost ≡ held (lost + 0) = omega (arith, count-within (is_dropped_by own fallback) all, marked_few virtual raw bytes) in
      rw (empty_by_length bytes, ne_eqb (length bytes) 0 e)
      (rw (add-zero (length (join_map (starting_ids_by own fallback) all))) (ap {B = Symbols} (λ (n : ℕ). record { count = min (length (join_map (starting_ids_by own fallback) all)) room; drops = n }) whole))

-- ---- by the index

-- A part of the index, as it is read.
read : (from to : ℕ) (index : List ℕ) {part : List ℕ} → part ≡ slice from to index → part ≡ words from to index
read from to index e = e ∙ sym (slice_of from to index)

-- What characters are spelled by, as it is read.
pub own_read : (t : Tables) {piece_bytes piece_offsets lookup words : List ℕ} {id : ℕ}
    → piece_bytes ≡ t.piece_bytes → piece_offsets ≡ t.piece_offsets → lookup ≡ t.lookup → words ≡ slice first_bytes_at buckets_at t.index → id ≡ get_or t.index mark_id_at 0
    → own_found piece_bytes piece_offsets lookup words id ≡ own_in t
unfolding own_in
own_read t b o l w i = rw (b, o, l, read first_bytes_at buckets_at t.index w, i)

-- The rows,
pub rows_read : (t : Tables) {left right result rank words : List ℕ} {shift : ℕ}
    → left ≡ t.left → right ≡ t.right → result ≡ t.result → rank ≡ t.rank → words ≡ slice buckets_at first_tokens_at t.index → shift ≡ get_or t.index shift_at 0
    → row_in left right result rank words shift ≡ rows_in t
unfolding rows_in
rows_read t l r e k w s = rw (l, r, e, k, read buckets_at first_tokens_at t.index w, s)

-- and where units start.
pub cuts_read : (t : Tables) {kind : WordSplit} {crossings : List Crossing} {adjacency : List ℕ}
    → kind ≡ kind_from (get_or t.index kind_at 0)
    → crossings ≡ named_crossings (strings t.piece_bytes t.piece_offsets) (slice crossings_at mark_id_at t.index) (get_or t.index crossing_count_at 0)
    → adjacency ≡ t.adjacency → (raw : Bool) (bytes : List ℕ) → begins_unit kind crossings (pair_noted adjacency) raw bytes ≡ cuts_in t raw bytes
unfolding cuts_in
cuts_read t k c a raw bytes =
    rw (k, c, a)
    (ap (λ (noted : List ℕ). begins_unit (kind_from (get_or t.index kind_at 0)) (named_crossings (strings t.piece_bytes t.piece_offsets) noted (get_or t.index crossing_count_at 0)) (pair_noted t.adjacency) raw bytes) (sym (slice_of crossings_at mark_id_at t.index)))

pub keeps_stretch : (t : Tables) (virtual raw : Bool) (bytes : List ℕ) → Keeps (stretch_in t virtual raw bytes)
unfolding stretch_in stretch_writer unit_writers
keeps_stretch t virtual raw bytes =
    let own = own_in t in
    keeps_all (unit_writer (rows_in t) own t.fallback) (keeps_unit (rows_in t) own t.fallback) (with_virtual_mark virtual (map (unit_chars raw) (units_from (cuts_in t raw bytes) bytes 0)))

module _ (t : Tables) (bytes : List ℕ) (virtual raw : Bool) (out : List ℕ) where
  pub nothing_written : length bytes ≡ 0 → ◌≡◌ {A = Merged} (record { count = 0; ids = out }) (parts_writer t (stretch bytes virtual raw) out)
  unfolding parts_writer stretch in_turn
  nothing_written e = rw (empty_by_length bytes, e)

  pub section_written : (length bytes ≡ 0 → ⊥) → stretch_in t virtual raw bytes out ≡ parts_writer t (stretch bytes virtual raw) out
  unfolding parts_writer stretch part_writer
  section_written e = rw (empty_by_length bytes, ne_eqb (length bytes) 0 e) (sym (turn_one (stretch_in t virtual raw bytes) out))

-- ---- parts

pub keeps_id : (id : ℕ) → Keeps (id_writer id)
unfolding id_writer
keeps_id id = record { long = λ out. length-laid (id ∷ []) out; inside = λ out. omega arith }

pub keeps_part : (t : Tables) (part : Item Stretch) → Keeps (part_writer t part)
unfolding part_writer
keeps_part t (token id) = keeps_id id
keeps_part t (plain s) = keeps_stretch t s.virtual s.raw s.bytes

pub keeps_parts : (t : Tables) (parts : List (Item Stretch)) → Keeps (parts_writer t parts)
unfolding parts_writer
keeps_parts t parts = keeps_all (part_writer t) (keeps_part t) parts
