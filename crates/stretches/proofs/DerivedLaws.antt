-- What the passes find by the rows that are derived of an accepted model is what the model says. Assumes nothing.
use Rattle.std.specs.Prelude.{Option}
use Prim.Native.Nat.{ℕ, ◌+◌, min}
use native.Mathlib.Omega.{arith}
use mathlib.Core.Path.{◌≡◌, refl, sym, ap, ap₂, ◌∙◌, subst}
use mathlib.Core.Bool.{Bool}
use mathlib.Core.List.{List, [], ◌∷◌, map}
use lib.ListN.{length}
use lib.Seq.{slice}
use Rattle.utf8.specs.Lists.{join_map, sum}
use Rattle.utf8.proofs.Places.{slice_of}
use Rattle.model.specs.Model.{Model, Row, pieces_of}
use Rattle.model.specs.Check.{check_number}
use Rattle.model.proofs.Accepted.{Accepted, accepted}
use Rattle.units.specs.Kinds.{Crossing}
use Rattle.units.specs.Units.{begins_unit}
use Rattle.units.specs.inner.Read.{pair_noted, named_crossings}
use Rattle.units.specs.declared.WordSplit.{WordSplit}
use Rattle.units.proofs.AdjacencyLaws.{Small}
use Rattle.merge.specs.Start.{starting_ids_by}
use Rattle.merge.specs.inner.Laid.{own_found, marked_chars, unit_symbols}
use Rattle.merge.specs.inner.Turns.{row_in}
use Rattle.merge.specs.declared.Symbols.{Symbols}
use Rattle.merge.proofs.Laying.{laid_fits}
use Rattle.merge.proofs.ModelLaws.{own_by, row_by}
use Rattle.prepare.specs.Prepare.{derived_adjacency, derived_index}
use Rattle.prepare.proofs.ReadLaws.{kind-read, count-read, crossings-at, mark-at, shift_at_lem, piece-index-at, row-index-at}
use Rattle.sections.specs.Sections.{Item, token, plain}
use Rattle.stretches.specs.Stretches.{Stretch, ids_of, starts_of, drops_of, held}
use Rattle.stretches.specs.inner.Writers.{Writer, stretch_writer}
use Rattle.stretches.specs.inner.Tables.{Tables, words, own_in, rows_in, cuts_in, stretch_in}
use Rattle.stretches.specs.inner.Parts.{part_starts, part_drops, parts_symbols, id_writer, part_writer, parts_writer}
use Rattle.stretches.proofs.WriterLaws.{Each, none_left, one_more, Fits, fits_all}
use Rattle.stretches.proofs.PartLaws.{keeps_part}
use Rattle.stretches.proofs.ModelLaws.{cuts_by, stretch-counted, stretch_fits}

-- ---- by the model

-- The columns of a model and two rows.
abbrev pub tables_with : List ℕ → List ℕ → Model → Tables
tables_with adjacency index m = record {
  adjacency = adjacency;
  index = index;
  piece_bytes = m.piece_bytes;
  piece_offsets = m.piece_offsets;
  lookup = m.lookup;
  fallback = m.fallback;
  left = m.left;
  right = m.right;
  result = m.result;
  rank = m.rank;
}

-- What a prepared call is lent.
abbrev pub tables_of : Model → Tables
tables_of m = tables_with (derived_adjacency m) (derived_index m) m

-- ---- parts of bytes

pub data OfBytes : Item Stretch → Type 0 where
  token-fine : {id : ℕ} → OfBytes (token id)
  bytes-fine : {s : Stretch} → Small s.bytes → OfBytes (plain s)

each_map : {A : Type 0} {P Q : A → Type 0} → ((x : A) → P x → Q x) → {xs : List A} → Each P xs → Each Q xs
each_map f none_left = none_left
each_map f (one_more p ps) = one_more (f _ p) (each_map f ps)

sum_alike : {A : Type 0} (f g : A → ℕ) {xs : List A} → Each (λ (x : A). f x ≡ g x) xs → sum (map f xs) ≡ sum (map g xs)
sum_alike f g none_left = refl
sum_alike f g (one_more e es) = omega (arith, e, sum_alike f g es)

fits_id : (id : ℕ) → Fits (id_writer id) (id ∷ []) 1
unfolding id_writer
fits_id id = record {
  few = omega arith;
  count = λ out h. omega arith;
  front = λ out h. rw (laid_fits (id ∷ []) out h);
}

module _ (m : Model) (fine : check_number m ≡ 0) where
  abbrev ok : Accepted m
  ok = accepted m fine

  -- a part of the index, as it is read
  read : (from to : ℕ) {part : List ℕ} → slice from to (derived_index m) ≡ part → words from to (derived_index m) ≡ part
  read from to e = slice_of from to (derived_index m) ∙ e

  pub own_derived : own_in (tables_of m) ≡ own_by m ok
  unfolding own_in
  own_derived = ap₂ (own_found m.piece_bytes m.piece_offsets m.lookup) (read 69 582 (piece-index-at m)) (mark-at m)

  pub rows_derived : rows_in (tables_of m) ≡ row_by m ok
  unfolding rows_in
  rows_derived = ap₂ (row_in m.left m.right m.result m.rank) (read 582 168519 (row-index-at m)) (shift_at_lem m)

  pub cuts_derived : (raw : Bool) (bytes : List ℕ) → cuts_in (tables_of m) raw bytes ≡ cuts_by m fine raw bytes
  unfolding cuts_in derived_adjacency pieces_of
  cuts_derived raw bytes =
      ap₂ (λ (kind : WordSplit) (named : List Crossing). begins_unit kind named (pair_noted (derived_adjacency m)) raw bytes) (kind-read m)
      (ap₂ (named_crossings (pieces_of m)) (read 3 67 (crossings-at m)) (count-read m))

  starts_meant : {part : Item Stretch} → OfBytes part → part_starts (own_by m ok) m.fallback part ≡ starts_of m part
  unfolding part_starts starts_of unit_symbols
  starts_meant token-fine = refl
  starts_meant (bytes-fine {s} small) =
      let a = length (join_map (starting_ids_by (own_by m ok) m.fallback) (marked_chars s.virtual s.raw s.bytes)) in
      let b = starts_of m (plain s) in
      let e : min a (a + b) ≡ min b (a + b) = ap (λ (x : Symbols). x.count) (stretch-counted m s ok small (a + b)) in
      omega arith

  drops_meant : {part : Item Stretch} → OfBytes part → part_drops (own_by m ok) m.fallback part ≡ drops_of m part
  unfolding part_drops drops_of unit_symbols
  drops_meant token-fine = refl
  drops_meant (bytes-fine {s} small) = ap (λ (x : Symbols). x.drops) (stretch-counted m s ok small 0)

  part_fits : {part : Item Stretch} → OfBytes part → Fits (part_writer (tables_of m) part) (ids_of m part) (starts_of m part)
  unfolding part_writer ids_of starts_of stretch_in
  part_fits (token-fine {id}) = fits_id id
  part_fits (bytes-fine {s} small) =
      subst (λ (w : Writer). Fits w (ids_of m (plain s)) (starts_of m (plain s)))
      (sym (ap₂ (λ (row : ℕ → ℕ → Option Row) (own : List ℕ → Option ℕ). stretch_writer row own m.fallback (cuts_in (tables_of m) s.raw s.bytes) s.virtual s.raw s.bytes) rows_derived own_derived
      ∙ ap (λ (cuts : ℕ → Bool). stretch_writer (row_by m ok) (own_by m ok) m.fallback cuts s.virtual s.raw s.bytes) (cuts_derived s.raw s.bytes)))
      (stretch_fits m fine s small)

  -- The first pass counts what the definitions count,
  pub parts-counted : (parts : List (Item Stretch)) → Each OfBytes parts → (room : ℕ)
      → ◌≡◌ {A = Symbols} (parts_symbols (own_in (tables_of m)) m.fallback parts room) (record { count = min (sum (map (starts_of m) parts)) room; drops = held (sum (map (drops_of m) parts)) })
  unfolding parts_symbols
  parts-counted parts small room =
      rw own_derived
      (rw (sum_alike (part_starts (own_by m ok) m.fallback) (starts_of m) (each_map (λ part fine. starts_meant fine) small), sum_alike (part_drops (own_by m ok) m.fallback) (drops_of m) (each_map (λ part fine. drops_meant fine) small)))

  -- and the second writes their ids where there is room for that many.
  pub parts-written : (parts : List (Item Stretch)) → Each OfBytes parts → Fits (parts_writer (tables_of m) parts) (join_map (ids_of m) parts) (sum (map (starts_of m) parts))
  unfolding parts_writer
  parts-written parts small = fits_all (part_writer (tables_of m)) (ids_of m) (starts_of m) (keeps_part (tables_of m)) parts (each_map (λ part fine. part_fits fine) small)
