-- What is counted and written of a stretch by the tables that are derived from an accepted model is what the definitions say. Assumes nothing.
use Prim.Native.Nat.{ℕ, ◌+◌, ◌<◌, min}
use native.Mathlib.Omega.{arith}
use mathlib.Core.Path.{◌≡◌, refl, sym, ap, ap₂, ◌∙◌, fun_ext, subst}
use mathlib.Core.Bool.{Bool, true, false, cond}
use mathlib.Core.Logic.{⊎_elim}
use mathlib.Core.List.{List, [], ◌∷◌, ◌++◌, map, map-append}
use borrow.Author.Tests.{ltb-true, ltb-false}
use lib.Dec.{ltb}
use lib.ListN.{length, length-append, length-map, get_or-append, get_or-eq_default}
use lib.Seq.{get_or-append-add}
use Rattle.utf8.specs.Lists.{join, join_map, count, sum, filter, below}
use Rattle.utf8.specs.Chars.{chars}
use Rattle.utf8.proofs.Tests.{either}
use Rattle.utf8.proofs.Places.{length-between}
use Rattle.utf8.proofs.Joins.{join_map-append}
use Rattle.model.specs.Model.{Model, pieces_of, row_of, merge_rows}
use Rattle.model.specs.Mark.{mark}
use Rattle.model.specs.Check.{check_number}
use Rattle.model.proofs.Accepted.{Accepted, accepted}
use Rattle.units.specs.Kinds.{kind_of}
use Rattle.units.specs.Units.{cut, begins_unit, units}
use Rattle.units.specs.Adjacency.{adjacency}
use Rattle.units.specs.inner.Read.{pair_noted, named_crossings}
use Rattle.units.specs.Derived.{noting}
use Rattle.units.specs.inner.Next.{units_from}
use Rattle.units.proofs.AdjacencyLaws.{Small}
use Rattle.units.proofs.NextLaws.{units-start}
use Rattle.units.proofs.UnitLaws.{units-join, units-chars}
use Rattle.units.proofs.DerivedLaws.{piece_sizes_fine, accepted_sizes, cut_derived}
use Rattle.merge.specs.Start.{vocabulary_of, starting_ids, is_dropped, as_mark, unit_chars, with_virtual_mark}
use Rattle.merge.specs.Merge.{merged}
use Rattle.merge.specs.inner.Laid.{Laid, marked_chars, unit_laid, unit_symbols}
use Rattle.merge.specs.inner.Turns.{merged_front}
use Rattle.merge.specs.declared.Symbols.{Symbols}
use Rattle.merge.proofs.ModelLaws.{own_by, row_by, front_by_model, laid_by_model, symbols_by_model}
use Rattle.sections.specs.Sections.{plain}
use Rattle.stretches.specs.Stretches.{Stretch, stretch_units, unit_ids, ids_of, starts_of, drops_of}
use Rattle.stretches.specs.inner.Writers.{Writer, merging, unit_writer, unit_writers, stretch_writer}
use Rattle.stretches.proofs.WriterLaws.{keeps_merging, Fits, fits_merging, each, fits_all}

-- ---- the characters of a stretch, whatever its units

marked_join : (virtual : Bool) (us : List (List (List ℕ))) → 0 < length us → join (with_virtual_mark virtual us) ≡ cond virtual (mark ∷ join us) (join us)
unfolding with_virtual_mark
marked_join virtual [] h = absurd (omega arith)
marked_join true (u ∷ us) h = refl
marked_join false (u ∷ us) h = refl

pub chars-join : (raw : Bool) (us : List (List ℕ)) → join (map (unit_chars raw) us) ≡ map (as_mark raw) (join_map chars us)
unfolding unit_chars
chars-join raw [] = refl
chars-join raw (u ∷ us) = ap {B = List (List ℕ)} (λ l. map (as_mark raw) (chars u) ++ l) (chars-join raw us) ∙ sym (map-append (as_mark raw) (chars u) (join_map chars us))

some-unit : (m : Model) (raw : Bool) (bytes : List ℕ) → 0 < length (units m raw bytes)
unfolding units
some-unit m raw bytes =
    let inner = filter (cut m raw bytes) (below (length bytes)) in
    omega (arith, length-between (0 ∷ inner ++ (length bytes ∷ [])) bytes, length-append inner (length bytes ∷ []))

module _ (m : Model) (s : Stretch) where
  pub stretch-chars : join (stretch_units m s) ≡ marked_chars s.virtual s.raw s.bytes
  unfolding stretch_units marked_chars unit_chars
  stretch-chars =
      let us = units m s.raw s.bytes in
      let some : 0 < length (map (unit_chars s.raw) us) = omega (arith, length-map us (unit_chars s.raw), some-unit m s.raw s.bytes) in
      let all : join (map (unit_chars s.raw) us) ≡ map (as_mark s.raw) (chars s.bytes) = chars-join s.raw us ∙ ap (map (as_mark s.raw)) (units-chars m s.raw s.bytes) in
      marked_join s.virtual (map (unit_chars s.raw) us) some ∙ ap (λ (l : List (List ℕ)). cond s.virtual (mark ∷ l) l) all

  pub starts_is : starts_of m (plain s) ≡ length (join_map (starting_ids (vocabulary_of m)) (marked_chars s.virtual s.raw s.bytes))
  unfolding starts_of
  starts_is = ap (λ (l : List (List ℕ)). length (join_map (starting_ids (vocabulary_of m)) l)) stretch-chars

  pub drops-is : drops_of m (plain s) ≡ count (is_dropped (vocabulary_of m)) (marked_chars s.virtual s.raw s.bytes)
  unfolding drops_of
  drops-is = ap (count (is_dropped (vocabulary_of m))) stretch-chars

  -- The count of a stretch as a whole is that of its units.
  pub stretch-counted : (ok : Accepted m) → Small s.bytes → (room : ℕ)
      → ◌≡◌ {A = Symbols} (unit_symbols (own_by m ok) m.fallback (marked_chars s.virtual s.raw s.bytes) room) (record { count = min (starts_of m (plain s)) room; drops = drops_of m (plain s) })
  stretch-counted ok small room = symbols_by_model m ok s.virtual s.raw s.bytes small room ∙ rw (starts_is, drops-is)

-- ---- units of bytes

module _ (a b : List ℕ) (small : Small (a ++ b)) where
  small-first : Small a
  small-first i =
      ⊎_elim (λ t. subst (λ (n : ℕ). n < 256) (get_or-append a b 0 i (ltb-true i (length a) t)) (small i))
      (λ t. rw (get_or-eq_default a 0 {n = i} (ltb-false i (length a) t)) (omega arith))
      (either (ltb i (length a)))

  small_rest : Small b
  small_rest i = subst (λ (n : ℕ). n < 256) (get_or-append-add a b i 0) (small (length a + i))

-- ---- the writers by the model

module _ (m : Model) (ok : Accepted m) where
  -- The writer of a unit's characters that the definitions mean.
  abbrev pub meant_writer : List (List ℕ) → Writer
  meant_writer cs = merging (row_of (merge_rows m)) (join_map (starting_ids (vocabulary_of m)) cs)

  module _ (raw : Bool) where
    writer_meant : (virtual : Bool) (unit : List ℕ) → Small unit → unit_writer (row_by m ok) (own_by m ok) m.fallback (marked_chars virtual raw unit) ≡ meant_writer (marked_chars virtual raw unit)
    unfolding unit_writer merging unit_laid
    writer_meant virtual unit small =
        fun_ext (λ (out : List ℕ). ap (λ (l : Laid). merged_front (row_by m ok) l.symbols.count l.out) (laid_by_model m ok virtual raw unit small out) ∙ front_by_model m ok _ _)

    others_meant : (us : List (List ℕ)) → Small (join us) → map (unit_writer (row_by m ok) (own_by m ok) m.fallback) (map (unit_chars raw) us) ≡ map meant_writer (map (unit_chars raw) us)
    unfolding marked_chars
    others_meant [] small = refl
    others_meant (u ∷ us) small = ap₂ {C = List Writer} ◌∷◌ (writer_meant false u (small-first u (join us) small)) (others_meant us (small_rest u (join us) small))

    units_meant : (virtual : Bool) (us : List (List ℕ)) → Small (join us)
        → unit_writers (row_by m ok) (own_by m ok) m.fallback virtual raw us ≡ map meant_writer (with_virtual_mark virtual (map (unit_chars raw) us))
    unfolding unit_writers with_virtual_mark marked_chars
    units_meant virtual [] small = refl
    units_meant virtual (u ∷ us) small = ap₂ {C = List Writer} ◌∷◌ (writer_meant virtual u (small-first u (join us) small)) (others_meant us (small_rest u (join us) small))

-- The starting ids of units need as many cells as those of all their characters.
sum_starts : (f : List ℕ → List ℕ) (us : List (List (List ℕ))) → sum (map (λ (cs : List (List ℕ)). length (join_map f cs)) us) ≡ length (join_map f (join us))
sum_starts f [] = refl
sum_starts f (u ∷ us) = omega (arith, sum_starts f us, ap length (join_map-append f u (join us)), length-append (join_map f u) (join_map f (join us)))

module _ (m : Model) (fine : check_number m ≡ 0) where
  abbrev ok : Accepted m
  ok = accepted m fine

  -- Where a unit starts, by what is derived from the model.
  abbrev pub cuts_by : Bool → List ℕ → ℕ → Bool
  cuts_by raw bytes =
      begins_unit (kind_of m) (named_crossings (pieces_of m) (noting (pieces_of m) (kind_of m)).noted (noting (pieces_of m) (kind_of m)).count) (pair_noted (adjacency (pieces_of m))) raw bytes

  units_derived : (raw : Bool) (bytes : List ℕ) → Small bytes → units_from (cuts_by raw bytes) bytes 0 ≡ units m raw bytes
  units_derived raw bytes small =
      ap (λ (cuts : ℕ → Bool). units_from cuts bytes 0) (fun_ext (cut_derived m (piece_sizes_fine m (accepted_sizes m fine)) raw bytes small)) ∙ sym (units-start m raw bytes)

  -- A stretch's ids are written where there is room for its starting ids.
  pub stretch_fits : (s : Stretch) → Small s.bytes
      → Fits (stretch_writer (row_by m ok) (own_by m ok) m.fallback (cuts_by s.raw s.bytes) s.virtual s.raw s.bytes) (ids_of m (plain s)) (starts_of m (plain s))
  unfolding stretch_writer ids_of starts_of stretch_units unit_ids
  stretch_fits s small =
      let us = units m s.raw s.bytes in
      let all = with_virtual_mark s.virtual (map (unit_chars s.raw) us) in
      let starts : List (List ℕ) → List ℕ = λ cs. join_map (starting_ids (vocabulary_of m)) cs in
      let row = row_of (merge_rows m) in
      let joined : Small (join us) = subst Small (sym (units-join m s.raw s.bytes)) small in
      let fits =
      fits_all (meant_writer m ok) (λ (cs : List (List ℕ)). merged row (starts cs)) (λ (cs : List (List ℕ)). length (starts cs)) (λ cs. keeps_merging row (starts cs)) all (each (λ cs. fits_merging row (starts cs)) all) in
      rw (units_derived s.raw s.bytes small, units_meant m ok s.raw s.virtual us joined) (rw (sum_starts (starting_ids (vocabulary_of m)) all) at fits)
