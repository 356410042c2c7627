-- Units never change the ids: the statements of specs/UnitsKeepIds.antt. Assumes nothing.
use Prim.Native.Nat.{ℕ}
use native.Mathlib.Omega.{arith}
use mathlib.Core.Path.{◌≡◌, refl, sym, ap, ap₂, ◌∙◌, subst}
use mathlib.Core.Bool.{Bool, true, false, cond, ◌||◌}
use mathlib.Core.List.{List, [], ◌∷◌, ◌++◌, map, append-nil, map-append}
use lib.ListN.{length}
use lib.Seq.{slice}
use Rattle.utf8.specs.Lists.{any, filter, join, join_map, sum, below, between}
use Rattle.utf8.specs.Chars.{chars}
use Rattle.utf8.proofs.Tests.{clash, or_left, or_right}
use Rattle.utf8.proofs.Lists.{join-append}
use Rattle.utf8.proofs.Places.{any_append}
use Rattle.utf8.proofs.Elements.{count_none}
use Rattle.model.specs.Model.{Model, piece, pieces_of, row_of, merge_rows}
use Rattle.model.specs.Mark.{mark}
use Rattle.model.proofs.Accepted.{Accepted, accepted}
use Rattle.model.proofs.ReachLaws.{StringsApart}
use Rattle.units.specs.Kinds.{kind_of}
use Rattle.units.specs.Units.{cut, units}
use Rattle.units.specs.declared.WordSplit.{WordSplit}
use Rattle.units.specs.declared.WordSplit.TheVariants.{SpaceRuns, EveryMark, None}
use Rattle.units.proofs.UnitLaws.{spelled_units, units-chars, units-apart}
use Rattle.units.proofs.GroupLaws.{Groups, end, group, every_mark_groups}
use Rattle.merge.specs.Start.{vocabulary_of, starting_ids, is_dropped, unit_chars, with_virtual_mark}
use Rattle.merge.specs.Merge.{merged}
use Rattle.merge.proofs.PieceLaws.{chars-merge, chars-spell}
use Rattle.sections.specs.Sections.{Item, token, plain}
use Rattle.stretches.specs.Stretches.{Stretch, stretch_units, unit_ids, ids_of, drops_of}
use Rattle.encode.specs.Parts.{parts}
use Rattle.encode.specs.Encode.{encoded_ids, drops}
use Rattle.theorems.specs.UnitsKeepIds.{all_chars, unsplit_ids, mark_sections, sections_of, unit_starts, shown_bytes, UnitsKeepIds, part_ids, EncodedUnsplit}
use Rattle.theorems.proofs.SpelledLaws.{strings_of, chars_of, all-chars-shown, chars-all-some}
use Rattle.theorems.proofs.RunLaws.{run-ended}

-- The ids of units that are given as their characters, each merged by itself.
abbrev apart_ids : Model → List (List (List ℕ)) → List ℕ
apart_ids m us = join (map (merged (row_of (merge_rows m))) (map (join_map (starting_ids (vocabulary_of m))) us))

apart-append : (m : Model) (us vs : List (List (List ℕ))) → apart_ids m (us ++ vs) ≡ apart_ids m us ++ apart_ids m vs
apart-append m us vs =
    let mg = merged (row_of (merge_rows m)) in
    let f = join_map (starting_ids (vocabulary_of m)) in
    ap (λ (l : List (List ℕ)). join (map mg l)) (map-append f us vs)
    ∙ ap join (map-append mg (map f us) (map f vs))
    ∙ join-append (map mg (map f us)) (map mg (map f vs))

-- There is at least one unit.
record Some (us : List (List ℕ)) : Type 0 where
  unit : List ℕ
  others : List (List ℕ)
  whole : us ≡ unit ∷ others

some-unit : (m : Model) (raw : Bool) (section : List ℕ) → Some (units m raw section)
unfolding units
some-unit m raw section = go (filter (cut m raw section) (below (length section)))
  where
    go : (places : List ℕ) → Some (between (0 ∷ places ++ (length section ∷ [])) section)
    go [] = record { unit = slice 0 (length section) section; others = []; whole = refl }
    go (p ∷ places) = record { unit = slice 0 p section; others = between (p ∷ places ++ (length section ∷ [])) section; whole = refl }

is_every : WordSplit → Bool
is_every SpaceRuns = false
is_every EveryMark = true
is_every None = false

-- The characters of the units are those of the stretch.
stretch-chars : (m : Model) (s : Stretch) → join (stretch_units m s) ≡ all_chars s
unfolding stretch_units
stretch-chars m s =
    let u = some-unit m s.raw s.bytes in
    ap (λ (us : List (List ℕ)). join (with_virtual_mark s.virtual (map (unit_chars s.raw) us))) u.whole
    ∙ chars_of s.raw s.virtual u.unit u.others s.bytes (ap (join_map chars) (sym u.whole) ∙ units-chars m s.raw s.bytes)

module _ (m : Model) (ok : Accepted m) where
  -- A row of units that has the characters of a part, over whose borders no piece reaches.
  row_alike : (raw virtual : Bool) (unit : List ℕ) (us : List (List ℕ)) (part : List ℕ) → join_map chars (unit ∷ us) ≡ chars part
      → StringsApart (pieces_of m) (spelled_units raw virtual (unit ∷ us))
      → any (is_dropped (vocabulary_of m)) (join (with_virtual_mark virtual (map (unit_chars raw) (unit ∷ us)))) ≡ false
      → apart_ids m (with_virtual_mark virtual (map (unit_chars raw) (unit ∷ us))) ≡ unsplit_ids m (record { bytes = part; virtual = virtual; raw = raw })
  unfolding unsplit_ids
  row_alike raw virtual unit us part e apart undropped =
      sym (chars-merge m ok (with_virtual_mark virtual (map (unit_chars raw) (unit ∷ us))) (chars-all-some raw virtual (unit ∷ us)) undropped
      (subst (StringsApart (pieces_of m)) (sym (strings_of raw virtual (unit ∷ us))) apart))
      ∙ ap (λ (cs : List (List ℕ)). merged (row_of (merge_rows m)) (join_map (starting_ids (vocabulary_of m)) cs)) (chars_of raw virtual unit us part e)

  -- Rows of units that make up parts.
  groups_alike : (raw : Bool) {us ps : List (List ℕ)} → Groups (pieces_of m) raw us ps → any (is_dropped (vocabulary_of m)) (join (map (unit_chars raw) us)) ≡ false
      → apart_ids m (map (unit_chars raw) us) ≡ join_map (unsplit_ids m) (map (λ (b : List ℕ). record { bytes = b; virtual = false; raw = raw }) ps)
  unfolding with_virtual_mark
  groups_alike raw end undropped = refl
  groups_alike raw (group unit us rest part others e apart after) undropped =
      let whole : map (unit_chars raw) (unit ∷ (us ++ rest)) ≡ map (unit_chars raw) (unit ∷ us) ++ map (unit_chars raw) rest = map-append (unit_chars raw) (unit ∷ us) rest in
      let dropped = any (is_dropped (vocabulary_of m)) in
      let mine = map (unit_chars raw) (unit ∷ us) in
      let theirs = map (unit_chars raw) rest in
      let both : (dropped (join mine) || dropped (join theirs)) ≡ false =
      sym (any_append (is_dropped (vocabulary_of m)) (join mine) (join theirs)) ∙ ap dropped (sym (join-append mine theirs) ∙ ap join (sym whole)) ∙ undropped in
      ap (apart_ids m) whole
      ∙ apart-append m mine theirs
      ∙ ap₂ {C = List ℕ} ◌++◌ (row_alike raw false unit us part e apart (or_left (dropped (join mine)) (dropped (join theirs)) both)) (groups_alike raw after (or_right (dropped (join mine)) (dropped (join theirs)) both))

  module _ (s : Stretch) (undropped : any (is_dropped (vocabulary_of m)) (all_chars s) ≡ false) where
    -- A stretch that is one section.
    one_alike : is_every (kind_of m) ≡ false → apart_ids m (stretch_units m s) ≡ unsplit_ids m s
    unfolding stretch_units is_every
    one_alike other =
        let u = some-unit m s.raw s.bytes in
        let whole : stretch_units m s ≡ with_virtual_mark s.virtual (map (unit_chars s.raw) (u.unit ∷ u.others)) =
        ap (λ (us : List (List ℕ)). with_virtual_mark s.virtual (map (unit_chars s.raw) us)) u.whole in
        ap (apart_ids m) whole
        ∙ row_alike s.raw s.virtual u.unit u.others s.bytes (ap (join_map chars) (sym u.whole) ∙ units-chars m s.raw s.bytes)
        (subst (λ (us : List (List ℕ)). StringsApart (pieces_of m) (spelled_units s.raw s.virtual us)) u.whole
        (units-apart m s.raw s.bytes ok.pieces (λ k. clash other (ap is_every k)) s.virtual))
        (ap (any (is_dropped (vocabulary_of m))) (ap join (sym whole) ∙ stretch-chars m s) ∙ undropped)

    -- The stretches from mark to mark.
    marks_alike : kind_of m ≡ EveryMark → apart_ids m (stretch_units m s) ≡ join_map (unsplit_ids m) (sections_of EveryMark s)
    unfolding stretch_units with_virtual_mark sections_of mark_sections
    marks_alike k =
        let g = every_mark_groups m s.raw s.bytes k s.virtual in
        let chars-from = map (unit_chars s.raw) in
        let mine = with_virtual_mark s.virtual (chars-from (g.unit ∷ g.us)) in
        let theirs = chars-from g.rest in
        let whole : stretch_units m s ≡ mine ++ theirs =
        ap (λ (us : List (List ℕ)). with_virtual_mark s.virtual (chars-from us)) g.units_are
        ∙ ap {B = List (List (List ℕ))} (λ l. cond s.virtual (mark ∷ unit_chars s.raw g.unit) (unit_chars s.raw g.unit) ∷ l) (map-append (unit_chars s.raw) g.us g.rest) in
        let dropped = any (is_dropped (vocabulary_of m)) in
        let both : (dropped (join mine) || dropped (join theirs)) ≡ false =
        sym (any_append (is_dropped (vocabulary_of m)) (join mine) (join theirs)) ∙ ap dropped (sym (join-append mine theirs) ∙ ap join (sym whole) ∙ stretch-chars m s) ∙ undropped in
        ap (apart_ids m) whole
        ∙ apart-append m mine theirs
        ∙ ap₂ {C = List ℕ} ◌++◌
        (row_alike s.raw s.virtual g.unit g.us g.part g.chars_are g.apart (or_left (dropped (join mine)) (dropped (join theirs)) both))
        (groups_alike s.raw g.after (or_right (dropped (join mine)) (dropped (join theirs)) both))
        ∙ ap (λ (ps : List (List ℕ)). join_map (unsplit_ids m) (mark_sections s.raw s.virtual ps)) (sym g.parts_are)

    -- The units of a stretch merged apart have the ids of its sections unsplit.
    stretch_alike : apart_ids m (stretch_units m s) ≡ join_map (unsplit_ids m) (sections_of (kind_of m) s)
    unfolding sections_of is_every
    stretch_alike = go (kind_of m) refl
      where
        go : (k : WordSplit) → kind_of m ≡ k → apart_ids m (stretch_units m s) ≡ join_map (unsplit_ids m) (sections_of k s)
        go SpaceRuns k = one_alike (ap is_every k) ∙ sym (append-nil (unsplit_ids m s))
        go None k = one_alike (ap is_every k) ∙ sym (append-nil (unsplit_ids m s))
        go EveryMark k = marks_alike k

    -- Their pieces joined spell the stretch.
    stretch_spells : join_map (piece (pieces_of m)) (apart_ids m (stretch_units m s)) ≡ shown_bytes s
    unfolding shown_bytes stretch_units
    stretch_spells =
        chars-spell m ok (stretch_units m s) (chars-all-some s.raw s.virtual (units m s.raw s.bytes)) (ap (any (is_dropped (vocabulary_of m))) (stretch-chars m s) ∙ undropped)
        ∙ ap join (stretch-chars m s)
        ∙ all-chars-shown s

pub units_keep_ids : UnitsKeepIds
unfolding unit_starts
units_keep_ids m s fine undropped us run ended =
    let ok = accepted m fine in
    let is : join us ≡ apart_ids m (stretch_units m s) = ap join (run-ended m (unit_starts m s) us run ended) in
    (is ∙ stretch_alike m ok s undropped, ap (join_map (piece (pieces_of m))) is ∙ stretch_spells m ok s undropped)

-- ---- encoding

unit-ids : (m : Model) (us : List (List (List ℕ))) → join_map (unit_ids m) us ≡ apart_ids m us
unfolding unit_ids
unit-ids m [] = refl
unit-ids m (unit ∷ us) = ap (λ (l : List ℕ). unit_ids m unit ++ l) (unit-ids m us)

part_alike : (m : Model) → Accepted m → (part : Item Stretch) → drops_of m part ≡ 0 → ids_of m part ≡ part_ids m part
unfolding ids_of part_ids drops_of
part_alike m ok (token id) e = refl
part_alike m ok (plain s) e =
    unit-ids m (stretch_units m s)
    ∙ stretch_alike m ok s (ap (any (is_dropped (vocabulary_of m))) (sym (stretch-chars m s)) ∙ count_none (is_dropped (vocabulary_of m)) (join (stretch_units m s)) e)

parts_alike : (m : Model) → Accepted m → (ps : List (Item Stretch)) → sum (map (drops_of m) ps) ≡ 0 → join_map (ids_of m) ps ≡ join_map (part_ids m) ps
parts_alike m ok [] e = refl
parts_alike m ok (p ∷ ps) e =
    ap₂ {C = List ℕ} ◌++◌ (part_alike m ok p (omega arith)) (parts_alike m ok ps (omega arith))

pub encoded-unsplit : EncodedUnsplit
unfolding encoded_ids drops
encoded-unsplit m continuation text fine none = parts_alike m (accepted m fine) (parts m continuation text) none
