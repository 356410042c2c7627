-- Each hypothesis of UnitsKeepIds is needed: examples in which all others hold and its conclusion does not, computed in one list.
use Rattle.std.specs.Prelude.{ℕ, ◌≡◌, refl, Bool, true, false, not, cond, ◌&&◌, ◌||◌, List, [], ◌∷◌, ◌++◌, map, eqb, length, replicate}
use Rattle.utf8.specs.Lists.{all, any, filter, join_map, same, below, between}
use Rattle.model.specs.Model.{Model, model_of, no_id, piece, pieces_of}
use Rattle.model.specs.Check.{check_number}
use Rattle.units.specs.Kinds.{crossings, kind_of}
use Rattle.units.specs.Units.{holds_pair, begins_unit}
use Rattle.units.specs.declared.WordSplit.{WordSplit}
use Rattle.units.specs.declared.WordSplit.TheVariants.{SpaceRuns, EveryMark, None}
use Rattle.merge.specs.Start.{vocabulary_of, is_dropped, unit_chars, with_virtual_mark}
use Rattle.stretches.specs.Stretches.{Stretch, unit_ids}
use Rattle.theorems.specs.Cases.{agrees}
use Rattle.theorems.specs.Toys.{T, U, always, no_tokens, no_steps, toy_fallback}
use Rattle.theorems.specs.UnitsKeepIds.{all_chars, unsplit_ids, mark_sections, sections_of, shown_bytes}

-- The ids of units that are cut as a kind says, each unit merged by itself.
unfoldable pub apart_by : WordSplit → Model → Stretch → List ℕ
apart_by kind m s =
    let places = filter (begins_unit kind (crossings (pieces_of m)) (holds_pair (pieces_of m)) s.raw s.bytes) (below (length s.bytes)) in
    join_map (unit_ids m) (with_virtual_mark s.virtual (map (unit_chars s.raw) (between (0 ∷ places ++ (length s.bytes ∷ [])) s.bytes)))

unfoldable pub same_kind : WordSplit → WordSplit → Bool
same_kind SpaceRuns SpaceRuns = true
same_kind SpaceRuns EveryMark = false
same_kind SpaceRuns None = false
same_kind EveryMark SpaceRuns = false
same_kind EveryMark EveryMark = true
same_kind EveryMark None = false
same_kind None SpaceRuns = false
same_kind None EveryMark = false
same_kind None None = true

-- A model with its kind and what check answers, a raw stretch, whether something of it is dropped; the kinds by which it is cut into
-- units and into what is merged unsplit, and the ids of both.
pub record Example : Type 0 where
  pub model : Model
  pub kind : WordSplit
  pub number : ℕ
  pub bytes : List ℕ
  pub virtual : Bool
  pub dropped : Bool
  pub units_by : WordSplit
  pub sections_by : WordSplit
  pub apart : List ℕ
  pub unsplit : List ℕ

-- The example is as it says.
unfoldable pub is_so : Example → Bool
is_so e =
    let s : Stretch = record { bytes = e.bytes; virtual = e.virtual; raw = true } in
    same_kind (kind_of e.model) e.kind
    && eqb (check_number e.model) e.number
    && (let some = any (is_dropped (vocabulary_of e.model)) (all_chars s) in cond e.dropped some (not some))
    && same (apart_by e.units_by e.model s) e.apart
    && same (join_map (unsplit_ids e.model) (sections_of e.sections_by s)) e.unsplit

-- The ids differ, or do not spell the stretch.
unfoldable pub fails_in : Example → Bool
fails_in e =
    let s : Stretch = record { bytes = e.bytes; virtual = e.virtual; raw = true } in
    not (same e.apart e.unsplit) || not (same (join_map (piece (pieces_of e.model)) e.apart) (shown_bytes s))

unfoldable pub no_fallback : List ℕ
no_fallback = replicate 256 no_id

-- One piece, `a`: the mark is not spelled.
unfoldable pub unmarked : Model
unmarked =
    model_of (0x61 ∷ []) (0 ∷ 1 ∷ []) (0 ∷ []) no_fallback [] [] [] [] no_tokens no_tokens [] no_steps 0 (always false)

-- T with a piece that is no text: 8 = A9 and the mark, row (7,0)->8 rank 0.
unfoldable pub not_text : Model
not_text =
    model_of (T.piece_bytes ++ (0xA9 ∷ 0xE2 ∷ 0x96 ∷ 0x81 ∷ [])) (T.piece_offsets ++ (18 ∷ [])) (5 ∷ 1 ∷ 3 ∷ 2 ∷ 7 ∷ 8 ∷ 6 ∷ 0 ∷ 4 ∷ []) toy_fallback
    (0 ∷ 1 ∷ 7 ∷ []) (1 ∷ 2 ∷ 0 ∷ []) (4 ∷ 3 ∷ 8 ∷ []) (1 ∷ 0 ∷ 0 ∷ []) no_tokens no_tokens [] no_steps 0 (always false)

-- A crossing piece with a mark behind its mark: 0 mark, 1 `a`, 2 `b`, 3 mark+`a`, 4 two marks+`a`, 5 `b`+two marks+`a`.
unfoldable pub tangled : Model
tangled =
    model_of (0xE2 ∷ 0x96 ∷ 0x81 ∷ 0x61 ∷ 0x62 ∷ 0xE2 ∷ 0x96 ∷ 0x81 ∷ 0x61 ∷ 0xE2 ∷ 0x96 ∷ 0x81 ∷ 0xE2 ∷ 0x96 ∷ 0x81 ∷ 0x61 ∷ 0x62 ∷ 0xE2 ∷ 0x96 ∷ 0x81 ∷ 0xE2 ∷ 0x96 ∷ 0x81 ∷ 0x61 ∷ [])
    (0 ∷ 3 ∷ 4 ∷ 5 ∷ 9 ∷ 16 ∷ 24 ∷ []) (1 ∷ 2 ∷ 5 ∷ 0 ∷ 3 ∷ 4 ∷ []) no_fallback
    (0 ∷ 0 ∷ 2 ∷ []) (1 ∷ 3 ∷ 4 ∷ []) (3 ∷ 4 ∷ 5 ∷ []) (0 ∷ 1 ∷ 2 ∷ []) no_tokens no_tokens [] no_steps 0 (always false)

-- U with split: EveryMark.
unfoldable pub split : Model
split =
    model_of U.piece_bytes U.piece_offsets U.lookup toy_fallback U.left U.right U.result U.rank no_tokens no_tokens [] no_steps 0 (always true)

unfoldable pub example : Model → WordSplit → ℕ → List ℕ → Bool → Bool → WordSplit → WordSplit → List ℕ → List ℕ → Example
example m kind number bytes virtual dropped units_by sections_by apart unsplit =
    record {
      model = m;
      kind = kind;
      number = number;
      bytes = bytes;
      virtual = virtual;
      dropped = dropped;
      units_by = units_by;
      sections_by = sections_by;
      apart = apart;
      unsplit = unsplit;
    }

-- Nothing dropped: `bc a`, where U has no `c`. The virtual mark not dropped. An accepted model: `é a` with a piece that 3 refuses. The
-- model's own kind: `b  a` cut as SpaceRuns, where it is None. From mark to mark: `b a` of EveryMark as one section.
unfoldable pub needed : List Example
needed =
    example U SpaceRuns 0 (0x62 ∷ 0x63 ∷ 0x20 ∷ 0x61 ∷ []) true true SpaceRuns SpaceRuns (0 ∷ 2 ∷ 4 ∷ []) (0 ∷ 8 ∷ [])
    ∷ example unmarked SpaceRuns 0 (0x61 ∷ []) true true SpaceRuns SpaceRuns (0 ∷ []) (0 ∷ [])
    ∷ example not_text SpaceRuns 3 (0xC3 ∷ 0xA9 ∷ 0x20 ∷ 0x61 ∷ []) true false SpaceRuns SpaceRuns (0 ∷ 6 ∷ 7 ∷ 4 ∷ []) (0 ∷ 6 ∷ 8 ∷ 1 ∷ [])
    ∷ example tangled None 0 (0x62 ∷ 0x20 ∷ 0x20 ∷ 0x61 ∷ []) false false SpaceRuns SpaceRuns (2 ∷ 4 ∷ []) (5 ∷ [])
    ∷ example split EveryMark 0 (0x62 ∷ 0x20 ∷ 0x61 ∷ []) true false EveryMark SpaceRuns (0 ∷ 2 ∷ 4 ∷ []) (0 ∷ 8 ∷ [])
    ∷ []

pub needed_hold : all (λ (e : Example). is_so e && fails_in e) needed ≡ true
unfolding agrees T U no_tokens no_steps toy_fallback all_chars unsplit_ids mark_sections sections_of shown_bytes apart_by same_kind is_so fails_in no_fallback unmarked not_text tangled split example needed
needed_hold = refl

-- With every hypothesis the same examples and some more agree: `b a` and `ab.a` of U, `b  a` as the kind None says, `b a` from mark to mark.
unfoldable pub kept : List Example
kept =
    example U SpaceRuns 0 (0x62 ∷ 0x20 ∷ 0x61 ∷ []) true false SpaceRuns SpaceRuns (0 ∷ 8 ∷ []) (0 ∷ 8 ∷ [])
    ∷ example U SpaceRuns 0 (0x61 ∷ 0x62 ∷ 0x2E ∷ 0x61 ∷ []) false false SpaceRuns SpaceRuns (3 ∷ 5 ∷ 1 ∷ []) (3 ∷ 5 ∷ 1 ∷ [])
    ∷ example tangled None 0 (0x62 ∷ 0x20 ∷ 0x20 ∷ 0x61 ∷ []) false false None None (5 ∷ []) (5 ∷ [])
    ∷ example split EveryMark 0 (0x62 ∷ 0x20 ∷ 0x61 ∷ []) true false EveryMark EveryMark (0 ∷ 2 ∷ 4 ∷ []) (0 ∷ 2 ∷ 4 ∷ [])
    ∷ []

pub kept_hold : all (λ (e : Example). is_so e && not (fails_in e)) kept ≡ true
unfolding agrees T U no_tokens no_steps toy_fallback all_chars unsplit_ids mark_sections sections_of shown_bytes apart_by same_kind is_so fails_in no_fallback unmarked not_text tangled split example kept
kept_hold = refl
