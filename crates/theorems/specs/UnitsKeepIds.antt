-- Units never change the ids: what is promised, and the words it is said in. Proved in proofs/RunLaws.antt and proofs/SameIds.antt.
use Rattle.std.specs.Prelude.{ℕ, suc, ◌≡◌, Bool, false, cond, ◌&&◌, List, [], ◌∷◌, ◌++◌, map, eqb, ltb, length, drop, Some}
use Rattle.utf8.specs.Lists.{any, filter, join, join_map, below, between}
use Rattle.model.specs.Model.{Model, piece, pieces_of, row_of, merge_rows}
use Rattle.model.specs.Mark.{mark, starts_with_mark}
use Rattle.model.specs.Check.{check_number}
use Rattle.units.specs.Kinds.{kind_of}
use Rattle.units.specs.declared.WordSplit.{WordSplit}
use Rattle.units.specs.declared.WordSplit.TheVariants.{SpaceRuns, EveryMark, None}
use Rattle.merge.specs.Start.{vocabulary_of, starting_ids, is_dropped, unit_chars}
use Rattle.merge.specs.Merge.{Candidate, next_merge, merged_at, merged}
use Rattle.sections.specs.Sections.{Item, token, plain}
use Rattle.stretches.specs.Stretches.{Stretch, stretch_units}
use Rattle.encode.specs.Parts.{parts}
use Rattle.encode.specs.Encode.{drops, encoded_ids}

-- The characters of a stretch, with its virtual mark in front, as they are to be spelled. It knows nothing of units.
unfoldable pub all_chars : Stretch → List (List ℕ)
all_chars s = cond s.virtual (mark ∷ unit_chars s.raw s.bytes) (unit_chars s.raw s.bytes)

-- Their starting ids, merged by rank and place over the whole list.
unfoldable pub unsplit_ids : Model → Stretch → List ℕ
unsplit_ids m s = merged (row_of (merge_rows m)) (join_map (starting_ids (vocabulary_of m)) (all_chars s))

-- What is merged unsplit: the stretch as one section; for EveryMark what lies from mark to mark, of which the first has the virtual mark.
unfoldable pub mark_sections : Bool → Bool → List (List ℕ) → List Stretch
mark_sections raw virtual [] = []
mark_sections raw virtual (bytes ∷ others) =
    record { bytes = bytes; virtual = virtual; raw = raw } ∷ map (λ (b : List ℕ). record { bytes = b; virtual = false; raw = raw }) others

unfoldable pub sections_of : WordSplit → Stretch → List Stretch
sections_of SpaceRuns s = s ∷ []
sections_of None s = s ∷ []
sections_of EveryMark s =
    let marks = filter (λ (p : ℕ). ltb 0 p && starts_with_mark s.raw (drop p s.bytes)) (below (length s.bytes)) in
    mark_sections s.raw s.virtual (between (0 ∷ marks ++ (length s.bytes ∷ [])) s.bytes)

-- A turn: some unit does its own next merge, by rank and place within it, and the others stay.
pub record Turn (m : Model) (units after : List (List ℕ)) : Type 0 where
  pub left : List (List ℕ)
  pub unit : List ℕ
  pub right : List (List ℕ)
  pub merge : Candidate
  pub was : units ≡ left ++ unit ∷ right
  pub next : next_merge (row_of (merge_rows m)) unit ≡ Some merge
  pub is : after ≡ left ++ merged_at merge unit ∷ right

-- A run: turns one after the other, in any order. It has ended where no turn is left.
pub data Run (m : Model) : List (List ℕ) → List (List ℕ) → Type 0 where
  stop : {units : List (List ℕ)} → Run m units units
  turn : {units after last : List (List ℕ)} → Turn m units after → Run m after last → Run m units last

abbrev pub Ended : Model → List (List ℕ) → Type 0
Ended m units = (after : List (List ℕ)) → Turn m units after → ⊥

-- The starting ids of each unit of a stretch.
unfoldable pub unit_starts : Model → Stretch → List (List ℕ)
unit_starts m s = map (join_map (starting_ids (vocabulary_of m))) (stretch_units m s)

-- The bytes of a stretch after its virtual mark, each raw space shown as a mark.
unfoldable pub shown_bytes : Stretch → List ℕ
shown_bytes s = cond s.virtual mark [] ++ join_map (λ (b : ℕ). cond (s.raw && eqb b 0x20) mark (b ∷ [])) s.bytes

-- In an accepted model, where no character and no virtual mark is dropped, every run of the units of a stretch that has ended has the ids
-- that its sections have unsplit, and their pieces joined spell the stretch.
abbrev pub UnitsKeepIds : Type 0
UnitsKeepIds =
    (m : Model) (s : Stretch) → check_number m ≡ 0 → any (is_dropped (vocabulary_of m)) (all_chars s) ≡ false
    → (units : List (List ℕ)) → Run m (unit_starts m s) units → Ended m units
    → (join units ≡ join_map (unsplit_ids m) (sections_of (kind_of m) s)) × (join_map (piece (pieces_of m)) (join units) ≡ shown_bytes s)

-- No run goes on for ever, each can be carried on to its end, and merging a unit whole, and so unit after unit in any order, is a run.
abbrev pub RunsEnd : Type 0
RunsEnd =
    (m : Model) → ((at : ℕ → List (List ℕ)) → ((n : ℕ) → Turn m (at n) (at (suc n))) → ⊥)
    × ((units : List (List ℕ)) → (last : List (List ℕ)) × Run m units last × Ended m last)
    × ((left right : List (List ℕ)) (unit : List ℕ) → Run m (left ++ unit ∷ right) (left ++ merged (row_of (merge_rows m)) unit ∷ right))

-- What a part of a text is encoded as: a token's id, or the ids of its sections unsplit.
unfoldable pub part_ids : Model → Item Stretch → List ℕ
part_ids m (token id) = id ∷ []
part_ids m (plain s) = join_map (unsplit_ids m) (sections_of (kind_of m) s)

-- So encoding a text in which nothing is dropped gives these, part by part.
abbrev pub EncodedUnsplit : Type 0
EncodedUnsplit =
    (m : Model) (continuation : Bool) (text : List ℕ) → check_number m ≡ 0 → drops m continuation text ≡ 0
    → encoded_ids m continuation text ≡ join_map (part_ids m) (parts m continuation text)
