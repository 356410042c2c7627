-- Units: where one starts is a property of the place alone.
use Rattle.std.specs.Prelude.{ℕ, ◌+◌, ◌-◌, Bool, false, not, cond, ◌&&◌, ◌||◌, List, [], ◌∷◌, ◌++◌, eqb, ltb, length, get_or, take, drop}
use Rattle.utf8.specs.Lists.{any, filter, neighbours, between, below, starts_with, ends_with}
use Rattle.model.specs.Model.{Model, pieces_of}
use Rattle.model.specs.Mark.{mark_width, starts_with_mark, ends_with_mark}
use Rattle.units.specs.Kinds.{Crossing, crossings, is_none, kind_of}
use Rattle.units.specs.declared.WordSplit.{WordSplit}
use Rattle.units.specs.declared.WordSplit.TheVariants.{SpaceRuns, EveryMark, None}

-- Rule 8.3: some crossing's pre ends where the mark at p begins, and its post begins where the mark ends.
unfoldable pub spanned : List Crossing → Bool → List ℕ → ℕ → Bool
spanned noted raw section p =
    any (λ (c : Crossing). ends_with c.pre (take p section) && starts_with c.post (drop (p + mark_width raw (drop p section)) section)) noted

-- A mark at p begins a unit (rules 8.2, 8.4 and 8.6).
unfoldable pub mark_cuts : WordSplit → List Crossing → Bool → List ℕ → ℕ → Bool
mark_cuts SpaceRuns noted raw section p =
    starts_with_mark raw (drop p section) && not (ends_with_mark raw (take p section)) && not (spanned noted raw section p)
mark_cuts EveryMark noted raw section p = starts_with_mark raw (drop p section)
mark_cuts None noted raw section p = false

-- The eight bytes of rule 8.5: . , " ) ; : ! ?
unfoldable pub punctuation : List ℕ
punctuation = 0x2E ∷ 0x2C ∷ 0x22 ∷ 0x29 ∷ 0x3B ∷ 0x3A ∷ 0x21 ∷ 0x3F ∷ []

-- Some piece holds the byte x directly followed by y.
unfoldable pub holds_pair : List (List ℕ) → ℕ → ℕ → Bool
holds_pair pieces x y = any (λ (bytes : List ℕ). any (λ (p : ℕ × ℕ). eqb p.0 x && eqb p.1 y) (neighbours bytes)) pieces

-- The byte before p; a space that is read raw stands for the last byte of a mark.
unfoldable pub byte_before : Bool → List ℕ → ℕ → ℕ
byte_before raw section p = let b = get_or section (p - 1) 0 in cond (raw && eqb b 0x20) 0x81 b

-- Rule 8.5: punctuation at p begins a unit; holds says which pairs of bytes stand side by side in some piece.
unfoldable pub punctuation_cuts : WordSplit → (ℕ → ℕ → Bool) → Bool → List ℕ → ℕ → Bool
punctuation_cuts kind holds raw section p =
    not (is_none kind) && any (eqb (get_or section p 0)) punctuation && not (holds (byte_before raw section p) (get_or section p 0))

-- Rule 8.1: a unit begins at p. What a model decides is given: its kind, its crossings, which pairs of bytes its pieces hold.
unfoldable pub begins_unit : WordSplit → List Crossing → (ℕ → ℕ → Bool) → Bool → List ℕ → ℕ → Bool
begins_unit kind noted holds raw section p = ltb 0 p && (mark_cuts kind noted raw section p || punctuation_cuts kind holds raw section p)

unfoldable pub cut : Model → Bool → List ℕ → ℕ → Bool
cut m raw section p = begins_unit (kind_of m) (crossings (pieces_of m)) (holds_pair (pieces_of m)) raw section p

-- The section cut at all such places.
unfoldable pub units : Model → Bool → List ℕ → List (List ℕ)
units m raw section = between (0 ∷ filter (cut m raw section) (below (length section)) ++ (length section ∷ [])) section
