-- Kinds of split, crossing pieces, the raw path.
use Rattle.std.specs.Prelude.{ℕ, ◌+◌, Bool, true, false, not, cond, ◌&&◌, ◌||◌, List, [], ◌∷◌, map, ltb, length, take, drop, Option, None, Some}
use Rattle.utf8.specs.Lists.{is_empty, any, filter, join_map, same, below}
use Rattle.utf8.specs.Chars.{valid}
use Rattle.model.specs.Model.{Model, pieces_of, contents, steps_of, step_string}
use Rattle.model.specs.Mark.{mark, space, starts_with_mark, ends_with_mark}
use Rattle.model.specs.declared.Step.{Step}
use Rattle.model.specs.declared.Step.TheVariants.{Prepend, Replace, CollapseSpaces, Strip}
use Rattle.model.specs.declared.Metaspace.{Metaspace}
use Rattle.model.specs.declared.PrependScheme.{PrependScheme}
use Rattle.model.specs.declared.PrependScheme.TheVariants as scheme
use Rattle.units.specs.declared.WordSplit.{WordSplit}
use Rattle.units.specs.declared.WordSplit.TheVariants as kind
use Rattle.units.specs.declared.RawPrepend.{RawPrepend}
use Rattle.units.specs.declared.RawPrepend.TheVariants as prepend

-- What stands before and behind the mark at which a piece crosses (rule 5.1).
pub record Crossing : Type 0 where
  pub pre : List ℕ
  pub post : List ℕ

-- The bytes cross at p: a mark stands there behind a character that is none.
unfoldable pub crosses_at : List ℕ → ℕ → Bool
crosses_at bytes p = ltb 0 p && starts_with_mark false (drop p bytes) && not (ends_with_mark false (take p bytes))

unfoldable pub crossing_at : List ℕ → ℕ → Crossing
crossing_at bytes p = record { pre = take p bytes; post = drop (p + 3) bytes }

unfoldable pub crossings_of : List ℕ → List Crossing
crossings_of bytes = map (crossing_at bytes) (filter (crosses_at bytes) (below (length bytes)))

-- The crossings of all pieces, in the order of the pieces.
unfoldable pub crossings : List (List ℕ) → List Crossing
crossings pieces = join_map crossings_of (filter valid pieces)

-- The bytes hold a mark or a space.
unfoldable pub holds_mark : List ℕ → Bool
holds_mark bytes = any (λ (p : ℕ). starts_with_mark true (drop p bytes)) (below (length bytes))

-- Rule 5.2.
unfoldable pub is_tangled : Crossing → Bool
is_tangled c = holds_mark c.pre || holds_mark c.post

unfoldable pub splits : Option Metaspace → Bool
splits None = false
splits (Some metaspace) = metaspace.split

-- Rules 5.3 and 5.4: the kind, from all crossings and metaspace.
unfoldable pub word_split : List Crossing → Option Metaspace → WordSplit
word_split noted metaspace =
    cond (splits metaspace) kind.EveryMark (cond (any is_tangled noted || ltb 32 (length noted)) kind.None kind.SpaceRuns)

unfoldable pub kind_of : Model → WordSplit
kind_of m = word_split (crossings (pieces_of m)) m.metaspace

-- A Prepend of one mark.
unfoldable pub is_prepend_mark : List ℕ → Step → Bool
is_prepend_mark bytes (Prepend content) = same (step_string bytes content) mark
is_prepend_mark bytes (Replace pattern content) = false
is_prepend_mark bytes (CollapseSpaces content) = false
is_prepend_mark bytes (Strip left right) = false

-- Rule 6.2: the step turns spaces into marks.
unfoldable pub is_space_replace : List ℕ → Step → Bool
is_space_replace bytes (Prepend content) = false
is_space_replace bytes (Replace pattern content) = same (step_string bytes pattern) space && same (step_string bytes content) mark
is_space_replace bytes (CollapseSpaces content) = false
is_space_replace bytes (Strip left right) = false

unfoldable pub is_present : Option Metaspace → Bool
is_present None = false
is_present (Some metaspace) = true

-- Rule 6.4: what the scheme makes of the path.
unfoldable pub prepend_by : PrependScheme → RawPrepend
prepend_by scheme.Never = prepend.Never
prepend_by scheme.Always = prepend.GuardedAlways
prepend_by scheme.First = prepend.GuardedFirst

unfoldable pub prepend_of : Option Metaspace → RawPrepend
prepend_of None = prepend.Never
prepend_of (Some metaspace) = prepend_by metaspace.prepend

-- The raw path that the steps and metaspace alone would give.
unfoldable pub raw_path_of : List ℕ → List Step → Option Metaspace → Option RawPrepend
raw_path_of bytes [] metaspace = cond (is_present metaspace) (Some (prepend_of metaspace)) None
raw_path_of bytes (step ∷ []) metaspace = cond (is_space_replace bytes step) (Some (prepend_of metaspace)) None
raw_path_of bytes (step ∷ next ∷ []) metaspace =
    cond (is_prepend_mark bytes step && is_space_replace bytes next && not (splits metaspace)) (Some prepend.Unguarded) None
raw_path_of bytes (step ∷ next ∷ other ∷ steps) metaspace = None

unfoldable pub is_none : WordSplit → Bool
is_none kind.None = true
is_none kind.SpaceRuns = false
is_none kind.EveryMark = false

-- Rule 6.1: the raw path, if there is one.
unfoldable pub raw_path : Model → Option RawPrepend
raw_path m =
    cond (is_none (kind_of m) || not (is_empty (contents m.second))) None (raw_path_of m.step_bytes (steps_of m) m.metaspace)

unfoldable pub has_raw_path : Option RawPrepend → Bool
has_raw_path None = false
has_raw_path (Some p) = true
