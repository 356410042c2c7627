-- Safe places: where a text may be cut into fragments.
use Rattle.std.specs.Prelude.{ℕ, ◌+◌, ◌-◌, Bool, true, false, not, cond, ◌&&◌, ◌||◌, List, eqb, ltb, length, take, drop, Option, None, Some}
use Rattle.utf8.specs.Lists.{any, below, starts_with, within, Range}
use Rattle.utf8.specs.WhiteSpace.{trim_end}
use Rattle.model.specs.Model.{Model, Token, contents, token_at, pieces_of}
use Rattle.units.specs.Kinds.{crossings, kind_of, raw_path}
use Rattle.units.specs.Units.{mark_cuts}
use Rattle.units.specs.declared.RawPrepend.{RawPrepend}
use Rattle.units.specs.declared.RawPrepend.TheVariants as prepend
use Rattle.sections.specs.Sections.{white_length}

unfoldable pub is_unguarded : Option RawPrepend → Bool
is_unguarded None = false
is_unguarded (Some prepend.Never) = false
is_unguarded (Some prepend.Unguarded) = true
is_unguarded (Some prepend.GuardedAlways) = false
is_unguarded (Some prepend.GuardedFirst) = false

-- Rule 11.4: the token blocks places.
unfoldable pub makes_blocks : Bool → Token → Bool
makes_blocks unguarded t =
    any (λ (b : ℕ). eqb b 0x20 || eqb b 0xE2) t.content || t.lstrip || t.rstrip || unguarded

-- Rule 11.5: where the block of an occurrence at s begins.
unfoldable pub block_start : List ℕ → Token → ℕ → ℕ
block_start text t s = cond t.lstrip (length (trim_end (take s text))) (s + 1)

-- Rule 11.5: where the block of an occurrence that ends at e ends.
unfoldable pub block_end : Bool → List ℕ → Token → ℕ → ℕ
block_end unguarded text t e = cond t.rstrip (e + white_length (drop e text)) (cond unguarded e (e - 1))

-- The block of the occurrence at s; its two ends belong to it.
unfoldable pub block : Bool → List ℕ → Token → ℕ → Range
block unguarded text t s = (block_start text t s, block_end unguarded text t (s + length t.content))

-- The place lies in the block of some occurrence, whether occurrences overlap or not.
unfoldable pub blocked_by : Bool → List ℕ → ℕ → Token → Bool
blocked_by unguarded text p t =
    makes_blocks unguarded t
    && any (λ (s : ℕ). starts_with t.content (drop s text) && within (block unguarded text t s) p) (below (length text))

unfoldable pub is_blocked : Model → List ℕ → ℕ → Bool
is_blocked m text p = any (λ (row : ℕ). blocked_by (is_unguarded (raw_path m)) text p (token_at m.first row)) (below (length (contents m.first)))

-- Rule 11.3: a mark or space would begin a unit here, if the text were one section, and no block has the place.
unfoldable pub is_safe : Model → List ℕ → ℕ → Bool
is_safe m text p = ltb 0 p && mark_cuts (kind_of m) (crossings (pieces_of m)) true text p && not (is_blocked m text p)
