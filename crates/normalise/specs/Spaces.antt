-- Metaspace (rule 4.6).
use Rattle.std.specs.Prelude.{ℕ, Bool, true, false, not, cond, ◌&&◌, Option, Some, None, List, [], ◌∷◌, ◌++◌, eqb}
use Rattle.utf8.specs.Lists.{is_empty, join_map, last_or, starts_with}
use Rattle.model.specs.Mark.{mark}
use Rattle.model.specs.declared.Metaspace.{Metaspace}
use Rattle.model.specs.declared.PrependScheme.{PrependScheme}
use Rattle.model.specs.declared.PrependScheme.TheVariants.{Never, Always, First}

-- A mark for every space.
unfoldable pub spaces_marked : List ℕ → List ℕ
spaces_marked text = join_map (λ (b : ℕ). cond (eqb b 0x20) mark (b ∷ [])) text

-- Whether the scheme wants a mark in front; first is the first flag.
unfoldable pub scheme_prepends : PrependScheme → Bool → Bool
scheme_prepends Never first = false
scheme_prepends Always first = true
scheme_prepends First first = first

-- The mark in front where it is wanted, but not before nothing and not before a mark.
unfoldable pub mark_prepended : Bool → List ℕ → List ℕ
mark_prepended wanted text = cond (wanted && not (is_empty text) && not (starts_with mark text)) (mark ++ text) text

-- The output of metaspace; none where it is absent.
unfoldable pub metaspace_output : Option Metaspace → Bool → List ℕ → List (List ℕ)
metaspace_output None first text = []
metaspace_output (Some metaspace) first text = mark_prepended (scheme_prepends metaspace.prepend first) (spaces_marked text) ∷ []

-- The text after metaspace.
unfoldable pub metaspaced : Option Metaspace → Bool → List ℕ → List ℕ
metaspaced metaspace first text = last_or text (metaspace_output metaspace first text)
