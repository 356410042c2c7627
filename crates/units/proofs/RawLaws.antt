-- Laws of the raw path, by how many steps there are. Assumes nothing.
use Prim.Native.Nat.{ℕ, ◌<◌}
use native.Mathlib.Omega.{arith}
use mathlib.Core.Path.{◌≡◌, refl, ◌∙◌}
use mathlib.Core.Bool.{Bool, true, false, not, cond, ◌&&◌}
use mathlib.Core.List.{List, [], ◌∷◌}
use lib.ListN.{length, get_or}
use Rattle.std.specs.Prelude.{Option, None, Some}
use Rattle.model.specs.declared.Step.{Step}
use Rattle.model.specs.declared.Metaspace.{Metaspace}
use Rattle.units.specs.Kinds.{splits, is_prepend_mark, is_space_replace, is_present, prepend_of, raw_path_of}
use Rattle.units.specs.declared.RawPrepend.TheVariants as prepend

module _ (bytes : List ℕ) (metaspace : Option Metaspace) where
  pub path_none : (steps : List Step) → length steps ≡ 0 → raw_path_of bytes steps metaspace ≡ cond (is_present metaspace) (Some (prepend_of metaspace)) None
  unfolding raw_path_of
  path_none [] h = refl
  path_none (step ∷ steps) h = absurd (omega arith)

  path_one : (steps : List Step) (d : Step) → length steps ≡ 1 → raw_path_of bytes steps metaspace ≡ cond (is_space_replace bytes (get_or steps 0 d)) (Some (prepend_of metaspace)) None
  unfolding raw_path_of
  path_one [] d h = absurd (omega arith)
  path_one (step ∷ []) d h = refl
  path_one (step ∷ next ∷ steps) d h = absurd (omega arith)

  path_two : (steps : List Step) (d : Step) → length steps ≡ 2
      → raw_path_of bytes steps metaspace
      ≡ cond (is_prepend_mark bytes (get_or steps 0 d) && is_space_replace bytes (get_or steps 1 d) && not (splits metaspace)) (Some prepend.Unguarded) None
  unfolding raw_path_of
  path_two [] d h = absurd (omega arith)
  path_two (step ∷ []) d h = absurd (omega arith)
  path_two (step ∷ next ∷ []) d h = refl
  path_two (step ∷ next ∷ other ∷ steps) d h = absurd (omega arith)

  module _ (steps : List Step) (d : Step) where
    -- one step
    pub path_one_by : (b : Bool) → length steps ≡ 1 → b ≡ is_space_replace bytes (get_or steps 0 d) → raw_path_of bytes steps metaspace ≡ cond b (Some (prepend_of metaspace)) None
    path_one_by b h e = path_one steps d h ∙ rw (← e)

    -- two steps, by the tests that applied
    module _ (h : length steps ≡ 2) where
      pub path_no_prepend : false ≡ is_prepend_mark bytes (get_or steps 0 d) → raw_path_of bytes steps metaspace ≡ None
      path_no_prepend e = path_two steps d h ∙ rw (← e)

      pub path_no_replace : true ≡ is_prepend_mark bytes (get_or steps 0 d) → false ≡ is_space_replace bytes (get_or steps 1 d) → raw_path_of bytes steps metaspace ≡ None
      path_no_replace e f = path_two steps d h ∙ rw (← e, ← f)

      pub path_both : (b : Bool) → true ≡ is_prepend_mark bytes (get_or steps 0 d) → true ≡ is_space_replace bytes (get_or steps 1 d) → b ≡ splits metaspace
          → raw_path_of bytes steps metaspace ≡ cond (not b) (Some prepend.Unguarded) None
      path_both b e f g = path_two steps d h ∙ rw (← e, ← f, ← g)

  pub path_more : (steps : List Step) → 2 < length steps → raw_path_of bytes steps metaspace ≡ None
  unfolding raw_path_of
  path_more [] h = absurd (omega arith)
  path_more (step ∷ []) h = absurd (omega arith)
  path_more (step ∷ next ∷ []) h = absurd (omega arith)
  path_more (step ∷ next ∷ other ∷ steps) h = refl
