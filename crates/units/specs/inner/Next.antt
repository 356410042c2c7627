-- Where the next unit starts.
use Rattle.std.specs.Prelude.{ℕ, suc, ◌-◌, Bool, List, [], ◌∷◌, ◌++◌, length, Option, None, Some}
use Rattle.utf8.specs.Lists.{find, filter, between, count_from}

module _ (cuts : ℕ → Bool) (section : List ℕ) where
  -- The places above one.
  abbrev pub places_above : ℕ → List ℕ
  places_above from = count_from (suc from) (length section - suc from)

  unfoldable pub or_end : Option ℕ → ℕ
  or_end None = length section
  or_end (Some p) = p

  -- The first place above this one where a unit starts, or the section's end.
  unfoldable pub next_unit : ℕ → ℕ
  next_unit from = or_end (find cuts (places_above from))

  -- The units from the one that starts at a place on.
  unfoldable pub units_from : ℕ → List (List ℕ)
  units_from from = between (from ∷ filter cuts (places_above from) ++ (length section ∷ [])) section
