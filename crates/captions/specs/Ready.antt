-- What a run keeps of its model, for every line.
use Rattle.std.specs.Prelude.{◌≡◌, List, ℕ}
use Rattle.model.specs.Model.{Model}
use Rattle.model.specs.Check.{check_number}
use Rattle.prepare.specs.Prepare.{derived_adjacency, derived_index}

-- The model check accepts it, and the two rows are those that are derived of it.
pub record Ready (m : Model) (adjacency index : List ℕ) : Type 0 where
  pub accepted : check_number m ≡ 0
  pub rows : adjacency ≡ derived_adjacency m
  pub words : index ≡ derived_index m
