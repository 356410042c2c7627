-- The call prepare: what is derived of a model once, as two rows of words (rule 15.1).
use Rattle.std.specs.Prelude.{ℕ, ◌+◌, cond, ◌||◌, List, [], ◌∷◌, ◌++◌, eqb, ltb, length}
use Rattle.model.specs.Model.{Model, contents, pieces_of}
use Rattle.model.specs.Answers.{lowest, done, refused, filled}
use Rattle.model.specs.Check.{model_tests}
use Rattle.model.specs.declared.Answer.{Answer}
use Rattle.units.specs.Kinds.{kind_of, raw_path}
use Rattle.units.specs.Adjacency.{adjacency}
use Rattle.units.specs.Derived.{noting}
use Rattle.prepare.specs.Layout.{adjacency_length, index_length, index_row}
use Rattle.prepare.specs.Numbers.{kind_number, raw_path_number}

-- Which bytes stand side by side in some piece.
unfoldable pub derived_adjacency : Model → List ℕ
derived_adjacency m = adjacency (pieces_of m)

unfoldable pub derived_index : Model → List ℕ
derived_index m =
    let noted = noting (pieces_of m) (kind_of m) in
    index_row (kind_number (kind_of m)) (raw_path_number (raw_path m)) noted.count noted.noted (pieces_of m) m.lookup m.left m.right m.rank
    (contents m.first) (contents m.second)

-- What prepare leaves: the answer and the two rows.
pub record PrepareOutcome : Type 0 where
  pub answer : Answer
  pub adjacency : List ℕ
  pub index : List ℕ

-- 12 where a row is shorter than its fixed length.
unfoldable pub prepare_number : Model → ℕ → ℕ → ℕ
prepare_number m adjacency index = lowest (model_tests m 0 ++ ((12, ltb adjacency adjacency_length || ltb index index_length) ∷ []))

unfoldable pub prepare_outcome : Model → List ℕ → List ℕ → PrepareOutcome
prepare_outcome m adjacency index =
    let number = prepare_number m (length adjacency) (length index) in
    cond (eqb number 0)
    (record { answer = done (adjacency_length + index_length) 0 0; adjacency = filled (derived_adjacency m) adjacency; index = filled (derived_index m) index })
    (record { answer = refused number 0; adjacency = adjacency; index = index })
