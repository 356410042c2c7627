-- What a prepared call reads of the two rows that it is lent, and that prepare fills rows of the fixed lengths with them. Assumes nothing.
use Rattle.std.specs.Prelude.{Option}
use Prim.Native.Nat.{ℕ, ◌-◌}
use native.Mathlib.Omega.{arith}
use mathlib.Core.Path.{◌≡◌, sym, ap, ◌∙◌}
use mathlib.Core.List.{List, append-nil}
use lib.ListN.{length, get_or}
use lib.Seq.{slice}
use Rattle.utf8.proofs.Fronts.{length-row}
use Rattle.model.specs.Model.{Model, contents, pieces_of}
use Rattle.model.specs.Answers.{filled, done}
use Rattle.model.specs.Check.{check_number}
use Rattle.model.specs.declared.Answer.{Answer}
use Rattle.units.specs.declared.RawPrepend.{RawPrepend}
use Rattle.units.specs.Kinds.{raw_path}
use Rattle.sections.specs.Beginnings.{beginnings}
use Rattle.prepare.specs.Layout.{raw_path_at, first_tokens_at, second_tokens_at, longest_content_at}
use Rattle.prepare.specs.inner.Read.{raw_path_from}
use Rattle.prepare.specs.Prepare.{derived_adjacency, derived_index, PrepareOutcome, prepare_outcome}
use Rattle.prepare.proofs.PrepareLaws.{prepared, length-adjacency}
use Rattle.prepare.proofs.ReadLaws.{raw_path_read, first-tokens-at, second-tokens-at, index-long}

-- A row of first bytes knows its own length.
own_length : (contents : List (List ℕ)) {row : List ℕ} (n : ℕ) → row ≡ beginnings contents n → row ≡ beginnings contents (length row)
unfolding beginnings
own_length contents n e = e ∙ ap (beginnings contents) (sym (ap length e ∙ length-row _ n))

module _ (m : Model) {index : List ℕ} (is : index ≡ derived_index m) where
  pub path_read : {number : ℕ} {path : Option RawPrepend} → number ≡ get_or index raw_path_at 0 → path ≡ raw_path_from number → path ≡ raw_path m
  path_read e f = f ∙ ap raw_path_from (e ∙ ap (λ (l : List ℕ). get_or l raw_path_at 0) is) ∙ raw_path_read m

  pub first_begins : {row : List ℕ} → row ≡ slice first_tokens_at second_tokens_at index → row ≡ beginnings (contents m.first) (length row)
  first_begins e = own_length (contents m.first) 256 (e ∙ ap (slice first_tokens_at second_tokens_at) is ∙ first-tokens-at m)

  pub second_begins : {row : List ℕ} → row ≡ slice second_tokens_at longest_content_at index → row ≡ beginnings (contents m.second) (length row)
  second_begins e = own_length (contents m.second) 256 (e ∙ ap (slice second_tokens_at longest_content_at) is ∙ second-tokens-at m)

-- Rows of the fixed lengths hold what is derived and nothing more.
whole : (row out : List ℕ) → length out ≡ length row → filled row out ≡ row
unfolding filled
whole row out e = let none : length out - length row ≡ 0 = omega arith in rw none (append-nil row)

module _ (m : Model) (fine : check_number m ≡ 0) (adjacency index : List ℕ) (rows : length adjacency ≡ 1024) (words : length index ≡ 169032) {answer : Answer} {a i : List ℕ}
    (is : ◌≡◌ {A = PrepareOutcome} (record { answer = answer; adjacency = a; index = i }) (prepare_outcome m adjacency index)) where
  told : ◌≡◌ {A = PrepareOutcome} (record { answer = answer; adjacency = a; index = i }) (record { answer = done 170056 0 0; adjacency = filled (derived_adjacency m) adjacency; index = filled (derived_index m) index })
  told = is ∙ prepared m adjacency index fine (omega arith) (omega arith)

  pub rows_derived : a ≡ derived_adjacency m
  unfolding derived_adjacency
  rows_derived = ap (λ (o : PrepareOutcome). o.adjacency) told ∙ whole (derived_adjacency m) adjacency (rows ∙ sym (length-adjacency (pieces_of m)))

  pub index_derived : i ≡ derived_index m
  index_derived = ap (λ (o : PrepareOutcome). o.index) told ∙ whole (derived_index m) index (words ∙ sym (index-long m))
