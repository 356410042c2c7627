-- what is derived one by one is the index, and behind it the buffer is cleared.
use mathlib.Core.Path.{◌≡◌, sym, ap, ◌∙◌}
use mathlib.Core.Bool.{Bool}
use mathlib.Core.List.{List}
use Prim.Native.Nat.{ℕ, ◌≤◌}
use native.Mathlib.Omega.{arith}
use lib.Dec.{eqb}
use lib.ListN.{length, take}
use Rattle.utf8.specs.Lists.{is_empty}
use Rattle.utf8.proofs.Places.{empty_by_length}
use Rattle.model.specs.Answers.{filled}
use Rattle.model.specs.Model.{strings_of}
use Rattle.model.proofs.StringLaws.{length-strings}
use Rattle.units.specs.inner.Path.{raw_path_by}
use Rattle.prepare.specs.Layout.{index_row}
use Rattle.prepare.specs.inner.Derive.{index_of}
use Rattle.prepare.proofs.LayoutLaws.{length-index}
use Rattle.prepare.proofs.PutLaws.{cleared_behind}
use Rattle.prepare.proofs.PrepareLaws.{count_small, words_64, index_derived}
use Rattle.prepare.proofs.derive.derive_index.Goals as goal
use Rattle.prepare.proofs.derive.derive_index.Goals.{After-fill_index, After-word_split-split, Start}

abbrev pieces : Start → List (List ℕ)
pieces s = strings_of s.args.model.now.pieces

-- the contents of the two token lists
abbrev first : Start → List (List ℕ)
first s = strings_of s.args.model.now.first.contents

abbrev second : Start → List (List ℕ)
second s = strings_of s.args.model.now.second.contents

few : (c : After-word_split-split) → c.word_split-split.result.count ≤ 32
few c =
    let s = (goal.at.After-word_split-split c).Start in
    count_small (pieces s) s.args.model.now.lookup.now s.args.model.now.rows.left.now s.args.model.now.rows.right.now s.args.model.now.rows.rank.now (first s) (second s) s.args.model.now.steps.bytes.now (take s.args.model.now.steps.count s.args.model.now.steps.list) s.args.model.now.metaspace c.word_split-split.result.kind c.word_split-split.result.count c.word_split-split.new.noted c.word_split-split.ensures

long : (c : After-word_split-split) → length c.word_split-split.new.noted ≡ 64
long c =
    let s = (goal.at.After-word_split-split c).Start in
    words_64 (pieces s) s.args.model.now.lookup.now s.args.model.now.rows.left.now s.args.model.now.rows.right.now s.args.model.now.rows.rank.now (first s) (second s) s.args.model.now.steps.bytes.now (take s.args.model.now.steps.count s.args.model.now.steps.list) s.args.model.now.metaspace c.word_split-split.result.kind c.word_split-split.result.count c.word_split-split.new.noted c.word_split-split.ensures

module _ (c : After-fill_index) where
  abbrev row : List ℕ
  row =
      index_row c.kind_number.result c.raw_path_number.result c.word_split-split.result.count c.word_split-split.new.noted (pieces (goal.at.After-fill_index c).Start) c.args.model.now.lookup.now c.args.model.now.rows.left.now c.args.model.now.rows.right.now c.args.model.now.rows.rank.now (first (goal.at.After-fill_index c).Start) (second (goal.at.After-fill_index c).Start)

  row-long : length row ≡ 169032
  row-long =
      length-index c.kind_number.result c.raw_path_number.result c.word_split-split.result.count c.word_split-split.new.noted (pieces (goal.at.After-fill_index c).Start) c.args.model.now.lookup.now c.args.model.now.rows.left.now c.args.model.now.rows.right.now c.args.model.now.rows.rank.now (first (goal.at.After-fill_index c).Start) (second (goal.at.After-fill_index c).Start) (long (goal.at.After-fill_index c).After-word_split-split)

  fits : length row ≤ length c.args.out.now
  fits = omega (arith, row-long, c.requires.index_length_in_bounds)

  -- whether there are tokens in the second list
  empty-is : eqb c.len-second_empty.result 0 ≡ is_empty (second (goal.at.After-fill_index c).Start)
  empty-is =
      ap (λ (n : ℕ). eqb n 0) (c.len-second_empty.ensures ∙ sym (length-strings c.args.model.now.second.contents.bytes.now c.args.model.now.second.contents.offsets.now))
      ∙ sym (empty_by_length (second (goal.at.After-fill_index c).Start))

  path_is : c.raw_path-path.result ≡ raw_path_by c.word_split-split.result.kind (is_empty (second (goal.at.After-fill_index c).Start)) c.args.model.now.steps.bytes.now (take c.args.model.now.steps.count c.args.model.now.steps.list) c.args.model.now.metaspace
  path_is =
      c.raw_path-path.ensures
      ∙ ap
      (λ (empty : Bool). raw_path_by c.word_split-split.result.kind empty c.args.model.now.steps.bytes.now (take c.args.model.now.steps.count c.args.model.now.steps.list) c.args.model.now.metaspace)
      empty-is

  row_is : row ≡ index_of (pieces (goal.at.After-fill_index c).Start) c.args.model.now.lookup.now c.args.model.now.rows.left.now c.args.model.now.rows.right.now c.args.model.now.rows.rank.now (first (goal.at.After-fill_index c).Start) (second (goal.at.After-fill_index c).Start) c.args.model.now.steps.bytes.now (take c.args.model.now.steps.count c.args.model.now.steps.list) c.args.model.now.metaspace
  row_is =
      let s = (goal.at.After-fill_index c).Start in
      index_derived (pieces s) s.args.model.now.lookup.now s.args.model.now.rows.left.now s.args.model.now.rows.right.now s.args.model.now.rows.rank.now (first s) (second s) s.args.model.now.steps.bytes.now (take s.args.model.now.steps.count s.args.model.now.steps.list) s.args.model.now.metaspace c.word_split-split.result.kind c.word_split-split.result.count c.word_split-split.new.noted c.word_split-split.ensures
      c.raw_path-path.result c.kind_number.result c.raw_path_number.result path_is c.kind_number.ensures c.raw_path_number.ensures

pub overflow_cast-found : goal.overflow_cast-found
overflow_cast-found c = omega (arith, few (goal.at.overflow_cast-found c).After-word_split-split)

pub fill_index-requires : goal.fill_index-requires
fill_index-requires c = record { ascending = c.requires.ascending; lookup_len_bound = c.requires.lookup_len_bound; left_len_bound = c.requires.left_len_bound; noted_len = long (goal.at.fill_index-requires c).After-word_split-split; index_length_in_bounds = c.requires.index_length_in_bounds }

pub returns : goal.returns
returns c =
    let f = (goal.at.returns c).After-fill_index in
    cleared_behind (row f) f.args.out.now (fits f) f.fill_index.new.words c.clear.new.out 169032 (row-long f) f.fill_index.ensures c.clear.ensures
    ∙ ap (λ (words : List ℕ). filled words f.args.out.now) (row_is f)
