-- What the two walks through a text by an accepted model rest on: the noted beginnings, and contents that are fine. Assumes nothing.
use Prim.Native.Nat.{ℕ}
use mathlib.Core.Path.{◌≡◌, refl}
use mathlib.Core.Bool.{false}
use mathlib.Core.List.{List}
use lib.ListN.{length}
use lib.Seq.{slice}
use Rattle.model.specs.Model.{TokenList, contents, tokens_of, columns}
use Rattle.model.specs.Check.{bad_token}
use Rattle.model.proofs.Accepted.{accepted}
use Rattle.prepare.specs.Layout.{first_tokens_at, second_tokens_at, longest_content_at}
use Rattle.prepare.proofs.PreparedLaws.{first_begins, second_begins}
use Rattle.sections.specs.Beginnings.{beginnings}
use Rattle.encode.specs.declared.checked.Checked.{Checked}

module _ (k : Checked) where
  abbrev pub first_list : TokenList
  first_list = tokens_of k.prepared.now.model.now.first

  abbrev pub first_row : List ℕ
  first_row = slice first_tokens_at second_tokens_at k.prepared.now.index.now

  pub first_noted : first_row ≡ beginnings (contents first_list) (length first_row)
  first_noted = first_begins (columns k.prepared.now.model.now) k.index_derived refl

  pub first_fine : bad_token (contents first_list) ≡ false
  first_fine = (accepted (columns k.prepared.now.model.now) k.accepted).first_texts

  abbrev pub second_list : TokenList
  second_list = tokens_of k.prepared.now.model.now.second

  abbrev pub second_row : List ℕ
  second_row = slice second_tokens_at longest_content_at k.prepared.now.index.now

  pub second_noted : second_row ≡ beginnings (contents second_list) (length second_row)
  second_noted = second_begins (columns k.prepared.now.model.now) k.index_derived refl

  pub second_fine : bad_token (contents second_list) ≡ false
  second_fine = (accepted (columns k.prepared.now.model.now) k.accepted).second_texts
