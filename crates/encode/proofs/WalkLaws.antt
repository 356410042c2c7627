-- A walk through a text's sections, as the parts that are still to come. Assumes nothing.
use Prim.Native.Nat.{ℕ, ◌<◌}
use native.Mathlib.Omega.{arith}
use mathlib.Core.Path.{◌≡◌, sym, ap, ◌∙◌}
use mathlib.Core.Bool.{Bool, false}
use mathlib.Core.List.{List, [], ◌∷◌}
use lib.ListN.{length}
use Rattle.model.specs.Model.{TokenList, contents}
use Rattle.sections.specs.Sections.{token, plain}
use Rattle.sections.specs.inner.Walk.{next_item}
use Rattle.sections.specs.declared.Cursor.{Cursor}
use Rattle.sections.specs.declared.Next.{Next}
use Rattle.sections.specs.declared.Next.TheVariants.{Plain, Added, Finished}
use Rattle.sections.proofs.SeekLaws.{first_sound}
use Rattle.sections.proofs.SectionLaws.{sections_left, sections_given, sections_step}
use Rattle.sections.proofs.StepLaws.{steps_left, steps_given, fewer_steps}
use Rattle.encode.specs.declared.checked.Checked.{Checked}
use Rattle.encode.proofs.CheckedLaws.{first_list, first_row, first_noted, first_fine}

module _ (k : Checked) (text : List ℕ) (cursor : Cursor) {item : Next} (is : item ≡ next_item (first_list k) (first_row k) false text cursor) where
  abbrev t : TokenList
  t = first_list k

  here : sections_left t text cursor ≡ sections_given t text item
  here = sections_step t (first_row k) (rw (first_noted k) (first_sound (contents t) (length (first_row k)))) (first_fine k) text cursor ∙ ap (sections_given t text) (sym is)

  pub section_here : {start stop : ℕ} {opening : Bool} {next : Cursor} → item ≡ Plain start stop opening next → sections_left t text cursor ≡ plain (record { start = start; stop = stop; opening = opening }) ∷ sections_left t text next
  section_here e = here ∙ ap (sections_given t text) e

  pub token_here : {id : ℕ} {next : Cursor} → item ≡ Added id next → sections_left t text cursor ≡ token id ∷ sections_left t text next
  token_here e = here ∙ ap (sections_given t text) e

  pub none_here : item ≡ Finished → sections_left t text cursor ≡ []
  none_here e = here ∙ ap (sections_given t text) e

-- Every item leaves less to come, in a walk through sections and in one through the parts of one.
module _ (t : TokenList) (begins : List ℕ) (afresh : Bool) (text : List ℕ) (cursor : Cursor) {item : Next} (is : item ≡ next_item t begins afresh text cursor) where
  pub plain_fewer : {start stop : ℕ} {opening : Bool} {next : Cursor} → item ≡ Plain start stop opening next → steps_left next < steps_left cursor
  plain_fewer e = omega (arith, fewer_steps t begins afresh text cursor, ap steps_given (sym is), ap steps_given e)

  pub token_fewer : {id : ℕ} {next : Cursor} → item ≡ Added id next → steps_left next < steps_left cursor
  token_fewer e = omega (arith, fewer_steps t begins afresh text cursor, ap steps_given (sym is), ap steps_given e)
