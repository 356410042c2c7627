-- A walk through the parts of a normalized section: the parts that are still to come. Assumes nothing.
use Rattle.std.specs.Prelude.{Option}
use Prim.Native.Nat.{ℕ}
use mathlib.Core.Path.{◌≡◌, sym, ap, ◌∙◌}
use mathlib.Core.Bool.{Bool, true, false}
use mathlib.Core.List.{List, [], ◌∷◌}
use lib.ListN.{length}
use lib.Seq.{slice}
use Rattle.model.specs.Model.{TokenList, contents}
use Rattle.model.specs.declared.Metaspace.{Metaspace}
use Rattle.normalise.specs.Normalise.{outgrows}
use Rattle.normalise.specs.Spaces.{metaspace_output, metaspaced}
use Rattle.merge.specs.inner.Turns.{Merged}
use Rattle.merge.specs.declared.Symbols.{Symbols}
use Rattle.sections.specs.Sections.{token, plain}
use Rattle.sections.specs.inner.Walk.{next_item}
use Rattle.sections.specs.declared.Cursor.{Cursor}
use Rattle.sections.specs.declared.Next.{Next}
use Rattle.sections.specs.declared.Next.TheVariants.{Plain, Added, Finished}
use Rattle.sections.proofs.SeekLaws.{first_sound}
use Rattle.sections.proofs.PartLaws.{parts_left, parts_given, parts_step}
use Rattle.stretches.specs.Stretches.{stretch}
use Rattle.stretches.specs.inner.Tables.{Tables}
use Rattle.stretches.specs.inner.Parts.{parts_symbols, parts_writer}
use Rattle.encode.specs.declared.checked.Checked.{Checked}
use Rattle.encode.proofs.CheckedLaws.{second_list, second_row, second_noted, second_fine}
use Rattle.encode.specs.inner.Passes.{counted, unless_long, part_stretch}

module _ (k : Checked) (text : List ℕ) (cursor : Cursor) {item : Next} (is : item ≡ next_item (second_list k) (second_row k) true text cursor) where
  abbrev t : TokenList
  t = second_list k

  here : parts_left t text cursor ≡ parts_given t text item
  here = parts_step t (second_row k) (rw (second_noted k) (first_sound (contents t) (length (second_row k)))) (second_fine k) text cursor ∙ ap (parts_given t text) (sym is)

  pub part-next : {start stop : ℕ} {first : Bool} {next : Cursor} → item ≡ Plain start stop first next → parts_left t text cursor ≡ plain (record { bytes = slice start stop text; first = first }) ∷ parts_left t text next
  part-next e = here ∙ ap (parts_given t text) e

  pub added_next : {id : ℕ} {next : Cursor} → item ≡ Added id next → parts_left t text cursor ≡ token id ∷ parts_left t text next
  added_next e = here ∙ ap (parts_given t text) e

  pub none-next : item ≡ Finished → parts_left t text cursor ≡ []
  none-next e = here ∙ ap (parts_given t text) e

-- What the call on a part wrote, where its output is not too long.
pub part-put : (t : Tables) (metaspace : Option Metaspace) (text : List ℕ) (start stop : ℕ) (first : Bool) (room : ℕ) (out : List ℕ) {bytes : List ℕ} {done : Merged}
    → bytes ≡ slice start stop text → outgrows (metaspace_output metaspace first (slice start stop text)) room ≡ false
    → done ≡ unless_long (outgrows (metaspace_output metaspace first bytes) room) (parts_writer t (stretch (metaspaced metaspace first bytes) false false) out) out
    → done ≡ parts_writer t (part_stretch metaspace (record { bytes = slice start stop text; first = first })) out
unfolding part_stretch
part-put t metaspace text start stop first room out b s e = e ∙ rw b (rw s)

-- What the count of a part found.
pub part_found : (own : List ℕ → Option ℕ) (fallback : List ℕ) (metaspace : Option Metaspace) (text : List ℕ) (start stop : ℕ) (first : Bool) (room cells : ℕ) {bytes : List ℕ} {r : Option Symbols}
    → bytes ≡ slice start stop text
    → r ≡ counted (outgrows (metaspace_output metaspace first bytes) room) (parts_symbols own fallback (stretch (metaspaced metaspace first bytes) false false) cells)
    → r ≡ counted (outgrows (metaspace_output metaspace first (slice start stop text)) room) (parts_symbols own fallback (part_stretch metaspace (record { bytes = slice start stop text; first = first })) cells)
unfolding part_stretch
part_found own fallback metaspace text start stop first room cells b e = e ∙ rw b
