-- Laws of the longest content of a token list: it is found row by row, and no content is longer.
use Prim.Native.Nat.{ℕ, zero, suc, ◌+◌, ◌≤◌, max}
use native.Mathlib.Omega.{arith}
use native.Mathlib.Numerals.{add-one}
use mathlib.Core.Path.{◌≡◌, ◌∙◌}
use mathlib.Core.Bool.{true, false}
use mathlib.Core.Logic.{⊎_elim}
use mathlib.Core.List.{List, [], ◌∷◌, map}
use borrow.Author.Tests.{ltb-true, ltb-false}
use lib.Dec.{ltb}
use lib.ListN.{length, get_or, take, drop, length-take, length-drop, drop_of_length-le}
use lib.Seq.{slice, drop-cons}
use Rattle.std.specs.List.{fold, reduce, range_with_len}
use Rattle.std.specs.Option.{unwrap_or}
use Rattle.utf8.proofs.Tests.{either}
use Rattle.model.specs.Model.{strings}
use Rattle.model.proofs.StringLaws.{string_is, string_past}
use Rattle.sections.specs.Beginnings.{longest_content}

-- A part ends where it stops, if not before.
part-most : (start stop : ℕ) (bytes : List ℕ) → length (slice start stop bytes) ≤ stop
part-most start stop bytes = omega (arith, length-drop start (take stop bytes), length-take stop bytes)

-- A string is no longer than the place where it ends.
pub string-below : (bytes offsets : List ℕ) (row : ℕ) → length (get_or (strings bytes offsets) row []) ≤ get_or offsets (row + 1) 0
string-below bytes offsets row = ⊎_elim inside past (either (ltb (row + 1) (length offsets)))
  where
    inside : ltb (row + 1) (length offsets) ≡ true → length (get_or (strings bytes offsets) row []) ≤ get_or offsets (row + 1) 0
    inside e = rw (string_is bytes offsets row (ltb-true (row + 1) (length offsets) e)) (part-most (get_or offsets row 0) (get_or offsets (row + 1) 0) bytes)

    past : ltb (row + 1) (length offsets) ≡ false → length (get_or (strings bytes offsets) row []) ≤ get_or offsets (row + 1) 0
    past e = rw (string_past bytes offsets row (ltb-false (row + 1) (length offsets) e)) (omega arith)

module _ (contents : List (List ℕ)) where
  abbrev length_at : ℕ → ℕ
  length_at row = length (get_or contents row [])

  longest_folded : (long row n : ℕ) → row + n ≡ length contents → fold max long (map length_at (range_with_len row n)) ≡ max long (longest_content (drop row contents))
  unfolding longest_content
  longest_folded long row zero e = rw (drop_of_length-le contents {i = row} (omega arith)) (omega arith)
  longest_folded long row (suc n) e =
      rw (drop-cons contents row [] (omega arith))
      (longest_folded (max long (length_at row)) (row + 1) n (omega arith) ∙ rw add-one (omega arith))

  -- The longest of the lengths, row by row.
  pub longest-reduced : (n : ℕ) → n ≡ length contents → unwrap_or (reduce max (map length_at (range_with_len 0 n))) 0 ≡ longest_content contents
  unfolding longest_content
  longest-reduced zero e = rw (drop_of_length-le contents {i = 0} (omega arith))
  longest-reduced (suc n) e = longest_folded (length_at 0) 1 n (omega arith) ∙ rw (drop-cons contents 0 [] (omega arith))

pub none-longer : (contents : List (List ℕ)) (row : ℕ) → length (get_or contents row []) ≤ longest_content contents
unfolding longest_content
none-longer [] row = omega arith
none-longer (c ∷ contents) zero = omega arith
none-longer (c ∷ contents) (suc row) = omega (arith, none-longer contents row)
