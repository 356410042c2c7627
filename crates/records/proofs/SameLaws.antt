-- The records of a list of columns give the answers of the columns.
use Rattle.std.specs.Prelude.{Option, None, Some}
use Prim.Native.Nat.{ℕ, ◌+◌, ◌-◌, ◌≤◌, ◌<◌}
use native.Mathlib.Omega.{arith}
use mathlib.Core.Path.{◌≡◌, refl, sym, ap, ◌∙◌}
use mathlib.Core.Bool.{true, false}
use mathlib.Core.Logic.{⊎_elim}
use mathlib.Core.List.{List, [], map}
use borrow.Author.Tests.{ltb-true, ltb-false}
use lib.Dec.{ltb}
use lib.ListN.{length, get_or, length-map, get_or-map}
use lib.Seq.{slice, ext_get_or}
use Rattle.utf8.specs.Lists.{below}
use Rattle.utf8.proofs.Tests.{either}
use Rattle.utf8.proofs.Places.{get_or_inside, slice_none, length-count_from, get_or_count_from}
use Rattle.model.specs.Model.{TokenList, Token, token_at, contents, step_string}
use Rattle.model.proofs.StringLaws.{length-strings, string_is, string_past}
use Rattle.sections.specs.declared.Match.{Match}
use Rattle.sections.specs.Matches.{longest_at}
use Rattle.sections.specs.inner.Seek.{row_in, row_at}
use Rattle.records.specs.Records.{no_token, content_of, token_of, columns_of, records_of, longest_of, longest_row, standing}
use Rattle.records.specs.inner.Rows.{standing_of}
use Rattle.records.specs.declared.AddedToken.{AddedToken}
use Rattle.records.proofs.RowLaws.{standing-empty}
use Rattle.records.proofs.ColumnLaws.{same-token, columns_contents, content-at, columns_token, standing_by}

-- a part up to an end before its start is as empty as one of no length
same_span : (p q : ℕ) (bytes : List ℕ) → slice p (p + (q - p)) bytes ≡ slice p q bytes
same_span p q bytes =
    ⊎_elim
    (λ e. let l : q < p = ltb-true q p e in slice_none p (p + (q - p)) bytes (omega (arith, l)) ∙ sym (slice_none p q bytes (omega (arith, l))))
    (λ e. let l : p ≤ q = ltb-false q p e in let whole : p + (q - p) ≡ q = omega (arith, l) in ap (λ (n : ℕ). slice p n bytes) whole)
    (either (ltb q p))

module _ (t : TokenList) where
  abbrev n : ℕ
  n = length t.offsets - 1

  abbrev place : ℕ → ℕ
  place row = get_or t.offsets row 0

  -- the record of a row
  abbrev at_row : ℕ → AddedToken
  at_row row =
      record { content = record { place = place row; len = place (row + 1) - place row }; id = get_or t.ids row 0; lstrip = get_or t.lstrip row false; rstrip = get_or t.rstrip row false }

  length_records : length (records_of t) ≡ n
  unfolding records_of
  length_records = length-map (below n) at_row ∙ length-count_from 0 n

  record_is : (row : ℕ) → row < n → get_or (records_of t) row no_token ≡ at_row row
  unfolding records_of
  record_is row h =
      get_or_inside (map at_row (below n)) row no_token (at_row 0) (omega (arith, length-map (below n) at_row, length-count_from 0 n))
      ∙ get_or-map at_row (below n) row 0
      ∙ ap at_row (get_or_count_from 0 n row 0 h ∙ omega arith)

  content-is : (row : ℕ) → row < n → content_of t.bytes (get_or (records_of t) row no_token) ≡ get_or (contents t) row []
  unfolding content_of step_string contents
  content-is row h =
      ap (content_of t.bytes) (record_is row h) ∙ same_span (place row) (place (row + 1)) t.bytes ∙ sym (string_is t.bytes t.offsets row (omega arith))

  -- Their contents are those of the columns.
  records_contents : map (content_of t.bytes) (records_of t) ≡ contents t
  unfolding contents
  records_contents =
      let cs = map (content_of t.bytes) (records_of t) in
      let long : length cs ≡ n = length-map (records_of t) (content_of t.bytes) ∙ length_records in
      ext_get_or [] cs (contents t) (long ∙ sym (length-strings t.bytes t.offsets))
      (λ i h. content-at t.bytes (records_of t) i ∙ content-is i (omega (arith, long)))

  pub same-contents : contents (columns_of t.bytes (records_of t)) ≡ contents t
  same-contents = columns_contents t.bytes (records_of t) ∙ records_contents

  token-is : (row : ℕ) → row < n → token_of t.bytes (get_or (records_of t) row no_token) ≡ token_at t row
  unfolding token_of token_at
  token-is row h =
      same-token (content-is row h) (ap (λ (r : AddedToken). r.id) (record_is row h)) (ap (λ (r : AddedToken). r.lstrip) (record_is row h)) (ap (λ (r : AddedToken). r.rstrip) (record_is row h))

  -- a row past the end has no content
  no_content : (u : TokenList) (row : ℕ) → contents u ≡ contents t → n ≤ row → length (token_at u row).content ≡ 0
  unfolding token_at contents
  no_content u row e h = ap (λ (cs : List (List ℕ)). length (get_or cs row [])) e ∙ ap length (string_past t.bytes t.offsets row (omega arith))

  -- The token of a row does the same at a place.
  pub same-standing : (text : List ℕ) (start : ℕ) (match : Match) → standing (columns_of t.bytes (records_of t)) text start match ≡ standing t text start match
  same-standing text start match =
      standing_by (columns_of t.bytes (records_of t)) text start match ∙ ⊎_elim inside past (either (ltb match.row n)) ∙ sym (standing_by t text start match)
    where
      mine : Token
      mine = token_at (columns_of t.bytes (records_of t)) match.row

      inside : ltb match.row n ≡ true → standing_of mine text start match.place ≡ standing_of (token_at t match.row) text start match.place
      inside e = ap (λ (token : Token). standing_of token text start match.place) (columns_token t.bytes (records_of t) match.row ∙ token-is match.row (ltb-true match.row n e))

      past : ltb match.row n ≡ false → standing_of mine text start match.place ≡ standing_of (token_at t match.row) text start match.place
      past e =
          let h : n ≤ match.row = ltb-false match.row n e in
          standing-empty mine text start match.place (no_content (columns_of t.bytes (records_of t)) match.row same-contents h)
          ∙ sym (standing-empty (token_at t match.row) text start match.place (no_content t match.row refl h))

  -- The longest token at the head of a text stands in the row that the columns' search finds.
  pub same_row : (text : List ℕ) → longest_row (longest_of (longest_at (contents (columns_of t.bytes (records_of t))) text)) ≡ row_at (contents t) text
  unfolding row_at
  same_row text = ap (λ (cs : List (List ℕ)). longest_row (longest_of (longest_at cs text))) same-contents ∙ row_of (longest_at (contents t) text)
    where
      row_of : (best : Option (ℕ × List ℕ)) → longest_row (longest_of best) ≡ row_in best
      row_of None = refl
      row_of (Some c) = refl
