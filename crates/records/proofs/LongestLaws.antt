-- Laws of the longest of the records from a row on: the rows are walked from the last.
use Rattle.std.specs.Prelude.{Option, None, Some}
use Prim.Native.Nat.{ℕ, suc, ◌<◌}
use native.Mathlib.Omega.{arith}
use mathlib.Core.Path.{◌≡◌, refl, sym, ap, ◌∙◌}
use mathlib.Core.Bool.{Bool, true, false, cond}
use mathlib.Core.List.{List, [], ◌∷◌, map}
use lib.Dec.{leb}
use lib.ListN.{length, get_or, drop, length-map, drop_of_length-le}
use Rattle.utf8.specs.Lists.{filter, numbered, starts_with}
use Rattle.utf8.proofs.Places.{length-numbered}
use Rattle.model.specs.Model.{contents}
use Rattle.sections.specs.Matches.{longer, longest, longest_at}
use Rattle.sections.proofs.SeekLaws.{numbered-at, longest_from}
use Rattle.records.specs.Records.{no_token, content_of, columns_of, longest_of}
use Rattle.records.specs.inner.Rows.{longer_than, longer_of}
use Rattle.records.specs.declared.AddedToken.{AddedToken}
use Rattle.records.specs.declared.Longest.{Longest}
use Rattle.records.proofs.ColumnLaws.{columns_contents, content-at}

-- One content more, in front of the others.
longer-next : (content text : List ℕ) (row : ℕ) (later : List (ℕ × List ℕ))
    → longer_of content text row (longest_of (longest (filter (λ (c : ℕ × List ℕ). starts_with c.1 text) later))) ≡ longest_of (longest (filter (λ (c : ℕ × List ℕ). starts_with c.1 text) ((row, content) ∷ later)))
unfolding longer_of
longer-next content text row later = go (starts_with content text) (filter (λ (c : ℕ × List ℕ). starts_with c.1 text) later)
  where
    chosen : (d : ℕ × List ℕ) (t : Bool) → cond t (longest_of (Some (row, content))) (longest_of (Some d)) ≡ longest_of (Some (cond t (row, content) d))
    chosen d true = refl
    chosen d false = refl

    taken : (best : Option (ℕ × List ℕ)) → longer_than content row (longest_of best) ≡ longest_of (Some (longer (row, content) best))
    taken None = refl
    taken (Some d) = chosen d (leb (length d.1) (length content))

    go : (t : Bool) (stands : List (ℕ × List ℕ)) → cond t (longer_than content row (longest_of (longest stands))) (longest_of (longest stands)) ≡ longest_of (longest (cond t ((row, content) ∷ stands) stands))
    go true stands = taken (longest stands)
    go false stands = refl

module _ (bytes : List ℕ) (tokens : List AddedToken) (text : List ℕ) where
  -- The longest of the records from a row on.
  abbrev pub best_from : ℕ → Option Longest
  best_from row = longest_of (longest_from (map (content_of bytes) tokens) text row)

  pub best_start : best_from (length tokens) ≡ None
  best_start =
      let cs = map (content_of bytes) tokens in
      rw (drop_of_length-le (numbered cs) {i = length tokens} (omega (arith, length-numbered cs, length-map tokens (content_of bytes))))

  pub best_next : (row : ℕ) → row < length tokens → longer_of (content_of bytes (get_or tokens row no_token)) text row (best_from (suc row)) ≡ best_from row
  best_next row h =
      let cs = map (content_of bytes) tokens in
      rw (← content-at bytes tokens row)
      (longer-next (get_or cs row []) text row (drop (suc row) (numbered cs))
      ∙ ap (λ (rows : List (ℕ × List ℕ)). longest_of (longest (filter (λ (c : ℕ × List ℕ). starts_with c.1 text) rows))) (sym (numbered-at cs row (omega (arith, length-map tokens (content_of bytes))))))

  pub best_ended : best_from 0 ≡ longest_of (longest_at (contents (columns_of bytes tokens)) text)
  unfolding longest_at
  best_ended = rw (columns_contents bytes tokens)
