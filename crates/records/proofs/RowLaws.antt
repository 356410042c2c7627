-- Laws of what one record does at a place.
use Prim.Native.Nat.{ℕ, ◌+◌, ◌<◌}
use mathlib.Core.Path.{◌≡◌}
use mathlib.Core.Bool.{true}
use mathlib.Core.List.{List}
use lib.ListN.{length, drop}
use Rattle.std.specs.Prelude.{None, Some}
use Rattle.utf8.specs.Lists.{starts_with}
use Rattle.utf8.proofs.Starts.{no_elements, not-empty}
use Rattle.model.specs.Model.{Token}
use Rattle.sections.specs.inner.Strips.{stop_at, start_at}
use Rattle.records.specs.inner.Rows.{standing_of}

module _ (token : Token) (text : List ℕ) (start place : ℕ) where
  -- An empty content stands nowhere.
  pub standing-empty : length token.content ≡ 0 → standing_of token text start place ≡ None
  unfolding standing_of
  standing-empty h = rw (no_elements token.content h)

  pub standing_here : 0 < length token.content → starts_with token.content (drop place text) ≡ true
      → standing_of token text start place
      ≡ Some (record { stop = stop_at token.lstrip text start place; next = start_at token.rstrip text (place + length token.content); id = token.id })
  unfolding standing_of
  standing_here h e = rw (not-empty token.content h, e)
