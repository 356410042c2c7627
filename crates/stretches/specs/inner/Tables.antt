-- What the passes over a text are lent of a model, with the two rows that were derived of it, and what is found by them.
use Rattle.std.specs.Prelude.{ℕ, ◌-◌, Bool, List, get_or, take, drop, Option}
use Rattle.model.specs.Model.{Row, strings}
use Rattle.units.specs.Units.{begins_unit}
use Rattle.units.specs.inner.Read.{pair_noted, named_crossings}
use Rattle.merge.specs.inner.Laid.{own_found}
use Rattle.merge.specs.inner.Turns.{row_in}
use Rattle.prepare.specs.Layout.{kind_at, crossing_count_at, crossings_at, mark_id_at, shift_at, first_bytes_at, buckets_at, first_tokens_at}
use Rattle.prepare.specs.inner.Read.{kind_from}
use Rattle.prepare.specs.declared.Prepared.{Prepared}
use Rattle.stretches.specs.inner.Writers.{Writer, stretch_writer}

pub record Tables : Type 0 where
  pub adjacency : List ℕ
  pub index : List ℕ
  pub piece_bytes : List ℕ
  pub piece_offsets : List ℕ
  pub lookup : List ℕ
  pub fallback : List ℕ
  pub left : List ℕ
  pub right : List ℕ
  pub result : List ℕ
  pub rank : List ℕ

abbrev pub tables_in : Prepared → Tables
tables_in p = record {
  adjacency = p.adjacency.now;
  index = p.index.now;
  piece_bytes = p.model.now.pieces.bytes.now;
  piece_offsets = p.model.now.pieces.offsets.now;
  lookup = p.model.now.lookup.now;
  fallback = p.model.now.fallback.now;
  left = p.model.now.rows.left.now;
  right = p.model.now.rows.right.now;
  result = p.model.now.rows.result.now;
  rank = p.model.now.rows.rank.now;
}

-- The words of a row from one place up to another.
abbrev pub words : ℕ → ℕ → List ℕ → List ℕ
words from to row = take (to - from) (drop from row)

-- The id of a character.
unfoldable pub own_in : Tables → List ℕ → Option ℕ
own_in t = own_found t.piece_bytes t.piece_offsets t.lookup (words first_bytes_at buckets_at t.index) (get_or t.index mark_id_at 0)

-- The row of a pair.
unfoldable pub rows_in : Tables → ℕ → ℕ → Option Row
rows_in t = row_in t.left t.right t.result t.rank (words buckets_at first_tokens_at t.index) (get_or t.index shift_at 0)

-- Where a unit starts.
unfoldable pub cuts_in : Tables → Bool → List ℕ → ℕ → Bool
cuts_in t raw bytes =
    begins_unit (kind_from (get_or t.index kind_at 0))
    (named_crossings (strings t.piece_bytes t.piece_offsets) (words crossings_at mark_id_at t.index) (get_or t.index crossing_count_at 0))
    (pair_noted t.adjacency) raw bytes

-- The writer of a stretch.
unfoldable pub stretch_in : Tables → Bool → Bool → List ℕ → Writer
stretch_in t virtual raw bytes =
    stretch_writer (rows_in t) (own_in t) t.fallback (cuts_in t raw bytes) virtual raw bytes
