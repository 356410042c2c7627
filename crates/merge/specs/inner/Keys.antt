-- The rows of adjacent ids, kept as numbers while the ids are merged.
use Rattle.std.specs.Prelude.{ℕ, suc, ◌/◌, ◌%◌, ◌≡◌, cond, List, [], ◌∷◌, leb, ltb, take, drop, get_or, Option, None, Some}
use Rattle.index.specs.inner.Find.{row_from}
use Rattle.index.specs.declared.RowIndex.{RowIndex}
use Rattle.merge.specs.declared.Joining.{Joining}

-- A row's place and its rank.
abbrev pub Ranked : Type 0
Ranked = ℕ × ℕ

-- The same as one number, 2^31 times the rank and the place; 2^63 and more stand for no row.
abbrev pub row_span : ℕ
row_span = 2147483648

abbrev pub no_key : ℕ
no_key = 9223372036854775808

unfoldable pub key_row : ℕ → Option Ranked
key_row key = cond (ltb key no_key) (Some (key % row_span, key / row_span)) None

abbrev pub ranked_row : List ℕ → Option ℕ → Option Ranked
ranked_row rank None = None
ranked_row rank (Some i) = Some (i, get_or rank i 0)

-- The row at which a search for a pair ends, on any tables.
unfoldable pub pair_row : List ℕ → List ℕ → List ℕ → List ℕ → ℕ → ℕ → ℕ → Option Ranked
pair_row left right rank row_index shift l r = ranked_row rank (row_from left right row_index shift l r)

-- The same by the tables of an index.
abbrev pub ranked_by : RowIndex → ℕ → ℕ → Option Ranked
ranked_by x = pair_row x.rows.left.now x.rows.right.now x.rows.rank.now x.words.now x.shift

-- What an id has with the next, if one follows.
abbrev pub with_next : (ℕ → ℕ → Option Ranked) → ℕ → List ℕ → Option Ranked
with_next row a [] = None
with_next row a (b ∷ ids) = row a b

-- What each id has with the next.
abbrev pub next_rows : (ℕ → ℕ → Option Ranked) → List ℕ → List (Option Ranked)
next_rows row [] = []
next_rows row (a ∷ ids) = with_next row a ids ∷ next_rows row ids

-- The one of lower rank, of equals the first.
abbrev pub lower_turn : Option Joining → Option Joining → Option Joining
lower_turn None t = t
lower_turn (Some j) None = Some j
lower_turn (Some j) (Some k) = cond (leb j.rank k.rank) (Some j) (Some k)

-- What a turn does by such rows; place is that of the first.
abbrev pub row_turn : List ℕ → ℕ → Option Ranked → Option Joining
row_turn result place None = None
row_turn result place (Some row) = Some (record { place = place; result = get_or result row.0 0; rank = row.1 })

abbrev pub rows_turn : List ℕ → ℕ → List (Option Ranked) → Option Joining
rows_turn result place [] = None
rows_turn result place (row ∷ rows) = lower_turn (row_turn result place row) (rows_turn result (suc place) rows)

-- Those before from and those from to on are right.
pub record Kept (rows kept : List (Option Ranked)) (from to : ℕ) : Type 0 where
  pub front : take from kept ≡ take from rows
  pub back : drop to kept ≡ drop to rows
