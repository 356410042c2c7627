-- the two lengths, and then what is derived.
use mathlib.Core.Path.{sym}
use mathlib.Core.Path.{refl}
use Rattle.model.specs.Model.{Model, columns, pieces_of}
use Rattle.model.proofs.Accepted.{Accepted, accepted}
use Rattle.prepare.proofs.PrepareLaws.{short_rows, short_index, lookup-small, put_together}
use Rattle.prepare.proofs.prepare_checked.Goals as goal
use Rattle.prepare.proofs.prepare_checked.Goals.{Start}

-- the lent columns as a model
abbrev lent : Start → Model
lent s = columns s.args.model.now

ok : (s : Start) → Accepted (lent s)
ok s = accepted (lent s) s.requires

pub returns-then-adjacency-lt-ADJACENCY_LEN : goal.returns-then-adjacency-lt-ADJACENCY_LEN
returns-then-adjacency-lt-ADJACENCY_LEN c =
    let s = (goal.at.returns-then-adjacency-lt-ADJACENCY_LEN c).Start in
    sym (short_rows (lent s) s.args.adjacency.now s.args.index.now s.requires c.if-adjacency-lt-ADJACENCY_LEN.true)

pub returns-then-index-lt-INDEX_LEN : goal.returns-then-index-lt-INDEX_LEN
returns-then-index-lt-INDEX_LEN c =
    let s = (goal.at.returns-then-index-lt-INDEX_LEN c).Start in
    sym (short_index (lent s) s.args.adjacency.now s.args.index.now s.requires c.if-adjacency-lt-ADJACENCY_LEN.false c.if-index-lt-INDEX_LEN.true)

pub derive_adjacency-requires : goal.derive_adjacency-requires
derive_adjacency-requires c = c.if-adjacency-lt-ADJACENCY_LEN.false

pub derive_index-requires : goal.derive_index-requires
unfolding pieces_of
derive_index-requires c = let s = (goal.at.derive_index-requires c).Start in
    record { ascending = (ok s).lookup_rises; lookup_len_bound = lookup-small (lent s) (ok s); left_len_bound = (ok s).sizes.row_limit; index_length_in_bounds = c.if-index-lt-INDEX_LEN.false }

pub returns : goal.returns
returns c =
    let s = (goal.at.returns c).Start in
    put_together (lent s) s.args.adjacency.now s.args.index.now s.requires c.if-adjacency-lt-ADJACENCY_LEN.false c.if-index-lt-INDEX_LEN.false _ c.derive_adjacency.new.out c.derive_index.new.out refl c.derive_adjacency.ensures c.derive_index.ensures
