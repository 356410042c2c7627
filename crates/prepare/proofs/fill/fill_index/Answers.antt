-- the words of the pieces, and behind them those of the tokens.
use native.Mathlib.Omega.{arith}
use Rattle.model.specs.Model.{strings_of}
use Rattle.prepare.proofs.LayoutLaws.{index-filled}
use Rattle.prepare.proofs.fill.fill_index.Goals as goal

pub fill_pieces-requires : goal.fill_pieces-requires
fill_pieces-requires c = record { ascending = c.requires.ascending; lookup_len_bound = c.requires.lookup_len_bound; left_len_bound = c.requires.left_len_bound; noted_len = c.requires.noted_len; first_tokens_at_in_bounds = omega (arith, c.requires.index_length_in_bounds) }

pub returns : goal.returns
returns c =
    index-filled c.args.found.now.kind c.args.found.now.raw_path c.args.found.now.count c.args.found.now.noted.now (strings_of c.args.model.now.pieces) c.args.model.now.lookup.now c.args.model.now.rows.left.now c.args.model.now.rows.right.now c.args.model.now.rows.rank.now
    (strings_of c.args.model.now.first.contents) (strings_of c.args.model.now.second.contents) c.requires.noted_len
    c.args.words.now c.fill_pieces.new.words c.fill_tokens.new.words c.fill_pieces.ensures c.fill_tokens.ensures
