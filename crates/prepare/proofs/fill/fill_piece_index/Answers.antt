-- where first bytes begin, and behind that the ids of single bytes.
use Rattle.model.specs.Model.{strings_of}
use Rattle.prepare.proofs.LayoutLaws.{piece-index-filled}
use Rattle.prepare.proofs.fill.fill_piece_index.Goals as goal

pub returns : goal.returns
returns c =
    piece-index-filled (strings_of c.args.pieces.now) c.args.lookup.now c.args.words.now c.fill_first_bytes.new.words c.fill_byte_ids.new.words
    c.requires.buckets_at_in_bounds c.fill_first_bytes.ensures c.fill_byte_ids.ensures
