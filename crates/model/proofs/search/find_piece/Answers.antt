use Rattle.std.proofs.Common.{◌≡◌, min, length, ap, ◌∙◌, arith}
use Rattle.model.specs.Model.{strings_of}
use Rattle.model.specs.inner.Search.{searched, piece_order, found_piece}
use Rattle.model.proofs.search.find_piece.Goals as goal

pub returns : goal.returns
unfolding found_piece
returns c =
    let whole : min (length c.args.lookup.now) (length c.args.lookup.now) ≡ length c.args.lookup.now = omega arith in
    c.find_piece_between.ensures ∙ ap (searched (piece_order (strings_of c.args.pieces.now) c.args.lookup.now c.args.key.now) 0) whole
