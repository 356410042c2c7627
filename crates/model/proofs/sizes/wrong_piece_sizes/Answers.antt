use Rattle.std.proofs.Common.{arith}
use Rattle.std.proofs.lemmas.Grind.{common_steps}
use Rattle.model.specs.Check.{wrong_piece_sizes}
use Rattle.utf8.proofs.Places.{empty_by_length}
use Rattle.model.proofs.sizes.wrong_piece_sizes.Goals as goal

pub returns-then-pieces-gt-PIECE_BYTE_LIMIT : goal.returns-then-pieces-gt-PIECE_BYTE_LIMIT
unfolding wrong_piece_sizes
returns-then-pieces-gt-PIECE_BYTE_LIMIT c = grind (arith, common_steps, empty_by_length)

pub returns-else-pieces-gt-PIECE_BYTE_LIMIT : goal.returns-else-pieces-gt-PIECE_BYTE_LIMIT
unfolding wrong_piece_sizes
returns-else-pieces-gt-PIECE_BYTE_LIMIT c = grind (arith, common_steps, empty_by_length)
