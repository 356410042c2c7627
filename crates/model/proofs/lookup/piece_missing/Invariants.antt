-- Pieces from `id` on are missing exactly if some are.
use Rattle.std.proofs.Common.{◌≡◌}
use Rattle.model.specs.Model.{strings_of}
use Rattle.model.specs.Check.{piece_missing}
use Rattle.model.proofs.LookupLaws.{missing_from}
use Rattle.model.proofs.lookup.piece_missing.Given as goal

abbrev pub invariant-loop-id : goal.invariant-loop-id
invariant-loop-id l = piece_missing (strings_of l.pieces) l.lookup ≡ missing_from (strings_of l.pieces) l.lookup l.id
