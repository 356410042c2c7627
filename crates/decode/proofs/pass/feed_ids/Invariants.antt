-- `decode::pass::feed_ids` meets its contract. The loop's invariant: what was put out and what is left to feed are what feeding all gives. Assumes nothing.
use mathlib.Core.Path.{◌≡◌}
use lib.ListN.{length, drop}
use Rattle.model.specs.Model.{strings_of}
use Rattle.decode.specs.Decode.{joined_bytes}
use Rattle.decode.proofs.PassLaws.{Passing}
use Rattle.decode.proofs.pass.feed_ids.Given as goal

abbrev pub invariant-loop-id : goal.invariant-loop-id
invariant-loop-id l =
    (length l.out ≡ length l.initial.out)
    × (Passing l.initial.decoder (joined_bytes (strings_of l.pieces) l.ids) l.decoder (joined_bytes (strings_of l.pieces) (drop l.id-index l.ids)) l.at l.out)
