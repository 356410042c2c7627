-- `decode::pass::put_decoded` meets its contract: what was held at the end is put out behind what was settled. Assumes nothing.
use Prim.Native.Nat.{ℕ}
use native.Mathlib.Omega.{arith}
use mathlib.Core.List.{List}
use Rattle.model.specs.Model.{strings_of}
use Rattle.decode.specs.Decode.{joined_bytes}
use Rattle.decode.proofs.StateLaws.{sound_empty}
use Rattle.decode.proofs.ByteLaws.{start_room}
use Rattle.decode.proofs.PassLaws.{end_room, ended}
use Rattle.decode.proofs.pass.put_decoded.Goals as goal
use Rattle.decode.proofs.pass.put_decoded.Goals.{Start}

abbrev bytes : Start → List ℕ
bytes s = joined_bytes (strings_of s.args.pieces.now) s.args.ids.now

pub feed_ids-progress-requires : goal.feed_ids-progress-requires
feed_ids-progress-requires c = let s = (goal.at.feed_ids-progress-requires c).Start in
    record { sound = rw c.new.ensures (sound_empty s.args.begun); ids_len_bound = start_room s.args.begun (bytes s) s.requires _ c.new.ensures }

pub put_strays-requires : goal.put_strays-requires
put_strays-requires c =
    let s = (goal.at.put_strays-requires c).Start in
    omega (arith, c.len.ensures, end_room s.args.begun (bytes s) s.requires _ c.new.ensures _ _ c.feed_ids-progress.ensures.0 c.feed_ids-progress.ensures.1)

pub returns : goal.returns
returns c =
    let s = (goal.at.returns c).Start in
    ended s.args.begun (bytes s) s.requires _ c.new.ensures _ _ c.feed_ids-progress.ensures.0 c.feed_ids-progress.ensures.1 _ (rw c.len.ensures at c.put_strays.ensures)
