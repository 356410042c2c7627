use Prim.Native.Nat.{ℕ}
use borrow.Author.Rules.{rules}
use Rattle.model.specs.Model.{strings_of}
use Rattle.index.specs.Index.{byte_id, byte_ids}
use Rattle.prepare.proofs.WalkLaws.{filled-start, filled_next, filled-ended}
use Rattle.prepare.proofs.fill.fill_byte_ids.Goals as goal
use Rattle.prepare.proofs.fill.fill_byte_ids.Goals.{Start}

-- the id of a byte
abbrev row : Start → ℕ → ℕ
row s = byte_id (strings_of s.args.pieces.now) s.args.lookup.now

pub loop-b-init : goal.loop-b-init
loop-b-init c = let s = (goal.at.loop-b-init c).Start in filled-start (row s) 256 326 s.args.words.now

pub key_id-requires : goal.key_id-requires
key_id-requires c = c.requires.ascending

pub loop-b-preserved : goal.loop-b-preserved
unfolding byte_id
loop-b-preserved c =
    let s = (goal.at.loop-b-preserved c).Start in
    filled_next (row s) 256 326 s.args.words.now c.loop-b.words c.loop-b.b c.loop-b.invariant (search rules) s.requires.byte_ids_at_in_bounds c.key_id.result c.key_id.ensures

pub shape_of-words : goal.shape_of-words
shape_of-words c = c.loop-b.invariant.long

pub returns : goal.returns
unfolding byte_ids
returns c =
    let s = (goal.at.returns c).Start in
    filled-ended (row s) 256 326 s.args.words.now c.loop-b.words c.loop-b.b c.loop-b.invariant (search rules)
