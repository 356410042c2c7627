use mathlib.Core.Path.{◌∙◌}
use mathlib.Core.List.{List}
use Prim.Native.Nat.{ℕ}
use Rattle.model.specs.Model.{strings_of}
use Rattle.prepare.proofs.WalkLaws.{key_at, key_none}
use Rattle.prepare.proofs.fill.key_id.Goals as goal
use Rattle.prepare.proofs.fill.key_id.Goals.{Start}

abbrev pieces : Start → List (List ℕ)
pieces s = strings_of s.args.pieces.now

pub returns-in-Some : goal.returns-in-Some
returns-in-Some c =
    let st = (goal.at.returns-in-Some c).Start in
    c.number_at.ensures ∙ key_at (pieces st) st.args.lookup.now st.requires st.args.key.now c.find_piece.result c.find_piece.ensures _ c.in-Some.is

pub returns-in-None : goal.returns-in-None
returns-in-None c =
    let st = (goal.at.returns-in-None c).Start in
    key_none (pieces st) st.args.lookup.now st.requires st.args.key.now c.find_piece.result c.find_piece.ensures c.in-None.is
