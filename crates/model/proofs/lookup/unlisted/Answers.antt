-- In a list that ascends, a search finds a place exactly if the piece is listed.
use Rattle.std.proofs.Math.Bool.{not-not}
use mathlib.Core.Path.{◌≡◌, sym, ap, ◌∙◌}
use mathlib.Core.Bool.{Bool, true, false, ◌&&◌}
use mathlib.Core.List.{List}
use borrow.Author.Tests.{lt-ltb}
use Prim.Native.Nat.{ℕ}
use Rattle.utf8.specs.Lists.{is_empty}
use Rattle.utf8.proofs.Places.{empty_by_length}
use Rattle.model.specs.Model.{strings_of, piece}
use Rattle.model.specs.inner.Tests.{is_long, long_missing}
use Rattle.model.proofs.LookupLaws.{listed_by}
use Rattle.model.proofs.CompleteLaws.{spared}
use Rattle.model.proofs.lookup.unlisted.Goals as goal
use Rattle.model.proofs.lookup.unlisted.Goals.{After-is_empty, Start}

abbrev pieces : Start → List (List ℕ)
pieces s = strings_of s.args.pieces.now

-- what the first test said of the piece
tested : (e : After-is_empty) (b : Bool) → e.is_empty.result ≡ b → is_empty (piece (pieces (goal.at.After-is_empty e).Start) e.args.id) ≡ b
unfolding piece
tested e b is = ap is_empty (sym e.get-key.ensures) ∙ empty_by_length e.get-key.result.now ∙ sym e.is_empty.ensures ∙ is

pub returns-then-is_empty : goal.returns-then-is_empty
returns-then-is_empty c = rw (tested (goal.at.returns-then-is_empty c).After-is_empty true c.if-is_empty.true)

pub returns-then-key-gt1 : goal.returns-then-key-gt1
unfolding piece is_long
returns-then-key-gt1 c =
    let s = (goal.at.returns-then-key-gt1 c).Start in
    let all : long_missing (pieces s) s.args.lookup.now ≡ false = sym (ap (λ (b : Bool). b && long_missing (pieces s) s.args.lookup.now) c.if-long_listed.true) ∙ s.requires.long_listed in
    let long = lt-ltb 1 _ c.if-key-gt1.true in
    rw (tested (goal.at.returns-then-key-gt1 c).After-is_empty false c.if-is_empty.false, spared (pieces s) s.args.lookup.now s.args.id all (ap is_long (sym c.get-key.ensures) ∙ long))

pub returns : goal.returns
unfolding piece
returns c =
    let s = (goal.at.returns c).Start in
    let listed = listed_by (pieces s) s.args.lookup.now s.requires.ascending (piece (pieces s) s.args.id) c.get-key.result.now c.find_piece.result c.find_piece.ensures c.get-key.ensures in
    rw (tested (goal.at.returns c).After-is_empty false c.if-is_empty.false, listed, c.is_none.ensures) (sym (not-not c.is_none.result))
