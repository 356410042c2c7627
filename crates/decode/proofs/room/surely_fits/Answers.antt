use Prim.Native.Nat.{ℕ, ◌+◌}
use native.Mathlib.Omega.{arith}
use mathlib.Core.Path.{◌≡◌, sym, ap, ◌∙◌}
use mathlib.Core.List.{List}
use borrow.Author.Tests.{le-leb}
use lib.Dec.{leb}
use lib.ListN.{drop, get_or, drop_of_length-le}
use Rattle.model.specs.Model.{strings_of, piece}
use Rattle.decode.specs.inner.Feeding.{most_of, most_for}
use Rattle.decode.proofs.RoomLaws.{most-next, too_much, part_fits}
use Rattle.decode.proofs.room.surely_fits.Goals as goal
use Rattle.decode.proofs.room.surely_fits.Goals.{After-most_of-most, At-loop-id}

abbrev pieces : At-loop-id → List (List ℕ)
pieces a = strings_of a.args.pieces.now

-- the next piece, and what those behind it become at the most
abbrev here : At-loop-id → List ℕ
here a = piece (pieces a) (get_or a.args.ids.now a.loop-id.id-index 0)

abbrev later : At-loop-id → ℕ
later a = most_for (pieces a) (drop (a.loop-id.id-index + 1) a.args.ids.now)

-- of the piece that was read
read : (m : After-most_of-most) → m.most_of-most.result ≡ most_of (here (goal.at.After-most_of-most m).At-loop-id)
unfolding piece
read m = m.most_of-most.ensures ∙ ap most_of m.get.ensures

-- all fit where that piece and those behind it do
onward : (m : After-most_of-most)
    → leb (most_for (pieces (goal.at.After-most_of-most m).At-loop-id) m.args.ids.now) m.args.room ≡ leb (m.most_of-most.result + later (goal.at.After-most_of-most m).At-loop-id) m.loop-id.left
onward m =
    let a = (goal.at.After-most_of-most m).At-loop-id in
    a.loop-id.invariant
    ∙ ap (λ (n : ℕ). leb n a.loop-id.left) (most-next (pieces a) a.args.ids.now a.loop-id.id-index m.loop-id-test.true ∙ ap (λ (n : ℕ). n + later a) (sym (read m)))

pub returns-then-left-most : goal.returns-then-left-most
returns-then-left-most c = let m = (goal.at.returns-then-left-most c).After-most_of-most in sym (onward m ∙ too_much m.most_of-most.result (later (goal.at.returns-then-left-most c).At-loop-id) m.loop-id.left c.if-left-most.true)

pub loop-id-preserved : goal.loop-id-preserved
loop-id-preserved c =
    let m = (goal.at.loop-id-preserved c).After-most_of-most in
    onward m ∙ part_fits m.most_of-most.result (later (goal.at.loop-id-preserved c).At-loop-id) m.loop-id.left c.if-left-most.false

pub returns : goal.returns
returns c =
    let a = (goal.at.returns c).At-loop-id in
    sym (a.loop-id.invariant
    ∙ ap (λ (l : List ℕ). leb (most_for (pieces a) l) a.loop-id.left) (drop_of_length-le a.args.ids.now {i = a.loop-id.id-index} c.loop-id-test.false)
    ∙ le-leb 0 a.loop-id.left (omega arith))
