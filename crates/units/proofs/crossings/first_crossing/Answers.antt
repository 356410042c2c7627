use mathlib.Core.Path.{sym, ◌∙◌}
use native.Mathlib.Omega.{arith}
use Rattle.units.specs.Kinds.{crosses_at}
use Rattle.units.proofs.NextLaws.{search_start, search_found, search_next, search_ended}
use Rattle.units.proofs.CrossingLaws.{uncrossed_byte}
use Rattle.units.proofs.crossings.first_crossing.Goals as goal
use Rattle.units.proofs.crossings.first_crossing.Goals.{else-piece-p-via-then-piece-p+else-crosses_at, else-piece-p-via-else-piece-p}

pub loop-p-init : goal.loop-p-init
loop-p-init c = search_start (crosses_at c.args.piece.now) c.args.piece.now 0

pub returns-then-crosses_at : goal.returns-then-crosses_at
returns-then-crosses_at c =
    let l = c.loop-p in
    let s = c.args.piece.now in
    (sym (l.invariant ∙ search_found (crosses_at s) s l.p c.loop-p-test.true (sym c.if-crosses_at.ensures)), c.loop-p-test.true)

pub loop-p-preserved : goal.loop-p-preserved
loop-p-preserved c =
    let l = c.loop-p in
    let s = c.args.piece.now in
    elim c.else-piece-p.branch [
      | else-piece-p-via-then-piece-p+else-crosses_at w ↦ l.invariant ∙ search_next (crosses_at s) s l.p c.loop-p-test.true (sym w.if-crosses_at.ensures)
      | else-piece-p-via-else-piece-p w ↦ l.invariant ∙ search_next (crosses_at s) s l.p c.loop-p-test.true (uncrossed_byte s l.p w.if-piece-p.false)
    ]

pub returns : goal.returns
returns c =
    let l = c.loop-p in
    let s = c.args.piece.now in
    omega (arith, l.invariant ∙ search_ended (crosses_at s) s l.p c.loop-p-test.false)
