use Prim.Native.Nat.{ℕ, ◌≤◌}
use mathlib.Core.Path.{sym, ◌∙◌}
use mathlib.Core.List.{List}
use native.Mathlib.Omega.{arith}
use lib.ListN.{take}
use lib.Seq.{length-take-le}
use Rattle.utf8.proofs.Trim.{white_end-le, trim_end_stops, trim_end-next, white_begins}
use Rattle.utf8.proofs.white_space.trim_end.Goals as goal
use Rattle.utf8.proofs.white_space.trim_end.Goals.{After-white_end-w}

module _ (c : After-white_end-w) where
  abbrev text : List ℕ
  text = c.args.s.now

  abbrev place : ℕ
  place = c.loop-end.end

  begins : c.white_end-w.result ≤ place
  begins = omega (arith, c.white_end-w.ensures, white_begins text place c.loop-end.invariant.0)

pub returns-then-w-eq0 : goal.returns-then-w-eq0
returns-then-w-eq0 c =
    let b = (goal.at.returns-then-w-eq0 c).After-white_end-w in
    sym (b.loop-end.invariant.1 ∙ trim_end_stops (take (place b) (text b)) (sym b.white_end-w.ensures ∙ c.if-w-eq0.true))

pub overflow_sub-end : goal.overflow_sub-end
overflow_sub-end c = begins (goal.at.overflow_sub-end c).After-white_end-w

pub loop-end-preserved : goal.loop-end-preserved
loop-end-preserved c =
    let b = (goal.at.loop-end-preserved c).After-white_end-w in
    let w = b.white_end-w.ensures in
    let inv = b.loop-end.invariant in
    (omega arith, inv.1 ∙ rw w (trim_end-next (text b) (place b) inv.0 (omega arith)))

pub returns : goal.returns
returns c =
    let t = take c.loop-end.end c.args.s.now in
    let short = length-take-le c.loop-end.end c.args.s.now c.loop-end.invariant.0 in
    sym (c.loop-end.invariant.1 ∙ trim_end_stops t (omega (arith, white_end-le t)))
