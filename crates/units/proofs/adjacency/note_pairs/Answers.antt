use mathlib.Core.Path.{◌≡◌, sym, ◌∙◌}
use Prim.Native.Nat.{◌+◌, ◌-◌}
use native.Mathlib.Omega.{arith}
use Rattle.units.proofs.AdjacencyLaws.{noted-next, noted-ended}
use Rattle.units.proofs.adjacency.note_pairs.Goals as goal

pub loop-i-preserved : goal.loop-i-preserved
loop-i-preserved c =
    let l = c.loop-i in
    let here : l.i + 1 - 1 ≡ l.i = omega arith in
    rw (here, c.note_pair.ensures) (sym (noted-next c.args.bytes.now l.rows (l.i - 1) l.i (omega arith) (omega arith)) ∙ l.invariant)

pub returns : goal.returns
returns c =
    let l = c.loop-i in
    sym (noted-ended c.args.bytes.now l.rows (l.i - 1) (omega arith)) ∙ l.invariant
