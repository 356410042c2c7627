use native.Mathlib.Omega.{arith}
use Prim.Native.Nat.{max}
use Rattle.fragments.proofs.CutLaws.{over}
use Rattle.fragments.proofs.PassLaws.{none_after}
use Rattle.fragments.proofs.Places.cut_after.Goals as goal

pub returns-then-self-last : goal.returns-then-self-last
returns-then-self-last c =
    let a = c.args in
    none_after (over a.self.now) a.last.place (max a.target 1) (omega arith)
