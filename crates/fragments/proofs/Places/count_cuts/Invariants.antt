-- The cuts are counted up to the last.
use Prim.Native.Nat.{◌-◌, max}
use lib.ListN.{length}
use Rattle.fragments.proofs.CutLaws.{over}
use Rattle.fragments.proofs.PassLaws.{Counting, some_step}
use Rattle.fragments.proofs.Places.count_cuts.Given as goal

abbrev pub invariant-loop-cut : goal.invariant-loop-cut
invariant-loop-cut l = Counting (over l.self) (max l.target 1) (some_step l.target) l.cuts l.last.place l.last.ahead

abbrev pub decreases-loop-cut : goal.decreases-loop-cut
decreases-loop-cut l = length l.self.text.now - l.last.place
