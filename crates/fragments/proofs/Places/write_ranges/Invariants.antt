-- The ranges are written up to the last cut.
use Prim.Native.Nat.{◌-◌, max}
use lib.ListN.{length}
use Rattle.fragments.proofs.CutLaws.{over}
use Rattle.fragments.proofs.PassLaws.{Ranging, some_step}
use Rattle.fragments.proofs.Places.write_ranges.Given as goal

abbrev pub invariant-loop-cut : goal.invariant-loop-cut
invariant-loop-cut l = Ranging (over l.self) (max l.target 1) (some_step l.target) l.initial.out l.out l.written l.last.place l.last.ahead

abbrev pub decreases-loop-cut : goal.decreases-loop-cut
decreases-loop-cut l = length l.self.text.now - l.last.place
