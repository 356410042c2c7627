-- It goes on behind the blocks that have a mark.
use Prim.Native.Nat.{suc, ◌-◌}
use lib.ListN.{length}
use Rattle.fragments.proofs.CutLaws.{Searching, over}
use Rattle.fragments.proofs.Places.next_cut.Given as goal

abbrev pub invariant-loop-mark : goal.invariant-loop-mark
invariant-loop-mark l = Searching (over l.self) l.from l.last.place l.last.ahead l.p

abbrev pub decreases-loop-mark : goal.decreases-loop-mark
decreases-loop-mark l = suc (length l.self.text.now) - l.p
