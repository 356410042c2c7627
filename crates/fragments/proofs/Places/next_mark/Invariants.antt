-- A search from `p` on finds what one from `from` on does.
use mathlib.Core.Path.{◌≡◌}
use mathlib.Core.Bool.{true}
use Prim.Native.Nat.{◌-◌}
use lib.ListN.{length}
use Rattle.utf8.specs.Lists.{find, count_from}
use Rattle.units.specs.Units.{mark_cuts}
use Rattle.units.specs.inner.Read.{crossings_in}
use Rattle.fragments.proofs.Places.next_mark.Given as goal

abbrev pub invariant-loop-p : goal.invariant-loop-p
invariant-loop-p l = find (mark_cuts l.self.cutter.kind (crossings_in l.self.cutter) true l.self.text.now) (count_from l.from (length l.self.text.now - l.from)) ≡ find (mark_cuts l.self.cutter.kind (crossings_in l.self.cutter) true l.self.text.now) (count_from l.p (length l.self.text.now - l.p))
