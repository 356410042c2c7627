-- From `start` up to `i` the cells are blank, and those before it as they were.
use Rattle.std.proofs.Common.{◌≡◌, ◌++◌, ◌-◌, take, replicate}
use Rattle.model.proofs.clear.clear.Given as goal

abbrev pub invariant-loop-i : goal.invariant-loop-i
invariant-loop-i g l = take l.i l.out ≡ take l.start l.initial.out ++ replicate (l.i - l.start) l.blank
