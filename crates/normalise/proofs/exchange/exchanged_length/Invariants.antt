-- `normalise::exchange::exchanged_length` meets its contract. The loop's invariant: the output of what was passed is counted.
use Rattle.std.proofs.Common.{◌≤◌, ◌-◌, ◌++◌, length, drop}
use Rattle.normalise.proofs.Measuring.{Measured}
use Rattle.normalise.proofs.exchange.exchanged_length.Given as goal

abbrev pub invariant-loop-i : goal.invariant-loop-i
invariant-loop-i g l = (l.i ≤ length l.text) × Measured (l.lead ++ g.E.Exchange.exchanged l.exchange l.text) (g.E.Exchange.exchanged l.exchange (drop l.i l.text)) l.room l.left

abbrev pub decreases-loop-i : goal.decreases-loop-i
decreases-loop-i g l = length l.text - l.i
