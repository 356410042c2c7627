-- `normalise::exchange::write_exchanged` meets its contract. The loop's invariant: the output of what was passed is written.
use Rattle.std.proofs.Common.{◌≤◌, ◌-◌, ◌++◌, length, drop}
use Rattle.utf8.proofs.Writing.{Written}
use Rattle.normalise.proofs.exchange.write_exchanged.Given as goal

abbrev pub invariant-loop-i : goal.invariant-loop-i
invariant-loop-i g l = (l.i ≤ length l.text) × Written (l.lead ++ g.E.Exchange.exchanged l.exchange l.text) (g.E.Exchange.exchanged l.exchange (drop l.i l.text)) l.fn.out l.out l.at

abbrev pub decreases-loop-i : goal.decreases-loop-i
decreases-loop-i g l = length l.text - l.i
