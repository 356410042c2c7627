-- `utf8::chars::last_width` meets its contract. The loop's invariant: no whole character of a width below k stands at the right end.
-- Assumes nothing.
use Rattle.utf8.proofs.Last.{NoneBelow}
use Rattle.utf8.proofs.chars.last_width.Given as goal

abbrev pub invariant-loop-k : goal.invariant-loop-k
invariant-loop-k l = NoneBelow l.s l.k
