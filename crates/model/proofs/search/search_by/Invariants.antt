-- Whatever tells what the closure answers: the search between `lo` and `hi` ends as the whole does.
use Rattle.std.proofs.Common.{◌≡◌, ◌<◌, ◌≤◌, ◌-◌, ℕ}
use Rattle.std.specs.declared.cmp.Ordering.{Ordering}
use Rattle.model.proofs.SearchLaws.{Halving}
use Rattle.model.proofs.search.search_by.Given as goal

abbrev pub invariant-loop-lo : goal.invariant-loop-lo
invariant-loop-lo g l =
    (l.hi ≤ l.to) × ((told : ℕ → Ordering) → ((i : ℕ) (o : Ordering) → i < l.to → g.F.Fn.post l.order (i, tt) o → o ≡ told i) → Halving told l.from l.to l.lo l.hi)

abbrev pub decreases-loop-lo : goal.decreases-loop-lo
decreases-loop-lo g l = l.hi - l.lo
