-- `units::spans::some_around` meets its contract. The loop's invariant: a crossing lies around exactly if one from number `k` on does.
use mathlib.Core.Path.{◌≡◌}
use Prim.Native.Nat.{◌-◌, ◌*◌}
use Rattle.utf8.specs.Lists.{any}
use Rattle.model.specs.Model.{strings_of}
use Rattle.units.specs.inner.Read.{named_crossings, crossings_in}
use Rattle.units.specs.inner.Around.{around}
use lib.ListN.{drop}
use Rattle.units.proofs.Cutter.some_around.Given as goal

abbrev pub invariant-loop-k : goal.invariant-loop-k
invariant-loop-k l =
    any (around l.before l.after) (crossings_in l.self)
    ≡ any (around l.before l.after) (named_crossings (strings_of l.self.pieces) (drop (2 * l.k) l.self.noted.now) (l.self.count - l.k))
