-- `far` and the rows from `row` on give what all rows give.
use mathlib.Core.Path.{◌≡◌}
use Prim.Native.Nat.{◌-◌, max}
use lib.ListN.{length}
use Rattle.utf8.specs.Lists.{count_from}
use Rattle.model.specs.Model.{contents, tokens_of}
use Rattle.fragments.specs.inner.Most.{most}
use Rattle.fragments.specs.inner.Reach.{end_of, end_at}
use Rattle.fragments.proofs.Places.end_at.Given as goal

abbrev pub invariant-loop-row : goal.invariant-loop-row
invariant-loop-row l = max l.far (most (end_of l.self.unguarded (tokens_of l.self.tokens) l.self.text.now l.strip l.s) (count_from l.row (length (contents (tokens_of l.self.tokens)) - l.row))) ≡ end_at l.self.unguarded (tokens_of l.self.tokens) l.self.text.now l.strip l.s
