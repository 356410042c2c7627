-- `far` and the places before `s` give what all places give.
use mathlib.Core.Path.{◌≡◌}
use Prim.Native.Nat.{◌-◌, ◌≤◌, max}
use Rattle.utf8.specs.Lists.{count_from}
use Rattle.model.specs.Model.{tokens_of}
use Rattle.fragments.specs.inner.Most.{most}
use Rattle.fragments.specs.inner.Reach.{end_at, end_between}
use Rattle.fragments.proofs.Places.end_between.Given as goal

abbrev pub invariant-loop-s : goal.invariant-loop-s
invariant-loop-s l = (l.s ≤ l.to) × (max l.far (most (end_at l.self.unguarded (tokens_of l.self.tokens) l.self.text.now l.strip) (count_from l.from (l.s - l.from))) ≡ end_between l.self.unguarded (tokens_of l.self.tokens) l.self.text.now l.strip l.from l.to)
