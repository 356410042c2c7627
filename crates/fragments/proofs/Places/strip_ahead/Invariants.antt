-- A search from `s` on finds what one from `p` on does.
use mathlib.Core.Path.{◌≡◌}
use Prim.Native.Nat.{◌-◌, ◌≤◌}
use lib.ListN.{length}
use Rattle.utf8.specs.Lists.{find}
use Rattle.model.specs.Model.{tokens_of}
use Rattle.fragments.specs.inner.Reach.{strips_at, places_ahead}
use Rattle.fragments.proofs.Places.strip_ahead.Given as goal

abbrev pub invariant-loop-p : goal.invariant-loop-p
invariant-loop-p l = (l.s ≤ length l.self.text.now) × (find (strips_at (tokens_of l.self.tokens) l.self.text.now) (places_ahead l.self.text.now l.p) ≡ find (strips_at (tokens_of l.self.tokens) l.self.text.now) (places_ahead l.self.text.now l.s))

abbrev pub decreases-loop-p : goal.decreases-loop-p
decreases-loop-p l = length l.self.text.now - l.s
