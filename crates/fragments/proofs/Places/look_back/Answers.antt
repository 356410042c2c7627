use mathlib.Core.Path.{◌≡◌, ap, ap₂, ◌∙◌}
use Prim.Native.Nat.{max, ◌-◌}
use Rattle.model.specs.Model.{tokens_of}
use Rattle.fragments.specs.inner.Reach.{plain_far, strip_far}
use Rattle.fragments.proofs.GivenLaws.{fine_by, long_by}
use Rattle.fragments.proofs.ReachLaws.{found_far, found_near}
use Rattle.fragments.proofs.Places.look_back.Goals as goal
use Rattle.fragments.proofs.Places.look_back.Goals.{After-max-far}

from_is : (c : After-max-far) → c.max-from.result ≡ max c.args.at (c.stop_before-stop.result - c.args.self.now.longest)
from_is c = c.max-from.ensures ∙ ap (max c.args.at) c.saturating_sub.ensures

far_is : (c : After-max-far) → c.max-far.result ≡ max (plain_far c.args.self.now.unguarded c.end_between.result) (strip_far c.args.self.now.text.now c.stop_before-stop.result c.end_between-2.result)
far_is c = c.max-far.ensures ∙ ap₂ max c.plain_far-plain.ensures c.strip_far-strip.ensures

pub returns-then-p-far : goal.returns-then-p-far
returns-then-p-far c =
    let k = (goal.at.returns-then-p-far c).After-max-far in
    let a = k.args in
    let r = k.requires in
    found_far a.self.now.unguarded (tokens_of a.self.now.tokens) a.self.now.text.now (fine_by a.self.now) a.self.now.longest (long_by a.self.now) a.at a.p r.at_le_p.0 r.at_le_p.1 r.edge.0 r.edge.1
    _ _ _ _ _ k.stop_before-stop.ensures (from_is k) k.end_between.ensures k.end_between-2.ensures (far_is k) c.if-p-far.true

pub returns-else-p-far : goal.returns-else-p-far
returns-else-p-far c =
    let k = (goal.at.returns-else-p-far c).After-max-far in
    let a = k.args in
    let r = k.requires in
    found_near a.self.now.unguarded (tokens_of a.self.now.tokens) a.self.now.text.now (fine_by a.self.now) a.self.now.longest (long_by a.self.now) a.at a.p r.at_le_p.0 r.at_le_p.1 r.edge.0 r.edge.1
    _ _ _ _ _ k.stop_before-stop.ensures (from_is k) k.end_between.ensures k.end_between-2.ensures (far_is k) c.if-p-far.false
