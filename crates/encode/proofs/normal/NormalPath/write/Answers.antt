-- `encode::normal::NormalPath::write` meets its contract: the steps, and then the parts of what they leave.
use mathlib.Core.Path.{◌≡◌, ap, ◌∙◌}
use mathlib.Core.Bool.{false}
use Rattle.normalise.specs.Normalise.{outgrows}
use Rattle.encode.specs.inner.Passes.{Normal, normal_in, outputs_in}
use Rattle.encode.proofs.SteppedLaws.{section_never, section_put, parts_short}
use Rattle.encode.proofs.normal.NormalPath.write.Goals as goal
use Rattle.encode.proofs.normal.NormalPath.write.Goals.{After-min-room, Start}

abbrev normal_of : Start → Normal
normal_of s = normal_in s.args.self.now.model.now.prepared.now.model.now

-- No output is too long for the room that was measured.
short_at : (k : After-min-room) → outgrows (outputs_in (normal_of (goal.at.After-min-room k).Start) k.args.opening k.args.section.now) k.min-room.result ≡ false
short_at k = ap (outgrows (outputs_in (normal_of (goal.at.After-min-room k).Start) k.args.opening k.args.section.now)) k.min-room.ensures ∙ k.requires

pub returns-in-None : goal.returns-in-None
returns-in-None c =
    let k = (goal.at.returns-in-None c).After-min-room in
    let n = normal_of (goal.at.returns-in-None c).Start in
    section_never n c.args.opening c.args.section.now c.min-room.result c.in-None.ensures (short_at k)

pub encode_parts-requires-clause-outputs_fit : goal.encode_parts-requires-clause-outputs_fit
encode_parts-requires-clause-outputs_fit c =
    let k = (goal.at.encode_parts-requires-clause-outputs_fit c).After-min-room in
    let n = normal_of (goal.at.encode_parts-requires-clause-outputs_fit c).Start in
    parts_short n c.args.opening c.args.section.now c.min-room.result c.in-Some.ensures.0 (short_at k)

pub returns-in-Some : goal.returns-in-Some
returns-in-Some c =
    let n = normal_of (goal.at.returns-in-Some c).Start in
    section_put n c.args.opening c.args.section.now c.min-room.result c.in-Some.ensures.0 _ c.args.out.now c.encode_parts.ensures
