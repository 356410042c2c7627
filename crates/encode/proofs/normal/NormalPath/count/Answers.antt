-- `encode::normal::NormalPath::count` meets its contract: the steps, and then the parts of what they leave.
use mathlib.Core.Path.{◌∙◌}
use Rattle.encode.specs.inner.Passes.{Normal, normal_in}
use Rattle.encode.proofs.SteppedLaws.{section_uncounted, section_found}
use Rattle.encode.proofs.normal.NormalPath.count.Goals as goal
use Rattle.encode.proofs.normal.NormalPath.count.Goals.{Start}

abbrev normal_of : Start → Normal
normal_of s = normal_in s.args.self.now.model.now.prepared.now.model.now

pub returns-in_err-left : goal.returns-in_err-left
returns-in_err-left c =
    let n = normal_of (goal.at.returns-in_err-left c).Start in
    c.from_residual.ensures ∙ rw (← c.min-room.ensures) (section_uncounted n c.args.opening c.args.section.now c.min-room.result c.in_err-left.ensures _ _ c.args.cells)

pub returns : goal.returns
returns c =
    let n = normal_of (goal.at.returns c).Start in
    rw (← c.min-room.ensures) (section_found n c.args.opening c.args.section.now c.min-room.result c.in_ok-left.ensures.0 _ _ c.args.cells c.count_parts.ensures)
