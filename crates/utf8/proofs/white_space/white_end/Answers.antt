-- `utf8::white_space::white_end` meets its contract. Assumes nothing.
use Prim.Native.Nat.{◌-◌}
use mathlib.Core.Path.{sym, ◌∙◌}
use native.Mathlib.Omega.{arith}
use lib.ListN.{length}
use Rattle.utf8.proofs.Lists.{part_to_end}
use Rattle.utf8.proofs.Last.{last_width-le}
use Rattle.utf8.proofs.Trim.{white_end_by_width}
use Rattle.utf8.proofs.white_space.white_end.Goals as goal

pub overflow_sub-s : goal.overflow_sub-s
overflow_sub-s c = omega (arith, last_width-le c.args.s.now)

pub returns : goal.returns
returns c =
    let s = c.args.s.now in
    let at_width = rw (part_to_end s (length s - c.last_width.result), c.last_width.ensures) at c.white_width.ensures in
    at_width ∙ sym (white_end_by_width s)
