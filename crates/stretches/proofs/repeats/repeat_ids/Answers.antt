-- `stretches::repeats::repeat_ids` meets its contract.
use Prim.Native.Nat.{◌+◌, ◌-◌}
use mathlib.Core.Path.{◌≡◌, ap, ◌∙◌}
use native.Mathlib.Omega.{arith}
use borrow.Author.Rules.{rules}
use lib.ListN.{take, drop}
use lib.Seq.{paste}
use Rattle.stretches.proofs.RepeatLaws.{length_copied, zeroed}
use Rattle.stretches.proofs.repeats.repeat_ids.Goals as goal

pub returns : goal.returns
returns c =
    let a = c.args in
    let copy = take a.count (drop a.at a.out.now) in
    let many : a.at + a.count - a.at ≡ a.count = omega arith in
    zeroed a.out.now copy a.to a.count a.starts (length_copied a.out.now a.at a.count a.to (search rules) (search rules)) (search rules) (search rules)
    (c.copy_within.ensures.after ∙ ap (paste a.out.now a.to (drop a.at a.out.now)) many) (c.fill.ensures.after (λ y e. e))
