use mathlib.Core.Path.{sym, ◌∙◌}
use Prim.Native.Nat.{◌+◌, ◌-◌}
use native.Mathlib.Omega.{arith}
use lib.ListN.{length}
use Rattle.utf8.proofs.Lists.{part_to_end}
use Rattle.utf8.proofs.Last.{none_more, last_width_found, last_width-none}
use Rattle.utf8.proofs.chars.last_width.Goals as goal

pub loop-k-init : goal.loop-k-init
loop-k-init c = λ j pos below fits e. omega arith

pub returns-then-char_width-k : goal.returns-then-char_width-k
returns-then-char_width-k c =
    let s = c.args.s.now in
    let found = rw (part_to_end s (length s - c.loop-k.k)) at c.char_width.ensures in
    sym (last_width_found s c.loop-k.k (omega arith) (omega arith) (sym found ∙ c.if-char_width-k.true))

pub loop-k-preserved : goal.loop-k-preserved
loop-k-preserved c =
    let s = c.args.s.now in
    let found = rw (part_to_end s (length s - c.loop-k.k)) at c.char_width.ensures in
    none_more s c.loop-k.k c.loop-k.invariant (λ e. c.if-char_width-k.false (found ∙ e))

pub returns : goal.returns
returns c = sym (last_width-none c.args.s.now c.loop-k.k c.loop-k.invariant (omega arith))

pub returns-else-char_width-k : goal.returns-else-char_width-k
returns-else-char_width-k c =
    let s = c.args.s.now in
    let found = rw (part_to_end s (length s - c.loop-k.k)) at c.char_width.ensures in
    sym (last_width-none s (c.loop-k.k + 1) (none_more s c.loop-k.k c.loop-k.invariant (λ e. c.if-char_width-k.false (found ∙ e))) (omega arith))
