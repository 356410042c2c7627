use native.Mathlib.Nat.{zero-min}
use lib.ListN.{length}
use Rattle.model.specs.Mark.{mark}
use Rattle.merge.proofs.Speller.spell_mark.Goals as goal

pub returns-then-not-virtual_mark : goal.returns-then-not-virtual_mark
returns-then-not-virtual_mark c = rw (c.if-not-virtual_mark.true) (rw (zero-min (length c.args.out.now)))

pub returns : goal.returns
unfolding mark
returns c =
    rw (c.if-not-virtual_mark.false) c.spell.ensures
