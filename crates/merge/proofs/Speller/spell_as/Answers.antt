use mathlib.Core.Path.{ap}
use mathlib.Core.Bool.{not}
use Rattle.model.specs.Mark.{mark}
use Rattle.merge.proofs.WalkLaws.{as_plain, as_mark_lem, as_other}
use Rattle.merge.proofs.Speller.spell_as.Goals as goal
use Rattle.merge.proofs.Speller.spell_as.Goals.{else-raw-via-then-raw+else-equal, else-raw-via-else-raw}

pub returns-then-equal : goal.returns-then-equal
unfolding mark
returns-then-equal c = rw (← as_mark_lem c.args.raw c.args.char.now (ap not c.if-raw.true) c.equal.ensures c.if-equal.true) c.spell.ensures

pub returns : goal.returns
returns c =
    elim c.else-raw.branch [
      | else-raw-via-then-raw+else-equal w ↦ rw (← as_other c.args.raw c.args.char.now w.equal.ensures w.if-equal.false) c.spell-2.ensures
      | else-raw-via-else-raw w ↦ rw (← as_plain c.args.raw c.args.char.now (ap not w.if-raw.false)) c.spell-2.ensures
    ]
