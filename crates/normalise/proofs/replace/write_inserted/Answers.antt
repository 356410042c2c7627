-- `normalise::replace::write_inserted` meets its contract.
use Rattle.std.proofs.Common.{ℕ, [], ◌+◌, ◌∙◌, refl, length, rules, List, ◌++◌}
use Rattle.utf8.proofs.Writing.{Begins, Written, written-part, written_fits, written-ended}
use Rattle.normalise.specs.Steps.{replaced}
use Rattle.normalise.proofs.HeadLaws.{lead_first}
use Rattle.normalise.proofs.StepLaws.{first_ends, inserted_first, inserted_none}
use Rattle.normalise.proofs.replace.write_inserted.Goals.{After-split_at, After-copy_at}
use Rattle.normalise.proofs.replace.write_inserted.Goals as goal

module _ (c : After-split_at) where
  abbrev whole : List ℕ
  whole = replaced [] c.args.content.now c.loop-rest.rest.now

  abbrev left : List ℕ
  left = replaced [] c.args.content.now c.split_at.result.1.now

  first : Begins whole c.args.content.now (c.split_at.result.0.now ++ left)
  first = inserted_first c.loop-rest.rest.now c.char_step.result (search rules) c.char_step.ensures c.args.content.now c.split_at.ensures.front c.split_at.ensures.back

-- The content is written, and the character is not.
between : (c : After-copy_at) → Written (replaced [] c.args.content.now c.args.text.now) (c.split_at.result.0.now ++ left (goal.at.After-copy_at c).After-split_at) c.args.out.now c.copy_at.new.out (c.loop-rest.at + length c.args.content.now)
between c = rw c.copy_at.ensures (written-part c.requires c.loop-rest.invariant (first (goal.at.After-copy_at c).After-split_at))

pub split_at-requires : goal.split_at-requires
split_at-requires c = first_ends c.loop-rest.rest.now c.char_step.result (search rules) c.char_step.ensures

pub copy_at-requires : goal.copy_at-requires
copy_at-requires c = written_fits c.requires c.loop-rest.invariant (first (goal.at.copy_at-requires c).After-split_at)

pub copy_at-requires-in-loop-rest : goal.copy_at-requires-in-loop-rest
copy_at-requires-in-loop-rest c =
    written_fits c.requires (between (goal.at.copy_at-requires-in-loop-rest c).After-copy_at) (lead_first c.split_at.result.0.now (left (goal.at.copy_at-requires-in-loop-rest c).After-split_at))

pub loop-rest-preserved : goal.loop-rest-preserved
loop-rest-preserved c =
    rw c.copy_at-in-loop-rest.ensures (written-part c.requires (between (goal.at.loop-rest-preserved c).After-copy_at) (lead_first c.split_at.result.0.now (left (goal.at.loop-rest-preserved c).After-split_at)))

pub copy_at-requires-2 : goal.copy_at-requires-2
copy_at-requires-2 c = written_fits c.requires c.loop-rest.invariant (inserted_none c.args.content.now c.loop-rest.rest.now (search rules))

pub returns : goal.returns
returns c = c.copy_at-2.ensures ∙ written-ended c.requires (written-part c.requires c.loop-rest.invariant (inserted_none c.args.content.now c.loop-rest.rest.now (search rules))) refl
