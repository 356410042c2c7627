-- `normalise::normalise_checked` meets its contract: by the first test that applies.
use Rattle.std.proofs.Common.{refl}
use Rattle.model.specs.Model.{columns}
use Rattle.normalise.proofs.NormalLaws.{Lent, long_text}
use Rattle.normalise.proofs.normalise_checked.Goals as goal
use Rattle.normalise.proofs.normalise_checked.Goals.{Start}

-- what the call is lent
abbrev lent : Start → Lent
lent s = record {
  model = columns s.args.model.now;
  text = s.args.text.now;
  first = s.args.first;
  out = s.args.out.now;
  scratch_a = s.args.scratch_a.now;
  scratch_b = s.args.scratch_b.now;
}

pub returns-then-text-gt-TEXT_LIMIT : goal.returns-then-text-gt-TEXT_LIMIT
returns-then-text-gt-TEXT_LIMIT c = long_text (lent (goal.at.returns-then-text-gt-TEXT_LIMIT c).Start) _ refl c.if-text-gt-TEXT_LIMIT.true
