-- `encode::encode_prepared` meets its contract.
use mathlib.Core.Path.{refl}
use Rattle.model.specs.Model.{columns}
use Rattle.encode.proofs.EncodeLaws.{Lent, long_text}
use Rattle.encode.proofs.encode_prepared.Goals as goal
use Rattle.encode.proofs.encode_prepared.Goals.{Start}

-- what the call is lent
abbrev lent : Start → Lent
lent s = record {
  model = columns s.args.prepared.now.model.now;
  text = s.args.text.now;
  continuation = s.args.continuation;
  out = s.args.out.now;
  scratch_a = s.args.scratch_a.now;
  scratch_b = s.args.scratch_b.now;
}

pub returns-then-text-gt-TEXT_LIMIT : goal.returns-then-text-gt-TEXT_LIMIT
returns-then-text-gt-TEXT_LIMIT c = long_text (lent (goal.at.returns-then-text-gt-TEXT_LIMIT c).Start) _ refl c.if-text-gt-TEXT_LIMIT.true
