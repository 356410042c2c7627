-- `normalise::normalise` meets its contract: by the first test that applies.
use Rattle.std.proofs.Common.{sym, refl}
use Rattle.model.specs.Model.{columns}
use Rattle.std.proofs.lemmas.Result.{err_from_is_err_and}
use Rattle.model.proofs.AnswerLaws.{number-checked, refusal_number}
use Rattle.normalise.proofs.NormalLaws.{Lent, long_text, bad_model}
use Rattle.normalise.proofs.normalise.Goals as goal
use Rattle.normalise.proofs.normalise.Goals.{Start}

-- what the call is lent
abbrev lent : Start → Lent
lent s = record {
  model = columns s.args.model.now;
  text = s.args.text.now;
  first = s.args.first;
  out = s.args.out.now;
  scratch_a = s.args.scratch_a.now;
  scratch_b = s.args.scratch_b.now;
}

pub returns-then-text-gt-TEXT_LIMIT : goal.returns-then-text-gt-TEXT_LIMIT
returns-then-text-gt-TEXT_LIMIT c = long_text (lent (goal.at.returns-then-text-gt-TEXT_LIMIT c).Start) _ refl c.if-text-gt-TEXT_LIMIT.true

pub returns-in_err-check : goal.returns-in_err-check
returns-in_err-check c =
    let p = err_from_is_err_and c.from_residual.result c.from_residual.ensures.1 in
    rw (p.1, p.2) (bad_model (lent (goal.at.returns-in_err-check c).Start) _ c.in_err-check.ensures c.if-text-gt-TEXT_LIMIT.false (refusal_number c.in_err-check.field-0.0))

pub normalise_short-requires-clause-accepted : goal.normalise_short-requires-clause-accepted
normalise_short-requires-clause-accepted c = sym (number-checked (columns c.args.model.now) _ c.in_ok-check.ensures)
