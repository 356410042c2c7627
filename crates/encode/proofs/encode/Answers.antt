-- `encode::encode` meets its contract: the text's size, the model check, and then the accepted model.
use Rattle.std.proofs.lemmas.Result.{err_from_is_err_and}
use mathlib.Core.Path.{◌≡◌, refl, sym}
use Rattle.model.specs.Check.{check_number}
use Rattle.model.specs.Model.{columns}
use Rattle.model.proofs.AnswerLaws.{number-checked, refusal_number}
use Rattle.encode.proofs.EncodeLaws.{Lent, long_text, bad_model}
use Rattle.encode.proofs.encode.Goals as goal
use Rattle.encode.proofs.encode.Goals.{In_ok-check, Start}

-- what the call is lent
abbrev lent : Start → Lent
lent s = record {
  model = columns s.args.model.now;
  text = s.args.text.now;
  continuation = s.args.continuation;
  out = s.args.out.now;
  scratch_a = s.args.scratch_a.now;
  scratch_b = s.args.scratch_b.now;
}

fine : (e : In_ok-check) → check_number (columns e.args.model.now) ≡ 0
fine e = sym (number-checked (columns e.args.model.now) _ e.in_ok-check.ensures)

pub returns-then-text-gt-TEXT_LIMIT : goal.returns-then-text-gt-TEXT_LIMIT
returns-then-text-gt-TEXT_LIMIT c = long_text (lent (goal.at.returns-then-text-gt-TEXT_LIMIT c).Start) _ refl c.if-text-gt-TEXT_LIMIT.true

pub returns-in_err-check : goal.returns-in_err-check
returns-in_err-check c =
    let p = err_from_is_err_and c.from_residual.result c.from_residual.ensures.1 in
    rw (p.1, p.2) (bad_model (lent (goal.at.returns-in_err-check c).Start) _ c.in_err-check.ensures c.if-text-gt-TEXT_LIMIT.false (refusal_number c.in_err-check.field-0.0))

pub encode_derived-requires-clause-accepted : goal.encode_derived-requires-clause-accepted
encode_derived-requires-clause-accepted c = fine (goal.at.encode_derived-requires-clause-accepted c).In_ok-check
