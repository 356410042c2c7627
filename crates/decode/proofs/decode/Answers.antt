-- `decode::decode` meets its contract: the list's size, the model check, and then the checked twin. Assumes nothing.
use mathlib.Core.Path.{refl, sym}
use Rattle.std.proofs.lemmas.Result.{err_from_is_err_and}
use Rattle.model.specs.Model.{columns}
use Rattle.model.proofs.AnswerLaws.{number-checked}
use Rattle.model.proofs.AnswerLaws.{refusal_number}
use Rattle.decode.proofs.DecodeLaws.{Lent, long_list, bad_model}
use Rattle.decode.proofs.decode.Goals as goal
use Rattle.decode.proofs.decode.Goals.{Start}

-- what the call is lent
abbrev lent : Start → Lent
lent s = record { model = columns s.args.model.now; ids = s.args.ids.now; out = s.args.out.now }

pub returns-then-ids-gt-TEXT_LIMIT : goal.returns-then-ids-gt-TEXT_LIMIT
returns-then-ids-gt-TEXT_LIMIT c = long_list (lent (goal.at.returns-then-ids-gt-TEXT_LIMIT c).Start) _ refl c.if-ids-gt-TEXT_LIMIT.true

pub returns-in_err-check : goal.returns-in_err-check
returns-in_err-check c =
    let p = err_from_is_err_and c.from_residual.result c.from_residual.ensures.1 in
    rw (p.1, p.2) (bad_model (lent (goal.at.returns-in_err-check c).Start) _ c.in_err-check.ensures c.if-ids-gt-TEXT_LIMIT.false (refusal_number c.in_err-check.field-0.0))

pub decode_checked-requires : goal.decode_checked-requires
decode_checked-requires c = sym (number-checked (columns c.args.model.now) _ c.in_ok-check.ensures)
