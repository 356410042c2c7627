-- The model check, and then the checked twin.
use Rattle.std.proofs.Common.{sym, ap, ◌∙◌, ◌≡◌}
use Rattle.std.proofs.lemmas.Result.{err_from_is_err_and}
use Rattle.model.specs.Model.{columns}
use Rattle.model.specs.Check.{check_number}
use Rattle.model.proofs.AnswerLaws.{number-checked, check_refuses, refusal_number}
use Rattle.model.specs.declared.Answer.{Answer}
use Rattle.prepare.specs.Prepare.{PrepareOutcome}
use Rattle.prepare.proofs.PrepareLaws.{bad_model}
use Rattle.prepare.proofs.prepare.Goals as goal

pub returns-in_err-check : goal.returns-in_err-check
returns-in_err-check c =
    let p = err_from_is_err_and c.from_residual.result c.from_residual.ensures.1 in
    let r = c.in_err-check.field-0.0 in
    let m = columns c.args.model.now in
    let some : check_number m ≡ 0 → ⊥ = λ z. refusal_number r (number-checked m _ c.in_err-check.ensures ∙ z) in
    let kept : Answer → PrepareOutcome = λ answer. record { answer = answer; adjacency = c.args.adjacency.now; index = c.args.index.now } in
    rw (p.1, p.2) (ap kept (c.in_err-check.ensures ∙ check_refuses m some) ∙ sym (bad_model m c.args.adjacency.now c.args.index.now some))

pub prepare_checked-requires : goal.prepare_checked-requires
prepare_checked-requires c = sym (number-checked (columns c.args.model.now) _ c.in_ok-check.ensures)
