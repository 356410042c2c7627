-- The text's size, the model check, what is derived of the model, and then the prepared twin.
use mathlib.Core.Path.{◌≡◌, refl, sym, ap, ◌∙◌}
use native.Mathlib.Omega.{arith}
use Prim.Native.Nat.{ℕ}
use lib.ListN.{replicate, length-replicate}
use Rattle.std.proofs.lemmas.Result.{err_from_is_err_and}
use Rattle.model.specs.Check.{check_number}
use Rattle.model.specs.Model.{columns}
use Rattle.model.proofs.AnswerLaws.{number-checked, refusal_number}
use Rattle.prepare.specs.Prepare.{PrepareOutcome}
use Rattle.prepare.proofs.PrepareLaws.{prepared}
use Rattle.prepare.proofs.PreparedLaws.{rows_derived, index_derived}
use Rattle.fragments.proofs.FragmentLaws.{Lent, long_text, bad_model}
use Rattle.fragments.proofs.fragments.Goals as goal
use Rattle.fragments.proofs.fragments.Goals.{Start}

-- what the call is lent
abbrev lent : Start → Lent
lent s = record {
  model = columns s.args.model.now;
  text = s.args.text.now;
  target = s.args.target;
  out = s.args.out.now;
}

pub returns-then-text-gt-TEXT_LIMIT : goal.returns-then-text-gt-TEXT_LIMIT
returns-then-text-gt-TEXT_LIMIT c = long_text (lent (goal.at.returns-then-text-gt-TEXT_LIMIT c).Start) _ refl c.if-text-gt-TEXT_LIMIT.true

pub returns-in_err-check : goal.returns-in_err-check
returns-in_err-check c =
    let p = err_from_is_err_and c.from_residual.result c.from_residual.ensures.1 in
    rw (p.1, p.2) (bad_model (lent (goal.at.returns-in_err-check c).Start) _ c.in_err-check.ensures c.if-text-gt-TEXT_LIMIT.false (refusal_number c.in_err-check.field-0.0))

pub prepare_checked-requires : goal.prepare_checked-requires
prepare_checked-requires c = sym (number-checked (columns c.args.model.now) _ c.in_ok-check.ensures)

-- the rows are long enough, so nothing else is refused
pub returns-in_err-prepare_checked : goal.returns-in_err-prepare_checked
returns-in_err-prepare_checked c =
    let m = columns c.args.model.now in
    let fine : check_number m ≡ 0 = sym (number-checked m _ c.in_ok-check.ensures) in
    let told = c.in_err-prepare_checked.ensures ∙ prepared m (replicate 1024 0) (replicate 169032 0) fine (omega (arith, length-replicate {A = ℕ} 1024 0)) (omega (arith, length-replicate {A = ℕ} 169032 0)) in
    absurd (refusal_number c.in_err-prepare_checked.field-0.0 (ap (λ (o : PrepareOutcome). o.answer.number) told))

pub fragments_prepared-requires : goal.fragments_prepared-requires
fragments_prepared-requires c =
    let m = columns c.args.model.now in
    let fine : check_number m ≡ 0 = sym (number-checked m _ c.in_ok-check.ensures) in
    let rows = length-replicate {A = ℕ} 1024 0 in
    let words = length-replicate {A = ℕ} 169032 0 in
    record { accepted = fine; adjacency_derived = rows_derived m fine _ _ rows words c.prepare_checked.ensures; index_derived = index_derived m fine _ _ rows words c.prepare_checked.ensures }
