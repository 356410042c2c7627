-- `encode::encode_derived` meets its contract: what is derived of the model, and then the accepted model.
use Prim.Native.Nat.{ℕ}
use native.Mathlib.Omega.{arith}
use mathlib.Core.Path.{◌≡◌, ap, ◌∙◌}
use lib.ListN.{length-replicate}
use Rattle.model.specs.Model.{columns}
use Rattle.model.proofs.AnswerLaws.{refusal_number}
use Rattle.prepare.specs.Prepare.{PrepareOutcome}
use Rattle.prepare.proofs.PrepareLaws.{prepared}
use Rattle.prepare.proofs.PreparedLaws.{rows_derived, index_derived}
use Rattle.encode.proofs.encode_derived.Goals as goal

pub returns-in_err-prepare_checked : goal.returns-in_err-prepare_checked
returns-in_err-prepare_checked c =
    let long = prepared (columns c.args.model.now) _ _ c.requires.accepted (omega (arith, length-replicate {A = ℕ} 1024 0)) (omega (arith, length-replicate {A = ℕ} 169032 0)) in
    absurd (refusal_number c.in_err-prepare_checked.field-0.0 (ap (λ (o : PrepareOutcome). o.answer.number) (c.in_err-prepare_checked.ensures ∙ long)))

pub invariant_of-encode_short : goal.invariant_of-encode_short
invariant_of-encode_short c =
    let m = columns c.args.model.now in
    let e = c.requires.accepted in
    record {
      accepted = e;
      adjacency_derived = rows_derived m e _ _ (length-replicate {A = ℕ} 1024 0) (length-replicate {A = ℕ} 169032 0) c.prepare_checked.ensures;
      index_derived = index_derived m e _ _ (length-replicate {A = ℕ} 1024 0) (length-replicate {A = ℕ} 169032 0) c.prepare_checked.ensures;
    }
