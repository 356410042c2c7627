-- The rows are as long as what is derived, so that is what stands in them.
use Prim.Native.Nat.{ℕ}
use Rattle.std.proofs.lemmas.List.{length-replicate}
use Rattle.model.specs.Model.{columns}
use Rattle.prepare.proofs.PreparedLaws.{rows_derived, index_derived}
use Rattle.captions.proofs.session.run_accepted.Goals as goal

pub invariant_of-all_lines : goal.invariant_of-all_lines
invariant_of-all_lines c =
    let m = columns c.args.model.now in
    let rows = length-replicate {A = ℕ} 1024 0 in
    let words = length-replicate {A = ℕ} 169032 0 in
    record { ready = record { accepted = c.requires; rows = rows_derived m c.requires _ _ rows words c.prepare_checked.ensures; words = index_derived m c.requires _ _ rows words c.prepare_checked.ensures } }
