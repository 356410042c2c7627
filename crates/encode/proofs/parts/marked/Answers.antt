-- `encode::parts::marked` meets its contract.
use Rattle.encode.proofs.NormalLaws.{leaves_absent, leaves_present, too_long}
use Rattle.encode.proofs.parts.marked.Goals as goal

pub returns-in-None : goal.returns-in-None
returns-in-None c = leaves_absent _ _ _ _ c.in-None.is

pub returns-in_err-n-in-Some : goal.returns-in_err-n-in-Some
returns-in_err-n-in-Some c =
    rw c.from_residual.ensures (too_long _ _ _ _ c.in-Some.is c.args.scratch.now c.requires c.apply_metaspace.ensures c.in_err-n-in-Some.was)

pub returns-in_ok-n-in-Some : goal.returns-in_ok-n-in-Some
returns-in_ok-n-in-Some c =
    leaves_present _ _ _ _ c.in-Some.is c.args.scratch.now c.requires c.apply_metaspace.ensures c.in_ok-n-in-Some.was c.part.ensures
