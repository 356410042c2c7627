-- `normalise::metaspace::apply_metaspace` meets its contract.
use Rattle.normalise.proofs.metaspace.apply_metaspace.Goals as goal

pub returns : goal.returns
returns c = rw (← c.scheme_prepends-wanted.ensures, ← c.lead.ensures) c.put_exchanged.ensures
