-- `normalise::normalise_text` meets its contract: what its calls leave, put together.
use Rattle.std.proofs.Common.{rules}
use Rattle.normalise.proofs.NormalLaws.{settled_by_lem}
use Rattle.normalise.proofs.normalise_text.Goals as goal

pub returns : goal.returns
returns c =
    let st = c.args in
    rw (← c.min-room.ensures) (settled_by_lem _ _ st.text.now st.out.now st.a.now st.b.now _ _ _ c.run_all-ran.ensures c.end-outcome.ensures (search rules) (search rules))
