use Rattle.std.proofs.Common.{◌≡◌, get_or, rules, arith}
use Rattle.std.proofs.lemmas.Grind.{common_steps}
use Rattle.std.proofs.lemmas.Option.{unwrap_or-slice_get}
use Rattle.varitmol.proofs.NumberLaws.{steps_next, steps_all}
use Rattle.varitmol.proofs.numbers.steps_from.Goals as goal

pub loop-i-preserved : goal.loop-i-preserved
loop-i-preserved c =
    let l = c.loop-i in
    let st = c.args in
    let kind : c.unwrap_or-kind.result ≡ get_or st.kinds.now l.i 3 = grind (arith, common_steps, unwrap_or-slice_get) in
    (search rules, steps_next st.kinds.now st.spans.now l.steps l.i _ _ l.invariant.0 (search rules) kind c.step_of.ensures l.invariant.1)

pub returns : goal.returns
returns c =
    let l = c.loop-i in
    let st = c.args in
    steps_all st.kinds.now st.spans.now l.steps l.i l.invariant.0 (search rules) l.invariant.1
