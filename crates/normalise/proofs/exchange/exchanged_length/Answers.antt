-- `normalise::exchange::exchanged_length` meets its contract.
use Rattle.std.proofs.Common.{ℕ, ◌∙◌, ap, ◌++◌, arith, drop_of_length-le}
use Rattle.normalise.proofs.Measuring.{measured_start, measured_over, measured_ended}
use Rattle.normalise.proofs.HeadLaws.{kept_byte, found_part, lead_first}
use Rattle.normalise.proofs.exchange.exchanged_length.Goals.{in-None, in-Some}
use Rattle.normalise.proofs.exchange.exchanged_length.Goals as goal

pub returns-in_err-left : goal.returns-in_err-left
returns-in_err-left g c =
    let output = g.E.Exchange.exchanged c.args.exchange.now c.args.text.now in
    c.from_residual.ensures ∙ measured_over (measured_start (c.args.lead.now ++ output) c.args.room) (lead_first c.args.lead.now output) (omega (arith, c.in_err-left.ensures))

pub returns-in_err-left-2 : goal.returns-in_err-left-2
returns-in_err-left-2 g c =
    let exchanged = g.E.Exchange.exchanged c.args.exchange.now in
    let content = g.E.Exchange.content c.args.exchange.now in
    c.from_residual-in_err-left-2.ensures
    ∙ elim c.match-found.branch [
      | in-None w ↦ measured_over c.loop-i.invariant.1 (kept_byte exchanged content c.args.text.now c.loop-i.i c.loop-i-test.true w.in-None.ensures) (omega (arith, c.in_err-left-2.ensures, ap (λ (p : ℕ × ℕ). p.0) w.put-is))
      | in-Some w ↦ measured_over c.loop-i.invariant.1 (found_part exchanged content c.args.text.now c.loop-i.i c.content-content.ensures w.in-Some.ensures) (omega (arith, c.in_err-left-2.ensures, ap (λ (p : ℕ × ℕ). p.0) w.put-is))
    ]

pub returns : goal.returns
returns g c =
    let e = c.args.exchange.now in
    measured_ended c.loop-i.invariant.1 (ap (g.E.Exchange.exchanged e) (drop_of_length-le c.args.text.now (omega arith)) ∙ g.met.E.Exchange.ends e)
