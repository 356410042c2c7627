use Rattle.std.proofs.Common.{refl, sym, ◌∙◌, rules}
use Rattle.sections.proofs.TakenLaws.{taking_ended, taking_missing, taking_here, taking_passed}
use Rattle.sections.proofs.walk.next_taken.Goals as goal

pub loop-left-init : goal.loop-left-init
loop-left-init c = record { is = refl }

pub returns-in_err-found : goal.returns-in_err-found
returns-in_err-found c = c.from_residual.ensures ∙ taking_missing c.loop-left.invariant (search rules) (sym c.in_err-found.was ∙ c.find_added_token.ensures)

pub returns-then-start-found : goal.returns-then-start-found
returns-then-start-found c =
    taking_here c.loop-left.invariant (search rules) (sym c.in_ok-found.was ∙ c.find_added_token.ensures) c.token_end-end.ensures c.if-start-found.true

pub loop-left-preserved : goal.loop-left-preserved
loop-left-preserved c =
    taking_passed c.loop-left.invariant (search rules) (sym c.in_ok-found.was ∙ c.find_added_token.ensures) c.token_end-end.ensures c.if-start-found.false

pub returns : goal.returns
returns c = taking_ended c.loop-left.invariant (search rules)
