-- `normalise::replace::inserted_length` meets its contract.
use Rattle.std.proofs.Common.{◌≡◌, ◌+◌, ℕ, List, ◌++◌, [], ◌∙◌, refl, length, rules, arith}
use Rattle.utf8.proofs.Writing.{Begins}
use Rattle.normalise.specs.Steps.{replaced}
use Rattle.normalise.proofs.Measuring.{measured_over, measured_next, measured_ended}
use Rattle.normalise.proofs.StepLaws.{first_ends, inserted_first, inserted_none}
use Rattle.normalise.proofs.HeadLaws.{lead_first}
use Rattle.normalise.proofs.replace.inserted_length.Goals.{After-split_at}
use Rattle.normalise.proofs.replace.inserted_length.Goals as goal

module _ (c : After-split_at) where
  abbrev whole : List ℕ
  whole = replaced [] c.args.content.now c.loop-rest.rest.now

  abbrev left : List ℕ
  left = replaced [] c.args.content.now c.split_at.result.1.now

  first : Begins whole c.args.content.now (c.split_at.result.0.now ++ left)
  first = inserted_first c.loop-rest.rest.now c.char_step.result (search rules) c.char_step.ensures c.args.content.now c.split_at.ensures.front c.split_at.ensures.back

pub split_at-requires : goal.split_at-requires
split_at-requires c = first_ends c.loop-rest.rest.now c.char_step.result (search rules) c.char_step.ensures

pub returns-in_err-checked_sub : goal.returns-in_err-checked_sub
returns-in_err-checked_sub c =
    c.from_residual.ensures ∙ measured_over c.loop-rest.invariant (first (goal.at.returns-in_err-checked_sub c).After-split_at) (omega (arith, c.in_err-checked_sub.ensures))

pub returns-in_err-left : goal.returns-in_err-left
returns-in_err-left c =
    let at = (goal.at.returns-in_err-left c).After-split_at in
    let less : c.in_ok-checked_sub.field-0 + length c.args.content.now ≡ c.loop-rest.left = omega (arith, c.in_ok-checked_sub.ensures) in
    c.from_residual-in_err-left.ensures
    ∙ measured_over (measured_next c.loop-rest.invariant (first at) less) (lead_first c.split_at.result.0.now (left at)) (omega (arith, c.in_err-left.ensures))

pub loop-rest-preserved : goal.loop-rest-preserved
loop-rest-preserved c =
    let at = (goal.at.loop-rest-preserved c).After-split_at in
    let less : c.in_ok-checked_sub.field-0 + length c.args.content.now ≡ c.loop-rest.left = omega (arith, c.in_ok-checked_sub.ensures) in
    measured_next (measured_next c.loop-rest.invariant (first at) less) (lead_first c.split_at.result.0.now (left at)) (omega (arith, c.in_ok-left.ensures))

pub returns-in_err-left-2 : goal.returns-in_err-left-2
returns-in_err-left-2 c =
    c.from_residual-in_err-left-2.ensures ∙ measured_over c.loop-rest.invariant (inserted_none c.args.content.now c.loop-rest.rest.now (search rules)) (omega (arith, c.in_err-left-2.ensures))

pub returns : goal.returns
returns c = measured_ended (measured_next c.loop-rest.invariant (inserted_none c.args.content.now c.loop-rest.rest.now (search rules)) (omega (arith, c.in_ok-left-2.ensures))) refl
