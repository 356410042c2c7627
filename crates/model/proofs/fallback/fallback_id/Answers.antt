use Rattle.std.proofs.Common.{◌≡◌, ◌≤◌, ◌<◌, length, get_or, sym, ◌∙◌, rules, tests}
use Rattle.model.proofs.CheckLaws.{fallback-past, fallback-none, fallback-some}
use Rattle.model.proofs.fallback.fallback_id.Goals as goal

pub returns-in_err-id : goal.returns-in_err-id
returns-in_err-id c =
    let past : length c.args.fallback.now ≤ c.args.byte = search (rules, tests) in
    c.from_residual.ensures ∙ sym (fallback-past c.args.fallback.now c.args.byte past)

pub returns-then-id : goal.returns-then-id
returns-then-id c =
    let inside : c.args.byte < length c.args.fallback.now = search (rules, tests) in
    let read : c.in_ok-id.field-0.now ≡ get_or c.args.fallback.now c.args.byte 0 = search (rules, tests) in
    sym (fallback-none c.args.fallback.now c.args.byte inside (sym read ∙ c.if-id.true))

pub returns-else-id : goal.returns-else-id
returns-else-id c =
    let inside : c.args.byte < length c.args.fallback.now = search (rules, tests) in
    let read : c.in_ok-id.field-0.now ≡ get_or c.args.fallback.now c.args.byte 0 = search (rules, tests) in
    fallback-some c.args.fallback.now c.args.byte _ inside (λ e. c.if-id.false (read ∙ e)) read
