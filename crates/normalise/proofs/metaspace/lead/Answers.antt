-- `normalise::metaspace::lead` meets its contract: by the tests that led to each answer.
use Rattle.std.proofs.Common.{◌∙◌, sym, rules}
use Rattle.model.specs.Mark.{mark}
use Rattle.normalise.proofs.SpaceLaws.{lead_unwanted, lead_empty, lead_space, lead_mark, lead_put}
use Rattle.normalise.proofs.metaspace.lead.Goals.{then-not-wanted-via-then-not-wanted, then-not-wanted-via-else-not-wanted+then-is_empty, then-not-wanted-via-else-not-wanted+else-is_empty+then-text-eq32, then-not-wanted-via-else-not-wanted+else-is_empty+else-text-eq32+then-starts_with}
use Rattle.normalise.proofs.metaspace.lead.Goals as goal

pub returns-then-not-wanted : goal.returns-then-not-wanted
unfolding mark
returns-then-not-wanted c =
    let wanted = c.args.wanted in
    let text = c.args.text.now in
    elim c.then-not-wanted.branch [ then-not-wanted-via-then-not-wanted w ↦ lead_unwanted wanted text w.if-not-wanted.true | then-not-wanted-via-else-not-wanted+then-is_empty w ↦ lead_empty wanted text (search rules) | then-not-wanted-via-else-not-wanted+else-is_empty+then-text-eq32 w ↦ lead_space wanted text (search rules) w.if-text-eq32.true | then-not-wanted-via-else-not-wanted+else-is_empty+else-text-eq32+then-starts_with w ↦ lead_mark wanted text (search rules) w.if-text-eq32.false (sym w.starts_with.ensures ∙ w.if-starts_with.true) ]

pub returns : goal.returns
unfolding mark
returns c = lead_put c.args.wanted c.args.text.now c.if-not-wanted.false (search rules) c.if-text-eq32.false (sym c.starts_with.ensures ∙ c.if-starts_with.false)
