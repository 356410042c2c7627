-- `normalise::replace::OccurrencesExchange::found` meets its contract.
use Rattle.std.proofs.Common.{◌∙◌, sym}
use Rattle.normalise.proofs.StepLaws.{replaced_found, replaced_byte}
use Rattle.normalise.proofs.replace.OccurrencesExchange.found.Goals as goal

pub returns-then-starts_with : goal.returns-then-starts_with
returns-then-starts_with c =
    let e = c.args.self.now in
    replaced_found e.pattern.now e.content.now e.some c.args.rest.now c.requires (sym c.starts_with.ensures ∙ c.if-starts_with.true)

pub returns-else-starts_with : goal.returns-else-starts_with
returns-else-starts_with c =
    let e = c.args.self.now in
    replaced_byte e.pattern.now e.content.now e.some c.args.rest.now c.requires (sym c.starts_with.ensures ∙ c.if-starts_with.false)
