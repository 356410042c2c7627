-- `normalise::metaspace::SpacesExchange::found` meets its contract.
use Rattle.normalise.proofs.SpaceLaws.{marked_space, marked_byte}
use Rattle.normalise.proofs.metaspace.SpacesExchange.found.Goals as goal

pub returns-then-rest-eq32 : goal.returns-then-rest-eq32
returns-then-rest-eq32 c = marked_space c.args.rest.now c.requires c.if-rest-eq32.true

pub returns-else-rest-eq32 : goal.returns-else-rest-eq32
returns-else-rest-eq32 c = marked_byte c.args.rest.now c.requires c.if-rest-eq32.false
