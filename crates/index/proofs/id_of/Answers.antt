-- `index::id_of` meets its contract.
use borrow.Author.Tests.{eq-eqb, ne_eqb}
use Rattle.model.specs.Model.{no_id}
use Rattle.index.specs.inner.Find.{id_of}
use Rattle.index.proofs.id_of.Goals as goal

pub returns-then-id-eq-NO_ID : goal.returns-then-id-eq-NO_ID
unfolding id_of
returns-then-id-eq-NO_ID c = rw (eq-eqb c.args.id no_id c.if-id-eq-NO_ID.true)

pub returns-else-id-eq-NO_ID : goal.returns-else-id-eq-NO_ID
unfolding id_of
returns-else-id-eq-NO_ID c = rw (ne_eqb c.args.id no_id c.if-id-eq-NO_ID.false)
