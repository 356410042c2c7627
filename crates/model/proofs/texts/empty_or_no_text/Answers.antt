use Rattle.utf8.proofs.Places.{empty_by_length}
use Rattle.model.specs.Check.{empty_or_no_text}
use Rattle.model.proofs.texts.empty_or_no_text.Goals as goal

pub returns-then-is_empty : goal.returns-then-is_empty
unfolding empty_or_no_text
returns-then-is_empty c = rw (empty_by_length c.args.content.now, ← c.is_empty.ensures, c.if-is_empty.true)

pub returns-else-is_empty : goal.returns-else-is_empty
unfolding empty_or_no_text
returns-else-is_empty c = rw (empty_by_length c.args.content.now, ← c.is_empty.ensures, c.if-is_empty.false, c.is_valid.ensures)
