-- `decode::words::all_or_none` meets its contract. Assumes nothing.
use borrow.Author.Tests.{le-leb, lt-leb}
use Rattle.decode.specs.inner.Words.{all_or_none}
use Rattle.decode.proofs.words.all_or_none.Goals as goal

pub returns-then-room-at : goal.returns-then-room-at
unfolding all_or_none
returns-then-room-at c = rw (le-leb c.args.room c.args.at c.if-room-at.true)

pub returns-else-room-at : goal.returns-else-room-at
unfolding all_or_none
returns-else-room-at c = rw (lt-leb c.args.room c.args.at c.if-room-at.false)
