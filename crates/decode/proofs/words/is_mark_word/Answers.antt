-- `decode::words::is_mark_word` meets its contract. Assumes nothing.
use borrow.Author.Rules.{rules}
use Rattle.decode.proofs.WordLaws.{mark_word}
use Rattle.decode.proofs.words.is_mark_word.Goals as goal

pub returns : goal.returns
returns c = mark_word c.args.eight c.from_le_bytes.result (search rules) (search rules) c.from_le_bytes.ensures
