use mathlib.Core.Path.{sym}
use mathlib.Core.Bool.{not, and-true, and-false}
use borrow.Author.Tests.{eq-eqb, ne_eqb}
use Rattle.utf8.specs.Chars.{valid}
use Rattle.model.specs.Check.{neither_text_nor_byte}
use Rattle.model.proofs.texts.neither_text_nor_byte.Goals as goal

pub returns-then-piece-ne1 : goal.returns-then-piece-ne1
unfolding neither_text_nor_byte
returns-then-piece-ne1 c = rw (ne_eqb _ 1 c.if-piece-ne1.true, c.is_valid.ensures) (sym (and-true (not (valid c.args.piece.now))))

pub returns-else-piece-ne1 : goal.returns-else-piece-ne1
unfolding neither_text_nor_byte
returns-else-piece-ne1 c = rw (eq-eqb _ 1 c.if-piece-ne1.false) (sym (and-false (not (valid c.args.piece.now))))
