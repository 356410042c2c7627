-- `model::tables::number_at` meets its contract.
use mathlib.Core.Path.{sym}
use borrow.Author.Rules.{rules}
use lib.ListN.{get_or-eq_default}
use Rattle.model.proofs.tables.number_at.Goals as goal

pub returns-else-i-column : goal.returns-else-i-column
returns-else-i-column c = sym (get_or-eq_default c.args.column.now 0 (search rules))
