-- `encode::passes::put_id` meets its contract.
use Rattle.std.proofs.Common.{rules}
use Rattle.encode.proofs.PassLaws.{no_cell, one_cell}
use Rattle.encode.proofs.passes.put_id.Goals as goal

pub returns-then-is_empty : goal.returns-then-is_empty
returns-then-is_empty c = no_cell _ _ (search rules)

pub returns : goal.returns
returns c = one_cell _ _ (search rules)
