-- `encode::marks::unmarked` meets its contract.
use Rattle.encode.proofs.PassLaws.{unmarked-is}
use Rattle.encode.proofs.marks.unmarked.Goals as goal

pub returns : goal.returns
returns c = unmarked-is _ _ c.mark_width.ensures
