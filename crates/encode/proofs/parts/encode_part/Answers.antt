-- `encode::parts::encode_part` meets its contract.
use Rattle.encode.proofs.NormalLaws.{part-written, part_unwritten}
use Rattle.encode.proofs.parts.encode_part.Goals as goal

pub returns-in-None : goal.returns-in-None
returns-in-None c = part_unwritten _ _ _ _ c.in-None.ensures _ _

pub returns-in-Some : goal.returns-in-Some
returns-in-Some c = part-written c.in-Some.ensures _ _ c.encode_stretch.ensures
