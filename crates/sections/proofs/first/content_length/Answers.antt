use Rattle.std.proofs.Common.{◌+◌, arith, ap}
use lib.ListN.{length}
use Rattle.sections.proofs.LengthLaws.{string-below}
use Rattle.sections.proofs.first.content_length.Goals as goal

pub overflow_cast-result : goal.overflow_cast-result
overflow_cast-result c = omega (arith, ap length c.string_at.ensures, string-below c.args.bytes.now c.args.offsets.now c.args.row, c.type_inv.offsets (c.args.row + 1))
