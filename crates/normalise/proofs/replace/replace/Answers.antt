-- `normalise::replace::replace` meets its contract.
use Rattle.std.proofs.Common.{[], rules}
use Rattle.utf8.proofs.Starts.{no_elements}
use Rattle.normalise.specs.Steps.{replaced}
use Rattle.normalise.proofs.FitLaws.{Answered, answered, put-within, put_fits, put_too_long}
use Rattle.normalise.proofs.replace.replace.Goals.{After-inserted_length}
use Rattle.normalise.proofs.replace.replace.Goals as goal

measured : (c : After-inserted_length) → Answered (replaced [] c.args.content.now c.args.text.now) c.args.room c.args.out.now c.inserted_length.result
measured c = answered c.min.result c.min.ensures c.inserted_length.ensures

pub returns-in_err-n : goal.returns-in_err-n
returns-in_err-n c = rw (no_elements c.args.pattern.now (search rules)) (put_too_long (measured (goal.at.returns-in_err-n c).After-inserted_length) c.from_residual.ensures c.in_err-n.was)

pub write_inserted-requires : goal.write_inserted-requires
write_inserted-requires c = put-within (measured (goal.at.write_inserted-requires c).After-inserted_length) c.in_ok-n.was

pub returns : goal.returns
returns c = rw (no_elements c.args.pattern.now (search rules)) (put_fits (measured (goal.at.returns c).After-inserted_length) c.in_ok-n.was c.write_inserted.ensures)
