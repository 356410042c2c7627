use Rattle.std.proofs.Common.{◌++◌, drop, length, List, ℕ, refl}
use Rattle.prepare.proofs.PutLaws.{cleared_behind}
use Rattle.prepare.proofs.rows.put_rows.Goals as goal

pub returns : goal.returns
returns c =
    let rows : List ℕ = c.args.rows.now in
    let out : List ℕ = c.args.out.now in
    cleared_behind rows out c.requires (rows ++ drop (length rows) out) c.clear.new.out (length rows) refl refl (rw c.copy_from_slice.ensures.after at c.clear.ensures)
