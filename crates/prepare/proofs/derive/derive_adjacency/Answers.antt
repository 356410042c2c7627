-- the rows are put into the buffer whole.
use mathlib.Core.Path.{◌≡◌, sym, ap, ◌∙◌}
use mathlib.Core.List.{List}
use Prim.Native.Nat.{ℕ}
use native.Mathlib.Omega.{arith}
use lib.ListN.{length}
use Rattle.model.specs.Answers.{filled}
use Rattle.model.specs.Model.{strings_of}
use Rattle.prepare.proofs.PrepareLaws.{length-adjacency}
use Rattle.prepare.proofs.derive.derive_adjacency.Goals as goal
use Rattle.prepare.proofs.derive.derive_adjacency.Goals.{After-split_safe}

-- they are 1,024 words
long : (c : After-split_safe) → length c.split_safe.new.rows ≡ 1024
long c = ap length c.split_safe.ensures ∙ length-adjacency (strings_of c.args.pieces.now)

pub slice_bounds-put_rows-end : goal.slice_bounds-put_rows-end
slice_bounds-put_rows-end c = sym (long (goal.at.slice_bounds-put_rows-end c).After-split_safe)

pub put_rows-requires : goal.put_rows-requires
put_rows-requires c = omega (arith, long (goal.at.put_rows-requires c).After-split_safe, c.requires)

pub returns : goal.returns
returns c =
    c.put_rows.ensures ∙ ap (λ (rows : List ℕ). filled rows c.args.out.now) c.split_safe.ensures
