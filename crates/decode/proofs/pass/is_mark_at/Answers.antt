-- `decode::pass::is_mark_at` meets its contract. Assumes nothing.
use Prim.Native.Nat.{ℕ}
use mathlib.Core.Path.{ap, ◌∙◌}
use mathlib.Core.List.{List}
use Rattle.utf8.specs.Lists.{starts_with}
use Rattle.utf8.proofs.Lists.{part_to_end}
use Rattle.model.specs.Mark.{mark}
use Rattle.decode.proofs.pass.is_mark_at.Goals as goal

pub returns : goal.returns
unfolding mark
returns c = c.starts_with.ensures ∙ ap (λ (text : List ℕ). starts_with mark text) (part_to_end c.args.bytes.now c.args.i)
