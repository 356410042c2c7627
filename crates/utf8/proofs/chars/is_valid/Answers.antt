-- `utf8::chars::is_valid` meets its contract. Assumes nothing.
use Prim.Native.Nat.{ℕ}
use mathlib.Core.Path.{sym, ap, ◌∙◌}
use lib.Dec.{eqb}
use lib.ListN.{length}
use Rattle.utf8.proofs.Valid.{valid_by_prefix}
use Rattle.utf8.proofs.chars.is_valid.Goals as goal

pub returns : goal.returns
returns c = ap (λ (n : ℕ). eqb n (length c.args.s.now)) c.valid_prefix.ensures ∙ sym (valid_by_prefix c.args.s.now)
