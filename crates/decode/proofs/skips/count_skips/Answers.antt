-- `decode::skips::count_skips` meets its contract. Assumes nothing.
use Prim.Native.Nat.{ℕ}
use mathlib.Core.Path.{◌≡◌, sym, ◌∙◌}
use mathlib.Core.Bool.{Bool, not}
use lib.Dec.{ltb}
use borrow.Author.Rules.{rules}
use Rattle.std.specs.List.{count_by}
use Rattle.std.proofs.lemmas.List.Sums.{length-filter}
use Rattle.utf8.proofs.Chains.{filter-count}
use Rattle.decode.proofs.skips.count_skips.Goals as goal

pub returns : goal.returns
returns c =
    let missing : ℕ → Bool = λ (id : ℕ). not (ltb id c.args.pieces) in
    let e : c.count.result ≡ count_by missing c.args.ids.now = search rules in
    e ∙ sym (length-filter missing c.args.ids.now) ∙ filter-count missing c.args.ids.now
