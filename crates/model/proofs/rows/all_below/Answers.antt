use borrow.Author.Tests.{tests}
use borrow.Author.Rules.{rules}
use mathlib.Core.Path.{◌∙◌}
use Prim.Native.Nat.{ℕ}
use lib.Dec.{ltb}
use Rattle.std.proofs.lemmas.Iterator.{YieldsList-from_slice}
use Rattle.std.proofs.lemmas.Iterator.Search.{all_from_yields_List}
use Rattle.utf8.proofs.Chains.{list_all-is}
use Rattle.model.specs.Check.{all_below}
use Rattle.model.proofs.rows.all_below.Goals as goal

pub returns : goal.returns
unfolding all_below
returns c =
    all_from_yields_List (λ (id : ℕ). ltb id c.args.count) _ _ c.all.result c.all.ensures.ran (YieldsList-from_slice c.args.ids.now cc) (λ x b q k. search (rules, tests))
    ∙ list_all-is _ c.args.ids.now
