use borrow.Author.Tests.{tests}
use borrow.Author.Rules.{rules}
use mathlib.Core.Path.{◌∙◌}
use mathlib.Core.Bool.{Bool, ◌||◌}
use Prim.Native.Nat.{ℕ}
use lib.Dec.{eqb}
use Rattle.std.proofs.lemmas.Iterator.{YieldsList-from_slice}
use Rattle.std.proofs.lemmas.Iterator.Search.{any_from_yields_List}
use Rattle.utf8.proofs.Chains.{list_any-is}
use Rattle.fragments.proofs.ends.holds_space.Goals as goal

-- a space, or the first byte of a mark
abbrev spacing : ℕ → Bool
spacing b = eqb b 0x20 || eqb b 0xE2

pub returns : goal.returns
returns c =
    any_from_yields_List spacing _ _ c.any.result c.any.ensures.ran (YieldsList-from_slice c.args.content.now cc) (λ x b q k. search (rules, tests))
    ∙ list_any-is spacing c.args.content.now
