use borrow.Author.Tests.{tests}
use borrow.Author.Rules.{rules}
use mathlib.Core.Path.{refl, ◌∙◌}
use mathlib.Core.Bool.{Bool, false, ◌&&◌}
use mathlib.Core.List.{[]}
use Prim.Native.Nat.{ℕ}
use native.Mathlib.Omega.{arith}
use lib.ListN.{get_or}
use Rattle.std.proofs.lemmas.Iterator.{YieldsList-from_range}
use Rattle.std.proofs.lemmas.Iterator.Search.{any_from_yields_List}
use Rattle.utf8.specs.Lists.{starts_with}
use Rattle.model.specs.Model.{strings_of, tokens_of}
use Rattle.fragments.proofs.AheadLaws.{strips-counted}
use Rattle.fragments.proofs.Places.strips_at.Goals as goal

pub returns : goal.returns
returns c =
    let a = c.args in
    let tokens = a.self.now.tokens in
    let test : ℕ → Bool = λ row. get_or tokens.lstrip.now row false && starts_with (get_or (strings_of tokens.contents) row []) c.part-rest.result.now in
    any_from_yields_List test _ _ c.any.result c.any.ensures.ran (YieldsList-from_range 0 c.len.result c.len.result refl (omega arith)) (λ x b q k. search (rules, tests))
    ∙ strips-counted (tokens_of tokens) a.self.now.text.now a.s c.len.result c.len.ensures c.part-rest.ensures
