use borrow.Author.Tests.{tests}
use borrow.Author.Rules.{rules}
use mathlib.Core.Path.{refl, sym, ◌∙◌}
use mathlib.Core.List.{[]}
use Prim.Native.Nat.{ℕ}
use native.Mathlib.Omega.{arith}
use lib.ListN.{get_or}
use Rattle.std.proofs.lemmas.Iterator.{YieldsList-from_range}
use Rattle.std.proofs.lemmas.Iterator.Search.{any_from_yields_List}
use Rattle.utf8.proofs.Chains.{any_places}
use Rattle.model.specs.Model.{strings_of}
use Rattle.model.specs.Check.{empty_or_no_text, bad_token}
use Rattle.model.proofs.StringLaws.{length-strings}
use Rattle.model.proofs.texts.bad_token.Goals as goal

pub returns : goal.returns
unfolding bad_token
returns c =
    any_from_yields_List (λ (i : ℕ). empty_or_no_text (get_or (strings_of c.args.contents.now) i [])) _ _ c.any.result c.any.ensures.ran (YieldsList-from_range 0 c.len.result c.len.result refl (omega arith)) (λ x b q k. search (rules, tests))
    ∙ any_places empty_or_no_text (strings_of c.args.contents.now) [] _ (c.len.ensures ∙ sym (length-strings _ _))
