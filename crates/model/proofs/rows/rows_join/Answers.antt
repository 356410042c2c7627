use Rattle.std.proofs.Common.{ℕ, Bool, List, ap, ◌∙◌, rules, tests}
use Rattle.std.proofs.lemmas.Iterator.{YieldsList-from_slice, YieldsList-from_zip}
use Rattle.std.proofs.lemmas.Iterator.Search.{all_from_yields_List}
use Rattle.std.specs.List as std
use Rattle.utf8.proofs.Chains.{list_all-is, zip-is}
use Rattle.utf8.specs.Lists.{all, same, zip}
use mathlib.Core.List.{◌++◌}
use Rattle.model.specs.Model.{strings_of, piece}
use Rattle.model.specs.Check.{rows_join}
use Rattle.model.proofs.rows.rows_join.Goals as goal

pub returns : goal.returns
unfolding rows_join
returns c =
    let left : List ℕ = c.args.left.now in
    let right : List ℕ = c.args.right.now in
    let res : List ℕ = c.args.res.now in
    let pieces = strings_of c.args.pieces.now in
    let joins : (ℕ × ℕ) × ℕ → Bool = λ row. same (piece pieces row.1) (piece pieces row.0.0 ++ piece pieces row.0.1) in
    all_from_yields_List joins c.all.new.self _ c.all.result c.all.ensures.ran (YieldsList-from_zip (YieldsList-from_zip (YieldsList-from_slice left cc) (YieldsList-from_slice right cc)) (YieldsList-from_slice res cc)) (λ x b q k. search (rules, tests))
    ∙ list_all-is joins (std.zip (std.zip left right) res)
    ∙ ap (all joins) (zip-is (std.zip left right) res ∙ ap (λ (pairs : List (ℕ × ℕ)). zip pairs res) (zip-is left right))
