use Rattle.std.proofs.Common.{◌≡◌, sym, ◌∙◌, rules, tests}
use Rattle.std.proofs.lemmas.Iterator.{YieldsList-from_slice}
use Rattle.std.proofs.lemmas.Iterator.Search.{any_from_yields_List}
use Rattle.utf8.proofs.Chains.{list_any-is}
use Rattle.model.specs.Model.{strings_of, piece}
use Rattle.utf8.specs.Lists.{is_empty}
use Rattle.model.specs.Check.{names_no_piece}
use Rattle.model.proofs.LookupLaws.{no_piece}
use Rattle.model.proofs.lookup.names_no_piece.Goals as goal

pub returns : goal.returns
returns c =
    let names = names_no_piece (strings_of c.args.pieces.now) in
    any_from_yields_List names _ _ c.any.result c.any.ensures.ran (YieldsList-from_slice c.args.lookup.now cc) (λ x b q k. let e : (q ≡ _) × (b ≡ is_empty (piece (strings_of c.args.pieces.now) x.now)) = search (rules, tests) in (e.0, e.1 ∙ sym (no_piece _ x.now)))
    ∙ list_any-is names c.args.lookup.now
