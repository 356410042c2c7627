use Rattle.std.proofs.Common.{ℕ, [], length, get_or, sym, ap, ◌∙◌, arith, rules, tests}
use Rattle.std.proofs.lemmas.Iterator.{YieldsList-from_range, YieldsList-from_map}
use Rattle.std.proofs.lemmas.Iterator.Consumers.{max_from_yields_List}
use Rattle.std.specs.Option.{unwrap_or}
use Rattle.std.specs.Prelude.{Option}
use Rattle.std.proofs.lemmas.Iterator.Adapters.{option_map_id}
use Rattle.model.specs.Model.{strings_of}
use Rattle.model.proofs.StringLaws.{length-strings}
use Rattle.sections.proofs.LengthLaws.{longest-reduced}
use Rattle.sections.proofs.first.longest_content.Goals as goal

pub returns : goal.returns
returns c =
    let contents = strings_of c.args.contents.now in
    let picked = max_from_yields_List c.map.result c.max.result c.max.ensures.ran (YieldsList-from_map _ (λ (row : ℕ). length (get_or contents row [])) (YieldsList-from_range 0 c.len.result c.len.result c.map.ensures.source (omega arith)) c.map.ensures.closure (λ x r q k. search (rules, tests))) in
    c.unwrap_or.ensures
    ∙ ap (λ (o : Option ℕ). unwrap_or o 0) (sym (option_map_id c.max.result) ∙ picked)
    ∙ longest-reduced contents c.len.result (c.len.ensures ∙ sym (length-strings _ _))
