use Rattle.std.proofs.Common.{ℕ, List, ◌+◌, length, drop, ap, ◌∙◌}
use Rattle.model.specs.Model.{strings_of}
use Rattle.sections.specs.Matches.{end}
use Rattle.sections.proofs.StripLaws.{end-within}
use Rattle.sections.proofs.strips.token_end.Goals as goal

pub returns : goal.returns
unfolding end
returns c =
    let a = c.args in
    end-within (strings_of a.contents.now) a.text.now c.rest_after-rest.result.now a.found
    (c.rest_after-rest.ensures ∙ ap (λ (content : List ℕ). drop (a.found.place + length content) a.text.now) c.get.ensures)
