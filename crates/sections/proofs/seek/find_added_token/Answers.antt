use Rattle.std.proofs.Common.{◌≡◌, ◌+◌, drop, sym, refl, ◌∙◌, rules}
use Rattle.utf8.proofs.Lists.{part_to_end}
use Rattle.model.specs.Model.{strings_of}
use Rattle.sections.specs.inner.Seek.{placed, match_by}
use Rattle.sections.proofs.SeekLaws.{match_next, match_ended}
use Rattle.sections.proofs.seek.find_added_token.Goals as goal
use Rattle.sections.proofs.seek.find_added_token.Goals.{After-token_at}

-- what the search finds, by what stands at the place
found : (c : After-token_at)
    → (let a = c.args in
    let contents = strings_of a.contents.now in
    let place = c.loop-place.place in
    match_by a.begins.now contents a.from (drop a.from a.text.now) ≡ placed place c.token_at.result (match_by a.begins.now contents (place + 1) (drop (place + 1) a.text.now)))
found c =
    let a = c.args in
    let place = c.loop-place.place in
    sym c.loop-place.invariant ∙ match_next a.begins.now (strings_of a.contents.now) a.text.now place (search rules)
    ∙ rw (c.token_at.ensures, part_to_end a.text.now place)

pub loop-place-init : goal.loop-place-init
loop-place-init c = refl

pub returns-in-Some : goal.returns-in-Some
returns-in-Some c = sym (found (goal.at.returns-in-Some c).After-token_at ∙ rw c.in-Some.is)

pub loop-place-preserved : goal.loop-place-preserved
loop-place-preserved c = sym (found (goal.at.loop-place-preserved c).After-token_at ∙ rw c.in_default.is)

pub returns : goal.returns
returns c =
    let a = c.args in
    sym (sym c.loop-place.invariant ∙ match_ended a.begins.now (strings_of a.contents.now) a.text.now c.loop-place.place (search rules))
