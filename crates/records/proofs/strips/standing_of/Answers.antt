use Rattle.std.proofs.Common.{◌≡◌, ◌<◌, true, length, drop, sym, arith}
use Rattle.utf8.specs.Lists.{starts_with}
use Rattle.records.proofs.RowLaws.{standing_here}
use Rattle.std.proofs.lemmas.Grind.{common_steps}
use Rattle.utf8.proofs.Starts.{starts_length}
use Rattle.sections.proofs.StripLaws.{part_end}
use Rattle.records.specs.Records.{content_of, token_of}
use Rattle.records.specs.inner.Rows.{standing_of}
use Rattle.records.proofs.strips.standing_of.Goals as goal

pub returns-then-is_empty : goal.returns-then-is_empty
unfolding standing_of token_of content_of
returns-then-is_empty c = grind (arith, common_steps, part_end)

pub overflow_add-place : goal.overflow_add-place
overflow_add-place c = grind (arith, common_steps, part_end, starts_length)

pub returns : goal.returns
unfolding token_of content_of
returns c =
    let a = c.args in
    let token = token_of a.bytes.now a.token in
    let some : 0 < length token.content = grind (arith, common_steps) in
    let stands : starts_with token.content (drop a.place a.text.now) ≡ true = grind (arith, common_steps, part_end) in
    rw (c.stop_before.ensures, c.start_after.ensures, c.string_of-content.ensures) (sym (standing_here token a.text.now a.start a.place some stands))
