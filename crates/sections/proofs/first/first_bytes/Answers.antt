use Rattle.std.proofs.Common.{◌≡◌, ◌<◌, length, replicate, refl, sym, ap, ◌∙◌, arith, rules}
use Rattle.model.specs.Model.{strings_of}
use Rattle.model.proofs.StringLaws.{length-strings}
use Rattle.sections.specs.inner.Seek.{note_firsts}
use Rattle.sections.proofs.SeekLaws.{noted-first, noted-next, noted-ended}
use Rattle.sections.proofs.first.first_bytes.Goals as goal

pub loop-row-init : goal.loop-row-init
loop-row-init c = refl

pub loop-row-preserved : goal.loop-row-preserved
loop-row-preserved c =
    let contents = c.args.contents.now in
    let l = c.loop-row in
    let inside : l.row < length (strings_of contents) = omega (arith, length-strings contents.bytes.now contents.offsets.now) in
    rw (c.note_first.ensures, c.get.ensures) (sym (noted-next (strings_of contents) l.begins l.row inside) ∙ l.invariant)

pub returns : goal.returns
returns c =
    let contents = c.args.contents.now in
    let l = c.loop-row in
    let cleared : c.fill.new.self ≡ replicate (length c.args.begins.now) 0 = search rules in
    sym (noted-ended (strings_of contents) l.begins l.row (omega (arith, length-strings contents.bytes.now contents.offsets.now)))
    ∙ l.invariant
    ∙ ap (note_firsts (strings_of contents)) cleared
    ∙ noted-first (strings_of contents) (length c.args.begins.now)
