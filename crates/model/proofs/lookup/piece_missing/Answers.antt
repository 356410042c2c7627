use Rattle.std.proofs.Common.{◌≡◌, length, sym, ◌∙◌, arith}
use Rattle.model.specs.Model.{strings_of}
use Rattle.model.proofs.StringLaws.{length-strings}
use Rattle.model.proofs.LookupLaws.{missing_start, missing_found, missing_next, missing_ended}
use Rattle.model.proofs.lookup.piece_missing.Goals as goal

pub loop-id-init : goal.loop-id-init
loop-id-init c = missing_start (strings_of c.args.pieces.now) c.args.lookup.now

pub returns-then-unlisted : goal.returns-then-unlisted
returns-then-unlisted c =
    let l = c.loop-id in
    let count : length (strings_of c.args.pieces.now) ≡ c.len-id-end.result = length-strings _ _ ∙ sym c.len-id-end.ensures in
    sym (l.invariant ∙ missing_found (strings_of c.args.pieces.now) c.args.lookup.now l.id (omega arith) (sym c.unlisted.ensures ∙ c.if-unlisted.true))

pub loop-id-preserved : goal.loop-id-preserved
loop-id-preserved c =
    let l = c.loop-id in
    let count : length (strings_of c.args.pieces.now) ≡ c.len-id-end.result = length-strings _ _ ∙ sym c.len-id-end.ensures in
    l.invariant ∙ missing_next (strings_of c.args.pieces.now) c.args.lookup.now l.id (omega arith) (sym c.unlisted.ensures ∙ c.if-unlisted.false)

pub returns : goal.returns
returns c =
    let l = c.loop-id in
    let count : length (strings_of c.args.pieces.now) ≡ c.len-id-end.result = length-strings _ _ ∙ sym c.len-id-end.ensures in
    sym (l.invariant ∙ missing_ended (strings_of c.args.pieces.now) c.args.lookup.now l.id (omega arith))
