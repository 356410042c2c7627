use Rattle.std.proofs.Common.{◌≡◌, length, sym, ap, ◌∙◌, arith, rules}
use Rattle.model.specs.Model.{strings_of}
use Rattle.model.proofs.StringLaws.{length-strings}
use Rattle.sections.proofs.SeekLaws.{best_start, best_ended, best_apart, best_taken, best_short}
use Rattle.sections.proofs.seek.longest_at.Goals as goal
use Rattle.sections.proofs.seek.longest_at.Goals.{else-long-content-via-then-long-content+else-starts_with, else-long-content-via-else-long-content}

pub loop-row-init : goal.loop-row-init
loop-row-init c =
    let contents = c.args.contents.now in
    let counted : c.len-row.result ≡ length (strings_of contents) = c.len-row.ensures ∙ sym (length-strings contents.bytes.now contents.offsets.now) in
    (omega (arith, counted), best_start (strings_of contents) c.args.text.now c.len-row.result (omega (arith, counted)))

pub loop-row-preserved-then-starts_with : goal.loop-row-preserved-then-starts_with
loop-row-preserved-then-starts_with c =
    let l = c.loop-row in
    (search rules, rw c.get-content.ensures (best_taken (strings_of c.args.contents.now) c.args.text.now l.row l.best l.long (search rules) l.invariant.0 l.invariant.1 (cc) (omega (arith, ap length c.get-content.ensures))))

pub loop-row-preserved : goal.loop-row-preserved
loop-row-preserved c =
    let l = c.loop-row in
    let contents = strings_of c.args.contents.now in
    let text = c.args.text.now in (
      search rules,
      elim c.else-long-content.branch [
        | else-long-content-via-then-long-content+else-starts_with w ↦ best_apart contents text l.row l.best l.long (search rules) l.invariant.0 l.invariant.1 (cc)
        | else-long-content-via-else-long-content w ↦ best_short contents text l.row l.best l.long (search rules) l.invariant.0 l.invariant.1 (omega (arith, ap length c.get-content.ensures))
      ],
    )

pub returns : goal.returns
returns c =
    let l = c.loop-row in
    let none_left : l.row ≡ 0 = search rules in
    best_ended (strings_of c.args.contents.now) c.args.text.now l.best l.long (rw none_left at l.invariant.1)
