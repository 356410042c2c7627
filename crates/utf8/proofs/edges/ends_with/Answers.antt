-- `utf8::edges::ends_with` meets its contract: the text's last part is the pattern.
use Prim.Native.Nat.{◌-◌}
use mathlib.Core.Path.{sym, ◌∙◌}
use native.Mathlib.Omega.{arith}
use lib.ListN.{length, drop, length-drop}
use Rattle.utf8.proofs.Lists.{part_to_end}
use Rattle.utf8.proofs.Starts.{same_by_elements, apart_by_length}
use Rattle.utf8.proofs.edges.ends_with.Goals as goal

pub returns-then-text-pattern : goal.returns-then-text-pattern
returns-then-text-pattern c =
    let p = c.args.pattern.now in
    let t = c.args.text.now in
    let n = length t - length p in
    sym (apart_by_length p (drop n t) (omega (arith, length-drop n t)))

pub returns : goal.returns
returns c =
    let p = c.args.pattern.now in
    let t = c.args.text.now in
    rw (part_to_end t (length t - length p)) at c.eq.ensures ∙ same_by_elements p (drop (length t - length p) t)
