-- `decode::words::is_marked` meets its contract. Assumes nothing.
use Prim.Native.Nat.{◌≤◌}
use native.Mathlib.Omega.{arith}
use mathlib.Core.Path.{◌≡◌, sym, ap, ◌∙◌}
use mathlib.Core.Logic.{⊎_elim}
use borrow.Author.Tests.{le-leb, lt-leb, ltb-true, ltb-false}
use lib.Dec.{ltb}
use lib.ListN.{take}
use Rattle.utf8.specs.Lists.{starts_with}
use Rattle.utf8.proofs.Tests.{either}
use Rattle.model.specs.Mark.{mark}
use Rattle.decode.proofs.QuickLaws.{mark_few, mark_both}
use Rattle.decode.proofs.words.is_marked.Goals as goal
use Rattle.decode.proofs.words.is_marked.Goals.{After-is_mark_word-marked}

-- what was tried says it of a piece that is long enough
tried : (w : After-is_mark_word-marked) → 3 ≤ w.args.len → w.is_mark_word-marked.result ≡ starts_with mark (take w.args.len w.args.bytes.now)
tried w long =
    let s = w.args in
    w.is_mark_word-marked.ensures ∙ ap (starts_with mark) w.eight_from.ensures ∙ mark_both s.bytes.now 8 s.len (omega (arith, w.requires)) (omega arith) long

pub returns-then-marked : goal.returns-then-marked
returns-then-marked c =
    let w = (goal.at.returns-then-marked c).After-is_mark_word-marked in
    let s = w.args in
    ⊎_elim
    (λ e. lt-leb 3 s.len (ltb-true s.len 3 e) ∙ sym (mark_few s.bytes.now s.len (ltb-true s.len 3 e)))
    (λ e. le-leb 3 s.len (ltb-false s.len 3 e) ∙ sym c.if-marked.true ∙ tried w (ltb-false s.len 3 e))
    (either (ltb s.len 3))

pub returns-else-marked : goal.returns-else-marked
returns-else-marked c =
    let w = (goal.at.returns-else-marked c).After-is_mark_word-marked in
    let s = w.args in
    ⊎_elim
    (λ e. c.if-marked.false ∙ sym (mark_few s.bytes.now s.len (ltb-true s.len 3 e)))
    (λ e. tried w (ltb-false s.len 3 e))
    (either (ltb s.len 3))
