-- `decode::words::shown_at` meets its contract. Assumes nothing.
use Prim.Native.Nat.{ℕ, ◌+◌, ◌-◌, ◌≤◌, ◌<◌}
use native.Mathlib.Omega.{arith}
use mathlib.Core.Path.{◌≡◌, ap, ◌∙◌}
use mathlib.Core.Bool.{cond}
use mathlib.Core.Logic.{⊎_elim}
use lib.ListN.{take, drop, set}
use mathlib.Core.List.{List}
use lib.Seq.{take-take, drop-drop}
use Rattle.std.proofs.lemmas.List.{drop-take}
use Rattle.utf8.specs.Lists.{starts_with}
use Rattle.model.specs.Mark.{mark}
use Rattle.decode.specs.inner.Words.{eight_at}
use Rattle.decode.proofs.QuickLaws.{quick_far, quick_long, quick_front, none_shown, shown_by, spaced_eight, spaced-length, few_spared}
use Rattle.decode.proofs.words.shown_at.Goals as goal
use Rattle.decode.proofs.words.shown_at.Goals.{After-spared, then-marked, else-marked}

pub returns-then-bytes-start : goal.returns-then-bytes-start
returns-then-bytes-start c =
    let s = c.args in
    none_shown s.bytes.now s.start s.len (⊎_elim (λ h. quick_far s.bytes.now s.start s.len h) (λ h. quick_long s.bytes.now s.start s.len h.1) c.then-bytes-start.either)

short : (p : After-spared) → p.args.len < 10
short p = omega (arith, p.if-len-gt9.false)

in_window : (bytes : List ℕ) (start m n k : ℕ) → n ≡ k → n + 8 ≤ m → take 8 (drop n (take m (drop start bytes))) ≡ take 8 (drop (start + k) bytes)
in_window bytes start m n k e h =
    let split : m ≡ n + (m - n) = omega arith in
    ap (λ (j : ℕ). take 8 (drop n (take j (drop start bytes)))) split
    ∙ ap (take 8) (drop-take n (m - n) (drop start bytes))
    ∙ take-take 8 (m - n) (drop n (drop start bytes)) (omega arith)
    ∙ ap (take 8) (drop-drop n start bytes ∙ ap (λ (j : ℕ). drop (start + j) bytes) e)

marked : (p : After-spared) → p.is_marked-marked.result ≡ starts_with mark (take p.args.len (drop p.args.start p.args.bytes.now))
marked p =
    p.is_marked-marked.ensures
    ∙ ap (starts_with mark) (take-take p.args.len _ (drop p.args.start p.args.bytes.now) (omega (arith, short p)))

pub overflow_sub-shown : goal.overflow_sub-shown
overflow_sub-shown c =
    omega (arith, c.spared.ensures, (spaced-length c.args.bytes.now c.args.start c.args.len c.if-bytes-start.false (short c) _ (marked c)).0)

pub returns : goal.returns
returns c =
    let p = (goal.at.returns c).After-spared in
    let s = p.args in
    let m = p.is_marked-marked.result in
    let far = p.if-bytes-start.false in
    let read = c.eight_from-eight.result in
    let long = ap (λ (n : ℕ). s.len - n) c.spared.ensures ∙ (spaced-length s.bytes.now s.start s.len far (short p) m (marked p)).1 in
    let spaced : c.if-marked.eight ≡ cond m (set read 0 0x20) read =
    elim c.if-marked.branch [
      | then-marked w ↦ rw w.if-marked.true w.eight-is
      | else-marked w ↦ rw w.if-marked.false w.eight-is
    ] in
    let eight : c.if-marked.eight ≡ eight_at s.bytes.now s.start s.len =
    spaced ∙ spaced_eight s.bytes.now s.start s.len far m read (marked p) (c.eight_from-eight.ensures ∙ in_window s.bytes.now s.start _ _ _ c.spared-2.ensures (omega (arith, few_spared m, c.spared-2.ensures))) in
    c.then_some.ensures ∙ shown_by s.bytes.now s.start s.len _ _ _ (c.is_plain_front.ensures ∙ quick_front s.bytes.now s.start s.len far (short p) _ _ eight long) eight long
