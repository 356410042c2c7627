use mathlib.Core.Path.{◌≡◌, ap, ◌∙◌}
use mathlib.Core.List.{List, [], ◌∷◌, ◌++◌, append_assoc}
use Prim.Native.Nat.{ℕ, suc, ◌+◌, ◌-◌, ◌≤◌, ◌<◌}
use native.Mathlib.Numerals.{add-one}
use native.Mathlib.Omega.{arith}
use lib.ListN.{length, take, set, replicate, replicate-append-replicate}
use lib.Seq.{take-suc-set}
use borrow.Author.Rules.{rules}
use Rattle.model.proofs.clear.clear.Goals as goal

-- one cell more is blank
one_more : {A : Type 0} (front out : List A) (start i : ℕ) (blank : A) → start ≤ i → i < length out → take i out ≡ front ++ replicate (i - start) blank → take (i + 1) (set out i blank) ≡ front ++ replicate (i + 1 - start) blank
one_more front out start i blank s h e =
    let more : i - start + 1 ≡ suc i - start = omega arith in
    rw (add-one, take-suc-set out i blank h, e)
    (append_assoc front (replicate (i - start) blank) (blank ∷ [])
    ∙ ap (λ z. front ++ z) (replicate-append-replicate (i - start) 1 blank ∙ ap (λ (n : ℕ). replicate n blank) more))

pub loop-i-preserved : goal.loop-i-preserved
loop-i-preserved g c =
    let l = c.loop-i in
    one_more (take c.args.start c.args.out.now) l.out c.args.start l.i c.args.blank (search rules) (search rules) l.invariant
