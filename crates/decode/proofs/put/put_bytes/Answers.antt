use Prim.Native.Nat.{ℕ, ◌+◌}
use native.Mathlib.Numerals.{add-one}
use native.Mathlib.Omega.{arith}
use mathlib.Core.Path.{◌≡◌, sym, ap, ◌∙◌}
use mathlib.Core.List.{List, [], ◌∷◌, ◌++◌}
use lib.ListN.{take, get_or, length-take}
use lib.Seq.{take-suc}
use Rattle.std.proofs.lemmas.List.{take_all}
use borrow.Author.Rules.{rules}
use Rattle.decode.specs.inner.Feeding.{put}
use Rattle.decode.proofs.StateLaws.{put-nothing, put_then, put-at}
use Rattle.decode.proofs.put.put_bytes.Goals as goal

pub loop-b-init : goal.loop-b-init
loop-b-init c = (search rules, put-nothing _ _)

pub put_byte-next-requires : goal.put_byte-next-requires
put_byte-next-requires c =
    omega (arith, put-at (take c.loop-b.b-index c.args.bytes.now) _ _ c.loop-b.invariant.1, length-take c.loop-b.b-index c.args.bytes.now)

pub loop-b-preserved : goal.loop-b-preserved
loop-b-preserved c =
    let i = c.loop-b.b-index in
    let bytes = c.args.bytes.now in
    let more : take (i + 1) bytes ≡ take i bytes ++ (get_or bytes i 0 ∷ []) = rw add-one (take-suc bytes i 0 c.loop-b-test.true) in
    (search rules, put_then (take i bytes) (get_or bytes i 0 ∷ []) _ _ c.loop-b.invariant.1 c.put_byte-next.ensures ∙ ap (λ (l : List ℕ). put l c.args.at c.args.out.now) (sym more))

pub returns : goal.returns
returns c =
    c.loop-b.invariant.1 ∙ ap (λ (l : List ℕ). put l c.args.at c.args.out.now) (take_all c.loop-b.b-index c.args.bytes.now c.loop-b-test.false)
