use Prim.Native.Nat.{ℕ}
use native.Mathlib.Omega.{arith}
use mathlib.Core.Path.{◌≡◌, ap, ◌∙◌}
use mathlib.Core.List.{List}
use lib.ListN.{replicate}
use Rattle.utf8.specs.Lists.{join}
use Rattle.decode.specs.Decode.{replacement}
use Rattle.decode.specs.inner.Feeding.{put}
use Rattle.decode.proofs.StateLaws.{put-nothing, put_then, put-at, strays_next, strays_long}
use borrow.Author.Rules.{rules}
use Rattle.decode.proofs.put.put_strays.Goals as goal

pub loop-init : goal.loop-init
loop-init c = (search rules, put-nothing _ _)

pub put_bytes-next-requires : goal.put_bytes-next-requires
put_bytes-next-requires c =
    omega (arith, put-at (join (replicate c.loop.counter replacement)) c.args.at c.args.out.now c.loop.invariant.1, strays_long c.loop.counter, c.requires)

pub loop-preserved : goal.loop-preserved
unfolding replacement
loop-preserved c =
    (search rules, put_then (join (replicate c.loop.counter replacement)) replacement _ _ c.loop.invariant.1 c.put_bytes-next.ensures ∙ ap (λ (l : List ℕ). put l c.args.at c.args.out.now) (strays_next c.loop.counter))

pub returns : goal.returns
returns c =
    let all : c.loop.counter ≡ c.args.count = omega arith in
    c.loop.invariant.1 ∙ ap (λ (n : ℕ). put (join (replicate n replacement)) c.args.at c.args.out.now) all
