use mathlib.Core.Path.{◌≡◌, ◌∙◌}
use Prim.Native.Nat.{ℕ, ◌*◌, ◌≤◌}
use native.Mathlib.Nat.{mul-le-mul_right}
use native.Mathlib.Omega.{arith}
use borrow.Author.Rules.{rules}
use Rattle.index.specs.Index.{bucket_start, buckets}
use Rattle.prepare.proofs.WalkLaws.{bucket_zero, bucket_on, bucket_most, filled-ended, filling_start, filling_next}
use Rattle.prepare.proofs.fill.fill_buckets.Goals as goal
use Rattle.prepare.proofs.fill.fill_buckets.Goals.{After-below_from-at, Start}

-- where the rows of a bucket begin
abbrev row : Start → ℕ → ℕ
row s = bucket_start s.args.left.now s.args.shift

walked : (c : After-below_from-at) → c.below_from-at.result ≡ row (goal.at.After-below_from-at c).Start c.loop-b.b
walked c =
    c.below_from-at.ensures ∙ bucket_on c.args.left.now c.args.shift c.loop-b.at c.loop-b.b c.power-size.result c.power-size.ensures.0 c.loop-b.invariant.last

pub loop-b-init : goal.loop-b-init
loop-b-init c = let s = (goal.at.loop-b-init c).Start in filling_start (row s) 4097 582 s.args.words.now (bucket_zero s.args.left.now s.args.shift)

pub overflow_mul-b : goal.overflow_mul-b
overflow_mul-b c =
    let l = c.loop-b in
    let size = c.power-size.result in
    let most : l.b * size ≤ 4097 * size = mul-le-mul_right size (search rules) in
    omega (arith, c.power-size.ensures.1)

pub overflow_cast-words : goal.overflow_cast-words
overflow_cast-words c =
    omega (arith, walked c, bucket_most c.args.left.now c.args.shift c.loop-b.b)

pub loop-b-preserved : goal.loop-b-preserved
loop-b-preserved c =
    let s = (goal.at.loop-b-preserved c).Start in
    filling_next (row s) 4097 582 s.args.words.now c.loop-b.words c.loop-b.at c.loop-b.b c.loop-b.invariant (search rules) (search rules) c.below_from-at.result (walked c)

pub shape_of-words : goal.shape_of-words
shape_of-words c = c.loop-b.invariant.filled.long

pub returns : goal.returns
unfolding buckets
returns c =
    let s = (goal.at.returns c).Start in
    filled-ended (row s) 4097 582 s.args.words.now c.loop-b.words c.loop-b.b c.loop-b.invariant.filled (search rules)
