use mathlib.Core.Path.{◌≡◌, ◌∙◌}
use mathlib.Core.List.{List}
use Prim.Native.Nat.{ℕ}
use native.Mathlib.Omega.{arith}
use borrow.Author.Rules.{rules}
use Rattle.model.specs.Model.{strings_of}
use Rattle.index.specs.Index.{first_byte_start, first_bytes}
use Rattle.prepare.proofs.WalkLaws.{first-zero, first_on, first-most, filled-ended, filling_start, filling_next}
use Rattle.prepare.proofs.fill.fill_first_bytes.Goals as goal
use Rattle.prepare.proofs.fill.fill_first_bytes.Goals.{After-first_below_from-at, Start}

abbrev pieces : Start → List (List ℕ)
pieces s = strings_of s.args.pieces.now

-- where the entries of a byte begin
abbrev row : Start → ℕ → ℕ
row s = first_byte_start (pieces s) s.args.lookup.now

walked : (c : After-first_below_from-at) → c.first_below_from-at.result ≡ row (goal.at.After-first_below_from-at c).Start c.loop-b.b
walked c =
    let s = (goal.at.After-first_below_from-at c).Start in
    c.first_below_from-at.ensures ∙ first_on (pieces s) s.args.lookup.now c.loop-b.at c.loop-b.b c.loop-b.invariant.last

pub loop-b-init : goal.loop-b-init
loop-b-init c = let s = (goal.at.loop-b-init c).Start in filling_start (row s) 257 69 s.args.words.now (first-zero (pieces s) s.args.lookup.now)

pub overflow_cast-words : goal.overflow_cast-words
overflow_cast-words c =
    let s = (goal.at.overflow_cast-words c).Start in
    omega (arith, walked c, first-most (pieces s) s.args.lookup.now c.loop-b.b)

pub loop-b-preserved : goal.loop-b-preserved
loop-b-preserved c =
    let s = (goal.at.loop-b-preserved c).Start in
    filling_next (row s) 257 69 s.args.words.now c.loop-b.words c.loop-b.at c.loop-b.b c.loop-b.invariant (search rules) (search rules) c.first_below_from-at.result (walked c)

pub shape_of-words : goal.shape_of-words
shape_of-words c = c.loop-b.invariant.filled.long

pub returns : goal.returns
unfolding first_bytes
returns c =
    let s = (goal.at.returns c).Start in
    filled-ended (row s) 257 69 s.args.words.now c.loop-b.words c.loop-b.b c.loop-b.invariant.filled (search rules)
