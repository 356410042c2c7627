-- by the tests that it makes.
use mathlib.Core.Path.{◌≡◌, refl}
use Prim.Native.Nat.{ℕ, ◌-◌, ◌%◌}
use native.Mathlib.Omega.{arith}
use lib.ListN.{get_or}
use Rattle.prepare.proofs.PairLaws.{with_none, with_lower, with_kept}
use Rattle.prepare.proofs.pairs.word_with.Goals as goal
use Rattle.prepare.proofs.pairs.word_with.Goals.{After-number_at-2}

pub returns-then-named-eq0 : goal.returns-then-named-eq0
returns-then-named-eq0 c =
    let s = c.args in
    with_none s.rank.now s.word (s.word % 2147483648) s.i refl c.if-named-eq0.true

-- the rank of the row that the word names
module _ (c : After-number_at-2) where
  abbrev named : ℕ
  named = c.args.word % 2147483648

  old_rank : c.number_at-2.result ≡ get_or c.args.rank.now (named - 1) 0
  old_rank = c.number_at-2.ensures

  some : named ≡ 0 → ⊥
  some = c.if-named-eq0.false

pub returns-then-number_at : goal.returns-then-number_at
returns-then-number_at c =
    let n = (goal.at.returns-then-number_at c).After-number_at-2 in
    let s = n.args in
    with_lower s.rank.now s.word (named n) s.i refl (some n) (omega (arith, c.if-number_at.true, old_rank n, n.number_at.ensures))

pub returns : goal.returns
returns c =
    let n = (goal.at.returns c).After-number_at-2 in
    let s = n.args in
    with_kept s.rank.now s.word (named n) s.i refl (some n) (omega (arith, c.if-number_at.false, old_rank n, n.number_at.ensures))
