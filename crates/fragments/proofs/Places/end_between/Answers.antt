use mathlib.Core.Path.{◌≡◌, sym, ap, ◌∙◌}
use Prim.Native.Nat.{ℕ, ◌-◌, max}
use native.Mathlib.Omega.{arith}
use borrow.Author.Rules.{rules}
use borrow.Author.Tests.{ltb-false}
use Rattle.utf8.specs.Lists.{count_from}
use Rattle.model.specs.Model.{TokenList, tokens_of}
use Rattle.fragments.specs.inner.Most.{most}
use Rattle.fragments.specs.inner.Reach.{end_at, end_between}
use Rattle.fragments.proofs.Bounded.{most-last}
use Rattle.fragments.proofs.EndLaws.{none_ends, end-passed}
use Rattle.fragments.proofs.GivenLaws.{sound_by, long_by}
use Rattle.fragments.proofs.Places.end_between.Goals as goal
use Rattle.fragments.proofs.Places.end_between.Goals.{At-loop-s}

abbrev tokens : At-loop-s → TokenList
tokens c = tokens_of c.args.self.now.tokens

abbrev ends : At-loop-s → ℕ → ℕ
ends c = end_at c.args.self.now.unguarded (tokens c) c.args.self.now.text.now c.args.strip

pub loop-s-init : goal.loop-s-init
unfolding end_between
loop-s-init c = (search rules, omega arith)

pub returns-then-not-may_reach : goal.returns-then-not-may_reach
returns-then-not-may_reach c =
    let t = (goal.at.returns-then-not-may_reach c).At-loop-s in
    let l = t.loop-s in
    let a = t.args in
    end-passed a.self.now.unguarded (tokens t) a.self.now.text.now a.strip a.self.now.longest (long_by a.self.now) a.from l.s l.far (search rules) (ltb-false _ _ (sym c.may_reach.ensures ∙ c.if-not-may_reach.true)) ∙ l.invariant.1

pub loop-s-preserved-then-may_begin : goal.loop-s-preserved-then-may_begin
loop-s-preserved-then-may_begin c =
    let t = (goal.at.loop-s-preserved-then-may_begin c).At-loop-s in
    let l = t.loop-s in
    let a = t.args in
    (search rules, ap (λ (n : ℕ). max n (most (ends t) (count_from a.from ((l.s - 1) - a.from)))) (c.max-far.ensures ∙ ap (max l.far) c.end_at.ensures) ∙ sym (most-last (ends t) a.from l.s l.far c.loop-s-test.true) ∙ l.invariant.1)

pub loop-s-preserved : goal.loop-s-preserved
loop-s-preserved c =
    let t = (goal.at.loop-s-preserved c).At-loop-s in
    let l = t.loop-s in
    let a = t.args in
    let none : ends t (l.s - 1) ≡ 0 = none_ends (tokens t) a.self.now.text.now a.self.now.begins.now (sound_by a.self.now) a.self.now.contents_fine (l.s - 1) a.self.now.unguarded a.strip (search rules) (sym c.may_begin.ensures ∙ c.if-may_begin.false) in
    let kept : l.far ≡ max l.far (ends t (l.s - 1)) = omega arith in
    (search rules, ap (λ (n : ℕ). max n (most (ends t) (count_from a.from ((l.s - 1) - a.from)))) kept ∙ sym (most-last (ends t) a.from l.s l.far c.loop-s-test.true) ∙ l.invariant.1)
