use mathlib.Core.Path.{◌≡◌, sym, subst, ◌∙◌}
use native.Mathlib.Omega.{arith}
use Rattle.fragments.specs.inner.Search.{Judged}
use Rattle.fragments.specs.declared.Verdict.{Verdict}
use Rattle.std.specs.Prelude.{Some}
use Rattle.utf8.specs.Lists.{find, count_from}
use Prim.Native.Nat.{◌-◌}
use lib.ListN.{length}
use Rattle.fragments.proofs.CutLaws.{over, marks_over, cut-ended, mark-inside, mark_above, mark-low, mark-edge, mark-known, cut_found, cut-passed}
use Rattle.fragments.proofs.Places.next_cut.Goals as goal
use Rattle.fragments.proofs.Places.next_cut.Goals.{After-judge, In-Some}

sought : (c : In-Some) → (let o = over c.args.self.now in find (marks_over o) (count_from c.loop-mark.p (length o.text - c.loop-mark.p)) ≡ Some c.in-Some.mark)
sought c = sym c.next_mark.ensures ∙ c.in-Some.is

-- what the judgement says, by the verdict
judged : (c : After-judge) (v : Verdict) → c.judge.result ≡ v → (let o = over c.args.self.now in Judged o.unguarded o.tokens o.text c.in-Some.mark v)
judged c v e = let o = over c.args.self.now in subst (Judged o.unguarded o.tokens o.text c.in-Some.mark) e c.judge.ensures

pub judge-requires : goal.judge-requires
judge-requires c =
    let l = c.loop-mark.invariant in
    let s = sought (goal.at.judge-requires c).In-Some in
    record { p_nonzero = (mark_above l s, mark-inside l s); edge = mark-edge l s; known = mark-known l s }

pub loop-mark-smaller : goal.loop-mark-smaller
loop-mark-smaller c =
    let b = judged (goal.at.loop-mark-smaller c).After-judge _ c.in-Blocked.is in
    omega (arith, b.low, b.high, mark-low c.loop-mark.invariant (sought (goal.at.loop-mark-smaller c).In-Some))

pub loop-mark-preserved : goal.loop-mark-preserved
loop-mark-preserved c = cut-passed c.loop-mark.invariant (sought (goal.at.loop-mark-preserved c).In-Some) _ (judged (goal.at.loop-mark-preserved c).After-judge _ c.in-Blocked.is)

pub returns-in-Free : goal.returns-in-Free
returns-in-Free c = cut_found c.loop-mark.invariant (sought (goal.at.returns-in-Free c).In-Some) _ (judged (goal.at.returns-in-Free c).After-judge _ c.in-Free.is)

pub returns : goal.returns
returns c = cut-ended c.loop-mark.invariant (sym c.next_mark.ensures ∙ c.in_default.is)
