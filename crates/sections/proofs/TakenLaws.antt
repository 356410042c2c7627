-- Laws of the next match that is not swallowed: one match more.
use Rattle.std.specs.Prelude.{None, Some}
use Prim.Native.Nat.{ℕ, zero, suc, ◌-◌, ◌≤◌, ◌<◌}
use native.Mathlib.Omega.{arith}
use mathlib.Core.Path.{◌≡◌, sym, ap, ◌∙◌}
use mathlib.Core.List.{List}
use borrow.Author.Tests.{lt-ltb, le-ltb}
use lib.ListN.{drop}
use Rattle.sections.specs.declared.Match.{Match}
use Rattle.sections.specs.Matches.{end}
use Rattle.sections.specs.Sections.{is_swallowed}
use Rattle.sections.specs.inner.Seek.{match_by}
use Rattle.sections.specs.inner.Strips.{end_within}
use Rattle.sections.specs.inner.Walk.{taken_or, taken_for}
use Rattle.sections.specs.declared.Taken.{Taken}
use Rattle.sections.proofs.InsideLaws.{match_inside}

abbrev taken_at : Match → ℕ → ℕ → Taken
taken_at match e turns = record { found = match; end = e; turns = turns }

-- What is taken of the matches that are left, from a place on, is what is taken of all.
pub record Taking (begins : List ℕ) (contents : List (List ℕ)) (text : List ℕ) (start from turns at left : ℕ) : Type 0 where
  pub is : taken_for turns begins contents text start from ≡ taken_for left begins contents text start at

one_more : (begins : List ℕ) (contents : List (List ℕ)) (text : List ℕ) (start at left : ℕ) → 0 < left
    → taken_for left begins contents text start at
    ≡ taken_or contents start (left - 1) (taken_for (left - 1) begins contents text start) (match_by begins contents at (drop at text))
one_more begins contents text start at zero h = absurd (omega arith)
one_more begins contents text start at (suc n) h =
    let same : n ≡ suc n - 1 = omega arith in
    ap (λ (k : ℕ). taken_or contents start k (taken_for k begins contents text start) (match_by begins contents at (drop at text))) same

module _ {begins : List ℕ} {contents : List (List ℕ)} {text : List ℕ} {start from turns at left : ℕ} (taking : Taking begins contents text start from turns at left) where
  pub taking_ended : left ≡ 0 → None ≡ taken_for turns begins contents text start from
  taking_ended e = sym (taking.is ∙ rw e)

  module _ (some_left : 0 < left) where
    next : taken_for turns begins contents text start from
        ≡ taken_or contents start (left - 1) (taken_for (left - 1) begins contents text start) (match_by begins contents at (drop at text))
    next = taking.is ∙ one_more begins contents text start at left some_left

    pub taking_missing : None ≡ match_by begins contents at (drop at text) → None ≡ taken_for turns begins contents text start from
    taking_missing e = sym (next ∙ rw (← e))

    module _ {match : Match} {e : ℕ} (found : Some match ≡ match_by begins contents at (drop at text)) (ends : e ≡ end_within contents text match) where
      whole : end contents match ≡ e
      unfolding end_within
      whole = omega (arith, ends, match_inside begins contents text at match (sym found))

      pub taking_here : start ≤ match.place → Some (taken_at match e (left - 1)) ≡ taken_for turns begins contents text start from
      unfolding is_swallowed
      taking_here h = sym (next ∙ rw (← found) (rw (le-ltb match.place start h, whole)))

      pub taking_passed : match.place < start → Taking begins contents text start from turns e (left - 1)
      unfolding is_swallowed
      taking_passed h = record { is = next ∙ rw (← found) (rw (lt-ltb match.place start h, whole)) }
