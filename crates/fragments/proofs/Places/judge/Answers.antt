use mathlib.Core.Path.{sym, ◌∙◌}
use Prim.Native.Nat.{◌<◌}
use native.Mathlib.Omega.{arith}
use Rattle.model.specs.Model.{TokenList, tokens_of}
use Rattle.sections.specs.inner.Strips.{start_at}
use Rattle.fragments.specs.inner.Reach.{reach}
use Rattle.fragments.proofs.WhiteLaws.{white_end-le}
use Rattle.fragments.proofs.GivenLaws.{fine_by}
use Rattle.fragments.proofs.SearchLaws.{Looking, judged_back, not_back, judged_kept, judged_ahead, judged_free}
use Rattle.fragments.proofs.Places.judge.Goals as goal
use Rattle.fragments.proofs.Places.judge.Goals.{Start, In_default}

abbrev tokens : Start → TokenList
tokens c = tokens_of c.args.self.now.tokens

-- the place that is judged
looking : (c : Start) → Looking c.args.self.now.unguarded (tokens c) c.args.self.now.text.now c.args.last.place c.args.last.ahead c.args.p
looking c =
    record { fine = fine_by c.args.self.now; above = c.requires.p_nonzero.0; inside = c.requires.p_nonzero.1; edge = c.requires.edge; known = c.requires.known }

-- nothing reaches the place from before it
short : (c : In_default) → (let k = (goal.at.In_default c).Start in reach k.args.self.now.unguarded (tokens k) k.args.self.now.text.now 0 k.args.p < k.args.p)
short c = not_back (looking (goal.at.In_default c).Start) (sym c.look_back.ensures ∙ c.in_default.is)

pub returns-in-Some : goal.returns-in-Some
returns-in-Some c = judged_back (looking (goal.at.returns-in-Some c).Start) _ (sym c.look_back.ensures ∙ c.in-Some.is)

pub returns-then-p-last : goal.returns-then-p-last
returns-then-p-last c = judged_kept (looking (goal.at.returns-then-p-last c).Start) (short (goal.at.returns-then-p-last c).In_default) c.if-p-last.true

pub overflow_add-result : goal.overflow_add-result
unfolding start_at
overflow_add-result c =
    let k = (goal.at.overflow_add-result c).Start in
    omega (arith, c.start_after.ensures, white_end-le k.args.self.now.text.now k.args.p (omega (arith, k.requires.p_nonzero.1)))

pub returns-in-Some-strip_ahead : goal.returns-in-Some-strip_ahead
returns-in-Some-strip_ahead c = judged_ahead (looking (goal.at.returns-in-Some-strip_ahead c).Start) (short (goal.at.returns-in-Some-strip_ahead c).In_default) _ (sym c.strip_ahead.ensures ∙ c.in-Some-strip_ahead.is)

pub returns-in-None : goal.returns-in-None
returns-in-None c = judged_free (looking (goal.at.returns-in-None c).Start) (short (goal.at.returns-in-None c).In_default) c.start_after.result (sym c.strip_ahead.ensures ∙ c.in-None.is) c.start_after.ensures
