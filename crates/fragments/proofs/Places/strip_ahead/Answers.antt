use mathlib.Core.Path.{◌≡◌, sym, ap, ◌∙◌}
use mathlib.Core.List.{List}
use Prim.Native.Nat.{ℕ, ◌+◌, ◌≤◌}
use native.Mathlib.Omega.{arith}
use lib.ListN.{length, drop}
use Rattle.utf8.specs.Lists.{find}
use Rattle.utf8.specs.inner.Ends.{white_width}
use Rattle.utf8.proofs.Lists.{part_to_end}
use Rattle.utf8.proofs.Trim.{white_ends}
use Rattle.model.specs.Model.{TokenList, tokens_of}
use Rattle.fragments.specs.inner.Reach.{strips_at, places_ahead}
use Rattle.fragments.proofs.GivenLaws.{fine_by}
use Rattle.fragments.proofs.AheadLaws.{ahead_found, ahead_ended, ahead_next}
use Rattle.fragments.proofs.Places.strip_ahead.Goals as goal
use Rattle.fragments.proofs.Places.strip_ahead.Goals.{After-white_width-width, At-loop-p}

abbrev tokens : At-loop-p → TokenList
tokens c = tokens_of c.args.self.now.tokens

abbrev text : At-loop-p → List ℕ
text c = c.args.self.now.text.now

width : (c : After-white_width-width) → c.white_width-width.result ≡ white_width (drop c.loop-p.s (text (goal.at.After-white_width-width c).At-loop-p))
width c = c.white_width-width.ensures ∙ ap white_width (part_to_end (text (goal.at.After-white_width-width c).At-loop-p) c.loop-p.s)

-- it ends within the text
within_text : (c : After-white_width-width) → c.loop-p.s + c.white_width-width.result ≤ length (text (goal.at.After-white_width-width c).At-loop-p)
within_text c = omega (arith, width c, white_ends (text (goal.at.After-white_width-width c).At-loop-p) c.loop-p.s c.loop-p.invariant.0)

pub returns-then-strips_here : goal.returns-then-strips_here
returns-then-strips_here c =
    let t = (goal.at.returns-then-strips_here c).At-loop-p in
    sym (t.loop-p.invariant.1 ∙ ahead_found (tokens t) (text t) (fine_by t.args.self.now) t.loop-p.s (sym c.strips_here.ensures ∙ c.if-strips_here.true))

pub returns-then-width-eq0 : goal.returns-then-width-eq0
returns-then-width-eq0 c =
    let w = (goal.at.returns-then-width-eq0 c).After-white_width-width in
    let t = (goal.at.returns-then-width-eq0 c).At-loop-p in
    sym (t.loop-p.invariant.1 ∙ ahead_ended (tokens t) (text t) (fine_by t.args.self.now) t.loop-p.s (sym w.strips_here.ensures ∙ w.if-strips_here.false) (sym (width w) ∙ c.if-width-eq0.true))

pub overflow_add-s : goal.overflow_add-s
overflow_add-s c = omega (arith, within_text (goal.at.overflow_add-s c).After-white_width-width)

pub loop-p-smaller : goal.loop-p-smaller
loop-p-smaller c = omega (arith, within_text (goal.at.loop-p-smaller c).After-white_width-width, c.if-width-eq0.false)

pub loop-p-preserved : goal.loop-p-preserved
loop-p-preserved c =
    let w = (goal.at.loop-p-preserved c).After-white_width-width in
    let t = (goal.at.loop-p-preserved c).At-loop-p in
    (within_text w, t.loop-p.invariant.1 ∙ ahead_next (tokens t) (text t) (fine_by t.args.self.now) t.loop-p.s t.loop-p.invariant.0 (sym w.strips_here.ensures ∙ w.if-strips_here.false) (omega (arith, width w, c.if-width-eq0.false)) ∙ ap (λ (n : ℕ). find (strips_at (tokens t) (text t)) (places_ahead (text t) (t.loop-p.s + n))) (sym (width w)))
