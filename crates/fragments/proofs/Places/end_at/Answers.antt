use mathlib.Core.Path.{◌≡◌, sym, ap, ◌∙◌}
use Prim.Native.Nat.{ℕ, ◌+◌, ◌-◌, max}
use native.Mathlib.Omega.{arith}
use lib.ListN.{length}
use Rattle.utf8.specs.Lists.{count_from}
use Rattle.model.specs.Model.{contents, tokens_of}
use Rattle.model.proofs.StringLaws.{length-strings}
use Rattle.fragments.specs.inner.Most.{most}
use Rattle.fragments.specs.inner.Reach.{end_of, end_at}
use Rattle.fragments.proofs.Bounded.{most-next, most-ended}
use Rattle.fragments.proofs.Places.end_at.Goals as goal
use Rattle.fragments.proofs.Places.end_at.Goals.{After-len-row-end}

-- where a row's token ends, and how many rows there are
abbrev ends : After-len-row-end → ℕ → ℕ
ends c = end_of c.args.self.now.unguarded (tokens_of c.args.self.now.tokens) c.args.self.now.text.now c.args.strip c.args.s

rows : (c : After-len-row-end) → c.len-row-end.result ≡ length (contents (tokens_of c.args.self.now.tokens))
unfolding contents
rows c = c.len-row-end.ensures ∙ sym (length-strings _ _)

pub loop-row-init : goal.loop-row-init
unfolding end_at
loop-row-init c =
    let n = length (contents (tokens_of c.args.self.now.tokens)) in
    let all_of : n - 0 ≡ n = omega arith in
    rw all_of (omega arith)

pub loop-row-preserved : goal.loop-row-preserved
loop-row-preserved c =
    let k = (goal.at.loop-row-preserved c).After-len-row-end in
    let l = c.loop-row in
    let n = length (contents (tokens_of c.args.self.now.tokens)) in
    ap (λ (far : ℕ). max far (most (ends k) (count_from (l.row + 1) (n - (l.row + 1))))) (omega (arith, c.max-far.ensures, c.end_of.ensures))
    ∙ sym (most-next (ends k) l.row n l.far (omega (arith, rows k)))
    ∙ l.invariant

pub returns : goal.returns
returns c =
    let k = (goal.at.returns c).After-len-row-end in
    sym (most-ended (ends k) c.loop-row.row (length (contents (tokens_of c.args.self.now.tokens))) c.loop-row.far (omega (arith, rows k))) ∙ c.loop-row.invariant
