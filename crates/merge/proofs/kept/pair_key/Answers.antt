use Rattle.std.specs.Prelude.{Some}
use Rattle.index.proofs.IndexLaws.{found_inside}
use Rattle.merge.specs.inner.Keys.{ranked_row, pair_row, no_key}
use Prim.Native.Nat.{ℕ, ◌<◌}
use lib.ListN.{length}
use mathlib.Core.Path.{sym, ap, ◌∙◌}
use native.Mathlib.Omega.{arith}
use Rattle.merge.proofs.KeyLaws.{key_of, key_none}
use Rattle.merge.proofs.kept.pair_key.Goals as goal
use Rattle.merge.proofs.kept.pair_key.Goals.{After-number_at}

-- The row that was found is one.
inside : (w : After-number_at) → w.in-Some.row < length w.args.rows.now.rows.left.now
inside w =
    let s = w.args in
    found_inside s.rows.now.rows.left.now s.rows.now.rows.right.now s.rows.now.words.now s.rows.now.shift s.l s.r (sym w.find.ensures ∙ w.in-Some.is)

pub overflow_add-result : goal.overflow_add-result
overflow_add-result c = omega (arith, c.number_at.type_inv, inside c, c.requires)

pub returns-in-Some : goal.returns-in-Some
unfolding pair_row
returns-in-Some c =
    let s = c.args in
    let i = c.in-Some.row in
    key_of c.number_at.result i c.number_at.type_inv (omega (arith, inside c, c.requires))
    ∙ ap (λ (n : ℕ). Some (i, n)) c.number_at.ensures
    ∙ ap (ranked_row s.rows.now.rows.rank.now) (sym (sym c.find.ensures ∙ c.in-Some.is))

pub returns-in-None : goal.returns-in-None
unfolding pair_row
returns-in-None c =
    key_none no_key (omega arith) ∙ ap (ranked_row c.args.rows.now.rows.rank.now) (sym (sym c.find.ensures ∙ c.in-None.is))
