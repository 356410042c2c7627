use native.Mathlib.Numerals.{add-one}
use Rattle.merge.specs.inner.Keys.{ranked_by, no_key}
use Prim.Native.Nat.{ℕ}
use mathlib.Core.Path.{sym, ap, ◌∙◌}
use native.Mathlib.Omega.{arith}
use lib.ListN.{get_or}
use Rattle.merge.proofs.KeyLaws.{key_none, row_last, row_inside}
use Rattle.merge.proofs.kept.key_at.Goals as goal

pub returns-then-ids-next : goal.returns-then-ids-next
returns-then-ids-next c =
    let s = c.args in
    key_none no_key (omega arith) ∙ sym (row_last (ranked_by s.rows.now) s.ids.now s.place c.if-ids-next.true)

pub pair_key-requires : goal.pair_key-requires
pair_key-requires c = c.requires.left_len_bound

pub returns : goal.returns
returns c =
    let s = c.args in
    let row = ranked_by s.rows.now in
    c.pair_key.ensures ∙ ap (λ (n : ℕ). row (get_or s.ids.now s.place 0) (get_or s.ids.now n 0)) (add-one s.place) ∙ sym (row_inside row s.ids.now s.place c.if-ids-next.false)
