use mathlib.Core.Path.{sym, ◌∙◌}
use native.Mathlib.Omega.{arith}
use Rattle.merge.proofs.KeyLaws.{length-rows, kept_next, kept-all}
use Rattle.merge.specs.inner.Keys.{ranked_by}
use Rattle.merge.proofs.kept.fill_keys.Goals as goal

pub loop-i-init : goal.loop-i-init
loop-i-init c = c.requires.kept

pub key_at-requires : goal.key_at-requires
key_at-requires c = record { left_len_bound = c.requires.left_len_bound; place_in_bounds = omega (arith, c.loop-i-test.true, c.requires.from_le_to.1) }

pub loop-i-preserved : goal.loop-i-preserved
loop-i-preserved c =
    let l = c.loop-i in
    let row = ranked_by c.args.rows.now in
    kept_next l.keys l.invariant c.key_at.result c.loop-i-test.true (omega (arith, c.requires.from_le_to.1, c.requires.keys_len, l.auto.keys)) (length-rows row c.args.ids.now ∙ sym (l.auto.keys ∙ c.requires.keys_len)) c.key_at.ensures

pub returns : goal.returns
returns c = kept-all c.loop-i.invariant (omega (arith, c.requires.from_le_to.0, c.loop-i-test.false))
