-- `normalise::run::turn` meets its contract.
use Rattle.std.proofs.Common.{rules, ◌≡◌}
use Rattle.normalise.specs.inner.Run.{in_a, in_b}
use Rattle.normalise.proofs.RunLaws.{turn-given, turn_in_a, turn_in_b}
use Rattle.normalise.proofs.run.turn.Goals as goal

pub returns-in-Given : goal.returns-in-Given
returns-in-Given g c =
    let r : c.map.result ≡ in_a c.apply.result = search rules in
    rw (r, c.in-Given.is) (turn-given g.step c.args.text.now c.args.room c.args.a.now c.args.b.now (c.requires.1.1 _ _ _ _ c.apply.ensures))

pub returns-in-InA : goal.returns-in-InA
returns-in-InA g c =
    let r : c.map-in-InA.result ≡ in_b c.apply-in-InA.result = search rules in
    rw (r, c.in-InA.is) (turn_in_a g.step c.args.text.now c.args.room c.args.a.now c.args.b.now c.in-InA.n c.part.ensures (c.requires.1.1 _ _ _ _ c.apply-in-InA.ensures))

pub returns-in-InB : goal.returns-in-InB
returns-in-InB g c =
    let r : c.map-in-InB.result ≡ in_a c.apply-in-InB.result = search rules in
    rw (r, c.in-InB.is) (turn_in_b g.step c.args.text.now c.args.room c.args.a.now c.args.b.now c.in-InB.n c.part-in-InB.ensures (c.requires.1.1 _ _ _ _ c.apply-in-InB.ensures))
