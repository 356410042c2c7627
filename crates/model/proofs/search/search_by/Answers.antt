use Rattle.std.proofs.Common.{◌≡◌, ◌<◌, ◌-◌, ◌+◌, ◌/◌, ℕ, sym, refl, ap, ◌∙◌, arith, rules}
use Rattle.std.specs.Prelude.{Some}
use Rattle.model.proofs.SearchLaws.{halving_start, halving_up, halving_down, halving_found, halving_none}
use Rattle.model.proofs.search.search_by.Goals as goal

-- the middle as the code reckons it
halfway : (lo hi : ℕ) → lo < hi → lo + (hi - lo) / 2 ≡ (lo + hi) / 2
halfway lo hi h = omega arith

pub loop-lo-init : goal.loop-lo-init
loop-lo-init g c = (omega arith, λ told tells. halving_start told c.args.from c.args.to refl)

pub order-requires : goal.order-requires
order-requires g c = c.requires (c.loop-lo.lo + (c.loop-lo.hi - c.loop-lo.lo) / 2) (omega (arith, c.loop-lo.invariant.0))

pub loop-lo-preserved-in-Less : goal.loop-lo-preserved-in-Less
loop-lo-preserved-in-Less g c =
    let l = c.loop-lo in
    let half = halfway l.lo l.hi c.loop-lo-test.true in
    (l.invariant.0, λ told tells. rw half (halving_up told c.args.from c.args.to l.lo l.hi (l.invariant.1 told tells) c.loop-lo-test.true (ap told (sym half) ∙ sym (tells _ _ (omega (arith, l.invariant.0)) c.order.ensures) ∙ c.in-Less.is)))

pub returns-in-Equal : goal.returns-in-Equal
returns-in-Equal g c =
    let l = c.loop-lo in
    let half = halfway l.lo l.hi c.loop-lo-test.true in
    λ told tells. ap Some half ∙ halving_found told c.args.from c.args.to l.lo l.hi (l.invariant.1 told tells) c.loop-lo-test.true (ap told (sym half) ∙ sym (tells _ _ (omega (arith, l.invariant.0)) c.order.ensures) ∙ c.in-Equal.is)

pub loop-lo-preserved : goal.loop-lo-preserved
loop-lo-preserved g c =
    let l = c.loop-lo in
    let half = halfway l.lo l.hi c.loop-lo-test.true in
    (omega (arith, l.invariant.0), λ told tells. rw half (halving_down told c.args.from c.args.to l.lo l.hi (l.invariant.1 told tells) c.loop-lo-test.true (ap told (sym half) ∙ sym (tells _ _ (omega (arith, l.invariant.0)) c.order.ensures) ∙ c.in-Greater.is)))

pub returns : goal.returns
returns g c = λ told tells. halving_none told c.args.from c.args.to c.loop-lo.lo c.loop-lo.hi (c.loop-lo.invariant.1 told tells) (search rules)
