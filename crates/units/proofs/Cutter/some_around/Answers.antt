use mathlib.Core.Path.{◌≡◌, sym, ap, ◌∙◌, refl}
use Prim.Native.Nat.{◌+◌, ◌*◌}
use native.Mathlib.Omega.{arith}
use Rattle.model.specs.Model.{strings_of}
use Rattle.units.specs.inner.Around.{around}
use Rattle.units.specs.inner.Read.{crossing_of}
use Rattle.units.proofs.SpanLaws.{crossing_read, named_found, named_next, named-none}
use lib.ListN.{get_or}
use Rattle.units.proofs.Cutter.some_around.Goals as goal
use Rattle.units.proofs.Cutter.some_around.Goals.{After-lies_around}

-- what was found of the crossing number k
told : (c : After-lies_around)
    → let st = c.args in
    let at = 2 * c.loop-k.k in
    c.lies_around.result
    ≡ around st.before.now st.after.now (crossing_of (strings_of st.self.now.pieces) (get_or st.self.now.noted.now at 0, get_or st.self.now.noted.now (at + 1) 0))
told c =
    let st = c.args in
    let at = 2 * c.loop-k.k in
    let pieces = strings_of st.self.now.pieces in
    c.lies_around.ensures
    ∙ ap (around st.before.now st.after.now) (crossing_read pieces (get_or st.self.now.noted.now at 0) (get_or st.self.now.noted.now (at + 1) 0) _ _ refl c.get-piece.ensures)

pub returns-then-lies_around : goal.returns-then-lies_around
returns-then-lies_around c =
    let l = c.loop-k in
    let st = c.args in
    let pieces = strings_of st.self.now.pieces in
    sym (l.invariant ∙ named_found (around st.before.now st.after.now) pieces st.self.now.noted.now st.self.now.count (2 * l.k) l.k (omega arith) (omega arith) (sym (told (goal.at.returns-then-lies_around c).After-lies_around) ∙ c.if-lies_around.true))

pub loop-k-preserved : goal.loop-k-preserved
loop-k-preserved c =
    let l = c.loop-k in
    let st = c.args in
    let pieces = strings_of st.self.now.pieces in
    let next : 2 * (l.k + 1) ≡ 2 * l.k + 1 + 1 = omega arith in
    rw next (l.invariant ∙ named_next (around st.before.now st.after.now) pieces st.self.now.noted.now st.self.now.count (2 * l.k) l.k (omega arith) (omega arith) (sym (told (goal.at.loop-k-preserved c).After-lies_around) ∙ c.if-lies_around.false))

pub returns : goal.returns
returns c =
    let l = c.loop-k in
    let st = c.args in
    sym (l.invariant ∙ named-none (around st.before.now st.after.now) (strings_of st.self.now.pieces) st.self.now.noted.now st.self.now.count l.k (omega arith))
