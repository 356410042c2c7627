use mathlib.Core.Path.{◌∙◌}
use Prim.Native.Nat.{◌<◌}
use lib.ListN.{length}
use borrow.Author.Rules.{rules}
use borrow.Author.Tests.{tests}
use Rattle.merge.specs.inner.Laid.{own_found, own_by}
use Rattle.merge.proofs.WalkLaws.{own_no_room, own_put, own_lacking}
use Rattle.merge.proofs.Speller.spell.Goals as goal

pub returns-then-is_empty : goal.returns-then-is_empty
unfolding own_found
returns-then-is_empty c =
    let st = c.args in
    own_no_room (own_by st.self.now.index) st.self.now.fallback.now st.char.now st.out.now c.find.ensures c.in-Some.is (search (rules, tests))

pub returns-else-is_empty : goal.returns-else-is_empty
unfolding own_found
returns-else-is_empty c =
    let some : 0 < length c.args.out.now = search (rules, tests) in
    let st = c.args in
    own_put (own_by st.self.now.index) st.self.now.fallback.now st.char.now st.out.now c.find.ensures c.in-Some.is some

pub returns-in-None : goal.returns-in-None
unfolding own_found
returns-in-None c =
    let st = c.args in
    c.spell_bytes.ensures
    ∙ own_lacking (own_by st.self.now.index) st.self.now.fallback.now st.char.now st.out.now c.find.ensures c.in-None.is
