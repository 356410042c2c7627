-- `prepare::walk::first_below_from` meets its contract.
use Rattle.std.proofs.Common.{rules, tests, ℕ, get_or}
use Rattle.std.proofs.lemmas.Iterator.{YieldsList-from_slice}
use Rattle.std.proofs.lemmas.Iterator.Search.{YieldsList-from_take_while}
use Rattle.std.proofs.lemmas.Iterator.Consumers.{count_from_yields_List}
use lib.Dec.{ltb}
use Rattle.model.specs.Model.{strings_of, piece}
use Rattle.prepare.specs.inner.Walk.{first_below_from}
use Rattle.prepare.proofs.WalkLaws.{walked}
use Rattle.prepare.proofs.walk.first_below_from.Goals as goal

pub returns : goal.returns
unfolding first_below_from piece
returns c =
    let below = λ (id : ℕ). ltb (get_or (piece (strings_of c.args.pieces.now) id) 0 0) c.args.bound in
    walked below c.args.from c.args.lookup.now (rw c.part-rest.ensures at
    (count_from_yields_List c.take_while.result _ c.count.ensures.ran
    (YieldsList-from_take_while _ below (YieldsList-from_slice c.part-rest.result.now cc) c.take_while.ensures.closure c.take_while.ensures.done (λ x b q k. search (rules, tests)))))
