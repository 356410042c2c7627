-- `prepare::walk::below_from` meets its contract.
use Rattle.std.proofs.Common.{rules, tests, ℕ}
use Rattle.std.proofs.lemmas.Iterator.{YieldsList-from_slice}
use Rattle.std.proofs.lemmas.Iterator.Search.{YieldsList-from_take_while}
use Rattle.std.proofs.lemmas.Iterator.Consumers.{count_from_yields_List}
use lib.Dec.{ltb}
use Rattle.prepare.specs.inner.Walk.{below_from}
use Rattle.prepare.proofs.WalkLaws.{walked}
use Rattle.prepare.proofs.walk.below_from.Goals as goal

pub returns : goal.returns
unfolding below_from
returns c =
    let below = λ (n : ℕ). ltb n c.args.bound in
    walked below c.args.from c.args.column.now (rw c.part-rest.ensures at
    (count_from_yields_List c.take_while.result _ c.count.ensures.ran
    (YieldsList-from_take_while _ below (YieldsList-from_slice c.part-rest.result.now cc) c.take_while.ensures.closure c.take_while.ensures.done (λ x b q k. search (rules, tests)))))
