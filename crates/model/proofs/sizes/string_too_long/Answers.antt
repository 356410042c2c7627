use Rattle.std.proofs.Common.{◌≡◌, ℕ, ◌+◌, List, drop, ap, ◌∙◌, rules, tests}
use Rattle.std.proofs.lemmas.Iterator.{YieldsList-from_slice, YieldsList-from_zip}
use Rattle.std.proofs.lemmas.Iterator.Adapters.{YieldsList-from_skip}
use Rattle.std.proofs.lemmas.Iterator.Search.{any_from_yields_List}
use Rattle.utf8.proofs.Chains.{list_any-is, zip-neighbours}
use Rattle.std.specs.List as std
use lib.Dec.{ltb}
use Rattle.utf8.specs.Lists.{any}
use Rattle.model.proofs.CheckLaws.{pair_too_long_is}
use Rattle.model.specs.Check.{pair_too_long, string_too_long}
use Rattle.model.proofs.sizes.string_too_long.Goals as goal

pub returns : goal.returns
unfolding string_too_long
returns c =
    let offsets : List ℕ = c.args.offsets.now in
    any_from_yields_List pair_too_long c.any.new.self _ c.any.result c.any.ensures.ran (YieldsList-from_zip (YieldsList-from_slice offsets cc) (YieldsList-from_skip 1 (YieldsList-from_slice offsets cc) cc)) (λ x b q k. let e : (q ≡ _) × (b ≡ ltb (x.0.now + 255) x.1.now) = search (rules, tests) in (e.0, e.1 ∙ pair_too_long_is x.0.now x.1.now))
    ∙ list_any-is pair_too_long (std.zip offsets (drop 1 offsets)) ∙ ap (any pair_too_long) (zip-neighbours offsets)
