-- `utf8::white_space::is_white_space` meets its contract: the code's table is the definition's.
use Rattle.std.proofs.Common.{rules, tests}
use Rattle.std.proofs.lemmas.Iterator.{YieldsList-from_slice}
use Rattle.std.proofs.lemmas.Iterator.Search.{any_from_yields_List}
use Rattle.utf8.specs.declared.white_space.Range.{Range as CodeRange}
use Rattle.std.specs.Prelude.{map}
use Rattle.utf8.specs.Lists.{Range, within}
use Rattle.utf8.specs.WhiteSpace.{white_space, is_white_space}
use Rattle.utf8.proofs.white_space.is_white_space.Goals as goal

-- A range of the definition as the code's.
in_code : Range → CodeRange
in_code range = record { low = range.0; high = range.1 }

pub returns : goal.returns
unfolding white_space is_white_space in_code
returns c = any_from_yields_List (λ (range : CodeRange). within (range.low, range.high) c.args.code) _ _ _ c.any.ensures.ran (YieldsList-from_slice (map in_code white_space) cc) (λ x b q k. search (rules, tests))
