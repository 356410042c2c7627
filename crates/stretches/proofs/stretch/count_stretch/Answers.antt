-- `stretches::stretch::count_stretch` meets its contract.
use native.Mathlib.Omega.{arith}
use mathlib.Core.Path.{◌∙◌}
use Rattle.stretches.proofs.PartLaws.{nothing-counted, section_counted}
use Rattle.stretches.proofs.stretch.count_stretch.Goals as goal

pub returns-then-section-eq0 : goal.returns-then-section-eq0
returns-then-section-eq0 c = nothing-counted _ _ _ _ _ _ c.if-section-eq0.true

pub returns : goal.returns
returns c = c.count_symbols.ensures ∙ rw (c.speller.ensures.own, c.speller.ensures.fallback) (section_counted _ _ _ _ _ _ c.if-section-eq0.false (omega arith))
