-- A crossing beside what stands before and after a mark, and the bytes at which a unit can start.
use Rattle.std.specs.Prelude.{ℕ, Bool, ◌&&◌, List, ◌∷◌}
use Rattle.utf8.specs.Lists.{starts_with, ends_with}
use Rattle.units.specs.Kinds.{Crossing}
use Rattle.units.specs.Units.{punctuation}

unfoldable pub around : List ℕ → List ℕ → Crossing → Bool
around before after c = ends_with c.pre before && starts_with c.post after

-- The first byte of a mark, a space, and punctuation.
unfoldable pub starters : List ℕ
starters = 0xE2 ∷ 0x20 ∷ punctuation
