-- Byte order.
use Rattle.std.specs.declared.cmp.Ordering.{Ordering}
use Rattle.std.specs.declared.cmp.Ordering.TheVariants.{Less, Equal, Greater}
use Rattle.std.specs.Prelude.{ℕ, Bool, true, false, cond, List, [], ◌∷◌, ltb}

-- The order of two numbers, where they differ, and else what is given.
abbrev pub order_or : ℕ → ℕ → Ordering → Ordering
order_or x y otherwise = cond (ltb x y) Less (cond (ltb y x) Greater otherwise)

-- Byte order: a string stands before its extensions.
abbrev pub byte_order : List ℕ → List ℕ → Ordering
byte_order [] [] = Equal
byte_order [] (y ∷ ys) = Less
byte_order (x ∷ xs) [] = Greater
byte_order (x ∷ xs) (y ∷ ys) = order_or x y (byte_order xs ys)

abbrev pub is_less : Ordering → Bool
is_less Less = true
is_less Equal = false
is_less Greater = false

unfoldable pub is_before : List ℕ → List ℕ → Bool
is_before xs ys = is_less (byte_order xs ys)
