-- `utf8::chars::are_eight_plain` meets its contract. Assumes nothing.
use mathlib.Core.Path.{refl}
use mathlib.Core.Bool.{Bool, true, false, false≢true}
use mathlib.Core.List.{List}
use Prim.Native.Nat.{ℕ}
use native.Mathlib.Omega.{arith}
use Rattle.std.specs.Bool.{IsTrue, MatchBool}
use Rattle.std.specs.Str.{IsAscii, IsNotAscii}
use Rattle.utf8.proofs.chars.are_eight_plain.Goals as goal

told : (b : Bool) (s : List ℕ) → MatchBool b (IsAscii s) (IsNotAscii s) → (IsTrue b → IsAscii s) × (IsAscii s → IsTrue b)
told true s h = (λ _. h, λ _. refl)
told false s h = (λ e. absurd (false≢true e), λ plain. absurd (omega (arith, h.1, plain h.0)))

pub returns-in-Some : goal.returns-in-Some
returns-in-Some c =
    let first = c.in-Some.ensures.cases in
    let both = told c.is_ascii.result c.in-Some.eight.now c.is_ascii.ensures.cases in
    rw (← first.same) (λ e. (first.enough, both.0 e), λ h. both.1 h.1)
