use Prim.Native.Nat.{◌≤◌, ◌*◌, ◌%◌, ◌^◌}
use mathlib.Core.Path.{◌≡◌}
use native.Mathlib.Nat.{one-mul, mod-eq_of_lt, pow-le-pow_right}
use native.Mathlib.Omega.{arith}
use borrow.Author.Rules.{rules}
use Rattle.prepare.proofs.fill.power.Goals as goal

pub returns : goal.returns
returns c =
    let small : 2 ^ c.args.shift ≤ 128 = pow-le-pow_right (omega arith) {i = c.args.shift} {j = 7} (search rules) in
    let is : 1 * 2 ^ c.args.shift % 18446744073709551616 ≡ 2 ^ c.args.shift = rw one-mul (mod-eq_of_lt (omega arith)) in
    (is, omega arith)
