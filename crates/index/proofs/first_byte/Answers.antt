use mathlib.Core.Path.{sym}
use native.Mathlib.Omega.{arith}
use borrow.Author.Rules.{rules}
use borrow.Author.Tests.{tests}
use lib.ListN.{length, get_or-eq_default}
use Prim.Native.Nat.{◌≤◌}
use Rattle.index.proofs.first_byte.Goals as goal

pub returns-then-is_empty : goal.returns-then-is_empty
returns-then-is_empty c =
    let none : length c.args.key.now ≤ 0 = search (rules, tests) in
    (sym (get_or-eq_default c.args.key.now 0 {n = 0} none), search rules)

pub returns-else-is_empty : goal.returns-else-is_empty
returns-else-is_empty c = (c.from.ensures, omega (arith, c.from.ensures, c.type_inv.key 0))
