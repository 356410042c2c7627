-- `decode::words::is_plain_front` meets its contract. Assumes nothing.
use Prim.Native.Nat.{ℕ, ◌%◌}
use native.Mathlib.Omega.{arith}
use mathlib.Core.Path.{ap}
use borrow.Author.Rules.{rules}
use borrow.Author.Tests.{lt-ltb}
use Rattle.decode.proofs.WordLaws.{plain_front, power-is}
use Rattle.decode.proofs.words.is_plain_front.Goals as goal

pub returns : goal.returns
returns c =
    let few = c.if-n-gt7.false in
    rw (lt-ltb c.args.n 8 (omega (arith, few)))
    (plain_front c.args.eight c.args.n c.from_le_bytes.result _ _ (search rules) (search rules) (omega (arith, few)) c.from_le_bytes.ensures (ap (λ (k : ℕ). c.from_le_bytes.result % k) (power-is c.args.n (omega (arith, few)))) (rw c.to_le_bytes.ensures at c.is_ascii.ensures.cases))
