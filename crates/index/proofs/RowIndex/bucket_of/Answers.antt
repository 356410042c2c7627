use Prim.Native.Nat.{◌≤◌, ◌^◌}
use mathlib.Core.Path.{sym}
use native.Mathlib.Nat.{pow-le-pow_right, div-eq_of_lt}
use native.Mathlib.Omega.{arith}
use borrow.Author.Rules.{rules}
use Rattle.index.proofs.RowIndex.bucket_of.Goals as goal

pub returns-then-self-ge32 : goal.returns-then-self-ge32
returns-then-self-ge32 c =
    let st = c.args in
    let wide : 2 ^ 32 ≤ 2 ^ st.self.now.shift = pow-le-pow_right (omega arith) c.if-self-ge32.true in
    (sym (div-eq_of_lt (omega (arith, wide))), search rules)
