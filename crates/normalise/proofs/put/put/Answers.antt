-- `normalise::put::put` meets its contract.
use Rattle.std.proofs.Common.{ℕ, length-append, arith}
use Rattle.normalise.proofs.FitLaws.{put_over, put_done}
use Rattle.normalise.proofs.HeadLaws.{both_copied}
use Rattle.normalise.proofs.put.put.Goals as goal

pub returns-in_err-checked_sub : goal.returns-in_err-checked_sub
returns-in_err-checked_sub c = rw c.from_residual.ensures (put_over _ c.args.room c.args.out.now (omega (arith, c.in_err-checked_sub.ensures, c.min-space.ensures, length-append {A = ℕ})))

pub returns-in_err-left : goal.returns-in_err-left
returns-in_err-left c = rw c.from_residual-in_err-left.ensures (put_over _ c.args.room c.args.out.now (omega (arith, c.in_ok-checked_sub.ensures, c.in_err-left.ensures, c.min-space.ensures, length-append {A = ℕ})))

pub returns : goal.returns
returns c =
    put_done _ c.args.room c.args.out.now (omega (arith, c.in_ok-checked_sub.ensures, c.in_ok-left.ensures, length-append {A = ℕ})) (omega (arith, c.in_ok-checked_sub.ensures, c.in_ok-left.ensures, c.min-space.ensures, length-append {A = ℕ}))
    (both_copied c.args.lead.now c.args.text.now c.args.out.now c.copy_at.ensures c.copy_at-2.ensures)
