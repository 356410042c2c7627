-- `normalise::copy::copy_at` meets its contract.
use Rattle.std.proofs.Common.{rules, add-one}
use lib.Seq.{paste-suc}
use Rattle.normalise.proofs.copy.copy_at.Goals as goal

pub loop-j-preserved : goal.loop-j-preserved
loop-j-preserved c = rw (c.loop-j.invariant, add-one) (paste-suc c.args.out.now c.args.at c.args.part.now c.loop-j.j 0 (search rules) (search rules))
