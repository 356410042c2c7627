use Rattle.std.proofs.Common.{arith}
use Rattle.std.proofs.lemmas.Grind.{common_steps}
use Rattle.std.proofs.lemmas.Bool.Decides.{nat_tests}
use Rattle.records.specs.Records.{content_of}
use Rattle.records.specs.inner.Rows.{longer_of}
use Rattle.records.proofs.seek.longer.Goals as goal

pub returns-then-not-starts_with : goal.returns-then-not-starts_with
unfolding longer_of content_of
returns-then-not-starts_with c = grind (arith, common_steps, nat_tests)

pub returns : goal.returns
unfolding longer_of content_of
returns c = grind (arith, common_steps, nat_tests)
