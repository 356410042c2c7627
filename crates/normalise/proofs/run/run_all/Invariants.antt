-- `normalise::run::run_all` meets its contract. The function that a turn goes by is metaspace's.
use Rattle.normalise.specs.Spaces.{spaces_marked, scheme_prepends, mark_prepended}
use Rattle.std.proofs.Common.{ℕ, List}
use Rattle.normalise.proofs.run.run_all.Given as goal

abbrev pub ghost-turn : goal.ghost-turn
ghost-turn a = λ (bytes : List ℕ). mark_prepended (scheme_prepends a.apply.0.now a.apply.1.now) (spaces_marked bytes)
