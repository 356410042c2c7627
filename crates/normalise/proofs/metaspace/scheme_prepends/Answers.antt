-- `normalise::metaspace::scheme_prepends` meets its contract: by the scheme.
use Rattle.normalise.specs.Spaces.{scheme_prepends}
use Rattle.normalise.proofs.metaspace.scheme_prepends.Goals as goal

pub returns-in-Never : goal.returns-in-Never
unfolding scheme_prepends
returns-in-Never c = rw c.in-Never.is

pub returns-in-Always : goal.returns-in-Always
unfolding scheme_prepends
returns-in-Always c = rw c.in-Always.is

pub returns-in-First : goal.returns-in-First
unfolding scheme_prepends
returns-in-First c = rw c.in-First.is
