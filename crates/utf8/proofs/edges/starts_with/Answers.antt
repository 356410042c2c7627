-- `utf8::edges::starts_with` meets its contract: the text's front is the pattern.
use mathlib.Core.Path.{sym, ◌∙◌}
use native.Mathlib.Omega.{arith}
use Rattle.utf8.proofs.Starts.{starts_by_front, starts_short}
use Rattle.utf8.proofs.edges.starts_with.Goals as goal

pub returns-then-text-pattern : goal.returns-then-text-pattern
returns-then-text-pattern c = sym (starts_short c.args.pattern.now c.args.text.now (omega arith))

pub returns : goal.returns
returns c = c.eq.ensures ∙ starts_by_front c.args.pattern.now c.args.text.now
