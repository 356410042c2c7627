-- What is taken of the `left` matches from `at` on is what is taken of all.
use Rattle.model.specs.Model.{strings_of}
use Rattle.sections.proofs.TakenLaws.{Taking}
use Rattle.sections.proofs.walk.next_taken.Given as goal

abbrev pub invariant-loop-left : goal.invariant-loop-left
invariant-loop-left l = Taking l.begins (strings_of l.contents) l.text l.start l.from l.turns l.at l.left
