-- `best` is the longest of the rows from `row` on, and `long` its length.
use Rattle.std.proofs.Common.{◌≤◌, length}
use Rattle.model.specs.Model.{strings_of}
use Rattle.sections.proofs.SeekLaws.{Best}
use Rattle.sections.proofs.seek.longest_at.Given as goal

abbrev pub invariant-loop-row : goal.invariant-loop-row
invariant-loop-row l = (l.row ≤ length (strings_of l.contents)) × Best (strings_of l.contents) l.text l.row l.best l.long
