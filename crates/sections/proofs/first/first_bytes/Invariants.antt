-- Noting the contents from `row` on makes what noting all of them makes.
use Rattle.std.proofs.Common.{◌≡◌, drop}
use Rattle.model.specs.Model.{strings_of}
use Rattle.sections.specs.inner.Seek.{note_firsts}
use Rattle.sections.proofs.first.first_bytes.Given as goal

abbrev pub invariant-loop-row : goal.invariant-loop-row
invariant-loop-row l = note_firsts (drop l.row (strings_of l.contents)) l.begins ≡ note_firsts (strings_of l.contents) l.initial.begins
