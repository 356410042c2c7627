-- A search from `place` on finds what one from `from` on does.
use Rattle.std.proofs.Common.{◌≡◌, drop}
use Rattle.model.specs.Model.{strings_of}
use Rattle.sections.specs.inner.Seek.{match_by}
use Rattle.sections.proofs.seek.find_added_token.Given as goal

abbrev pub invariant-loop-place : goal.invariant-loop-place
invariant-loop-place l = match_by l.begins (strings_of l.contents) l.place (drop l.place l.text) ≡ match_by l.begins (strings_of l.contents) l.from (drop l.from l.text)
