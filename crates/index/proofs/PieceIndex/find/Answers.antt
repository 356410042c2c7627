use Rattle.std.specs.Prelude.{Some}
use mathlib.Core.Path.{◌≡◌, sym, ap, ◌∙◌}
use borrow.Author.Tests.{eq-eqb, ne_eqb}
use Rattle.model.specs.Model.{strings_of}
use Rattle.model.specs.inner.Search.{id_at, entry_at}
use Rattle.index.specs.inner.Find.{id_of, id_from}
use Rattle.index.proofs.IndexLaws.{id-searched}
use Rattle.index.proofs.PieceIndex.find.Goals as goal
use Rattle.index.proofs.PieceIndex.find.Goals.{After-find_piece_between}

pub returns-then-key-eq1 : goal.returns-then-key-eq1
unfolding id_from
returns-then-key-eq1 c = rw (eq-eqb _ _ c.if-key-eq1.true) (c.id_of.ensures ∙ ap id_of c.byte_id.ensures)

pub returns-then-is_mark : goal.returns-then-is_mark
unfolding id_from
returns-then-is_mark c =
    rw (ne_eqb _ _ c.if-key-eq1.false, ← c.is_mark.ensures, c.if-is_mark.true) c.id_of-then-is_mark.ensures

-- what is sought, from where the lookup list was searched
sought : (c : After-find_piece_between) → (id_from (strings_of c.args.self.now.pieces) c.args.self.now.lookup.now c.args.self.now.words.now c.args.self.now.mark_id c.args.key.now ≡ entry_at 0 c.args.self.now.lookup.now c.find_piece_between.result)
unfolding id_at
sought c =
    id-searched (strings_of c.args.self.now.pieces) c.args.self.now.lookup.now c.args.self.now.words.now c.args.self.now.mark_id c.args.key.now
    c.if-key-eq1.false c.is_mark.ensures c.if-is_mark.false c.start-start.ensures c.end-end.ensures c.find_piece_between.ensures

pub returns-in_err-place : goal.returns-in_err-place
returns-in_err-place c = c.from_residual.ensures ∙ sym (sought (goal.at.returns-in_err-place c).After-find_piece_between ∙ rw c.in_err-place.was)

pub returns : goal.returns
returns c = sym (sought (goal.at.returns c).After-find_piece_between ∙ rw c.in_ok-place.was (ap Some (sym c.number_at.ensures)))
