use Rattle.std.proofs.Common.{ℕ, List, length, get_or, sym, ap, ◌∙◌}
use lib.Dec.{eqb}
use borrow.Author.Tests.{ne_eqb}
use Rattle.model.specs.Model.{strings_of, piece}
use Rattle.model.proofs.CheckLaws.{fits_none, fits_no_byte, fits_byte}
use Rattle.model.proofs.fallback.fallback_fits.Goals as goal

pub returns-then-id-eq-NO_ID : goal.returns-then-id-eq-NO_ID
returns-then-id-eq-NO_ID c = sym (fits_none (strings_of c.args.pieces.now) c.args.byte c.args.id c.if-id-eq-NO_ID.true)

pub returns-then-piece-eq1 : goal.returns-then-piece-eq1
unfolding piece
returns-then-piece-eq1 c =
    ap (λ (b : ℕ). eqb b c.args.byte) (c.from.ensures ∙ ap (λ (l : List ℕ). get_or l 0 0) c.get-piece.ensures)
    ∙ sym (fits_byte (strings_of c.args.pieces.now) c.args.byte c.args.id c.if-id-eq-NO_ID.false (ap length (sym c.get-piece.ensures) ∙ c.if-piece-eq1.true))

pub returns-else-piece-eq1 : goal.returns-else-piece-eq1
unfolding piece
returns-else-piece-eq1 c =
    ne_eqb _ 1 c.if-piece-eq1.false
    ∙ sym (fits_no_byte (strings_of c.args.pieces.now) c.args.byte c.args.id c.if-id-eq-NO_ID.false (λ h. c.if-piece-eq1.false (ap length c.get-piece.ensures ∙ h)))
