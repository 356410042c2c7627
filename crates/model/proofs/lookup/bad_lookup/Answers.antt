-- `model::lookup::bad_lookup` meets its contract: each answer by the tests that led there.
use mathlib.Core.Path.{◌≡◌, refl, sym, ◌∙◌}
use mathlib.Core.Bool.{Bool, true, false, ◌&&◌}
use mathlib.Core.List.{List}
use Prim.Native.Nat.{ℕ}
use borrow.Author.Tests.{eqb-true}
use lib.Dec.{eqb}
use Rattle.utf8.specs.Lists.{any}
use Rattle.model.specs.Model.{strings_of}
use Rattle.model.specs.Check.{names_no_piece, lookup_ascends, bad_lookup}
use Rattle.model.proofs.CompleteLaws.{none_missing}
use Rattle.model.proofs.lookup.bad_lookup.Goals as goal
use Rattle.model.proofs.lookup.bad_lookup.Goals.{Else-names_no_piece, Else-not-lookup_ascends, Start}

abbrev pieces : Start → List (List ℕ)
pieces s = strings_of s.args.pieces.now

-- behind each test, the fact that it did not apply
named : (e : Else-names_no_piece) → any (names_no_piece (pieces (goal.at.Else-names_no_piece e).Start)) e.args.lookup.now ≡ false
named e = sym e.names_no_piece.ensures ∙ e.if-names_no_piece.false

ordered : (e : Else-not-lookup_ascends) → lookup_ascends (pieces (goal.at.Else-not-lookup_ascends e).Start) e.args.lookup.now ≡ true
ordered e = sym e.lookup_ascends.ensures ∙ e.if-not-lookup_ascends.false

-- a flag that two numbers are equal, and what follows if they are
if_equal : (a b : ℕ) (missing : Bool) → (a ≡ b → missing ≡ false) → (eqb a b && missing) ≡ false
if_equal a b missing f = go (eqb a b) refl
  where
    go : (t : Bool) → eqb a b ≡ t → (eqb a b && missing) ≡ false
    go true e = rw e (f (eqb-true a b e))
    go false e = rw e

pub returns-then-names_no_piece : goal.returns-then-names_no_piece
unfolding bad_lookup
returns-then-names_no_piece c =
    let s = (goal.at.returns-then-names_no_piece c).Start in
    let unnamed : any (names_no_piece (pieces s)) s.args.lookup.now ≡ true = sym c.names_no_piece.ensures ∙ c.if-names_no_piece.true in
    rw unnamed

pub returns-then-not-lookup_ascends : goal.returns-then-not-lookup_ascends
unfolding bad_lookup
returns-then-not-lookup_ascends c =
    let s = (goal.at.returns-then-not-lookup_ascends c).Start in
    let falls : lookup_ascends (pieces s) s.args.lookup.now ≡ false = sym c.lookup_ascends.ensures ∙ c.if-not-lookup_ascends.true in
    rw (named (goal.at.returns-then-not-lookup_ascends c).Else-names_no_piece, falls)

pub piece_missing-requires : goal.piece_missing-requires
piece_missing-requires c =
    let s = (goal.at.piece_missing-requires c).Start in
    record { ascending = ordered (goal.at.piece_missing-requires c).Else-not-lookup_ascends; long_listed = if_equal _ _ _ (λ e. none_missing (pieces s) s.args.lookup.now (named (goal.at.piece_missing-requires c).Else-names_no_piece) (ordered (goal.at.piece_missing-requires c).Else-not-lookup_ascends) (sym c.long_pieces.ensures ∙ e ∙ c.long_entries.ensures)) }

pub returns : goal.returns
unfolding bad_lookup
returns c = rw (named (goal.at.returns c).Else-names_no_piece, ordered (goal.at.returns c).Else-not-lookup_ascends) c.piece_missing.ensures
