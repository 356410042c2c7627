-- `decode::decode_ids` meets its contract: the bytes are put out where there is room for all of them. Assumes nothing.
use Prim.Native.Nat.{ℕ}
use mathlib.Core.Path.{refl, sym, ◌∙◌}
use mathlib.Core.Bool.{not}
use mathlib.Core.List.{List}
use borrow.Author.Rules.{rules}
use Rattle.model.specs.Model.{strings_of}
use Rattle.decode.proofs.DecodeLaws.{ids_short, ids-fit, skips-counted}
use Rattle.decode.proofs.decode_ids.Goals as goal
use Rattle.decode.proofs.decode_ids.Goals.{Start}

-- what is decoded
abbrev pieces : Start → List (List ℕ)
pieces s = strings_of s.args.pieces.now

pub text_fits-requires : goal.text_fits-requires
text_fits-requires c = c.requires

pub returns-then-not-text_fits : goal.returns-then-not-text_fits
returns-then-not-text_fits c =
    let s = (goal.at.returns-then-not-text_fits c).Start in
    ids_short (pieces s) (not s.args.begun) s.args.ids.now s.args.out.now _ refl (sym c.text_fits.ensures ∙ c.if-not-text_fits.true)

pub put_decoded-written-requires : goal.put_decoded-written-requires
put_decoded-written-requires c = c.requires.ids_len_bound

pub returns : goal.returns
returns c =
    let s = (goal.at.returns c).Start in
    ids-fit (pieces s) (not s.args.begun) s.args.ids.now s.args.out.now _ _ _ _ _ (sym c.text_fits.ensures ∙ c.if-not-text_fits.false)
    c.put_decoded-written.ensures (search rules) c.clear.ensures
    (c.count_skips.ensures ∙ skips-counted s.args.pieces.now.bytes.now s.args.pieces.now.offsets.now s.args.ids.now _ c.len.ensures)
    refl
