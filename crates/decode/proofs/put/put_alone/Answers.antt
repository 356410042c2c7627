-- `decode::put::put_alone` meets its contract: by whether the byte is a character, and whether a space goes. Assumes nothing.
use mathlib.Core.Path.{◌≡◌, sym, ap, ◌∙◌}
use mathlib.Core.Bool.{not}
use mathlib.Core.List.{List, [], ◌∷◌}
use borrow.Author.Tests.{eq-eqb, ne_eqb}
use Prim.Native.Nat.{ℕ}
use Rattle.decode.specs.Decode.{replacement}
use Rattle.decode.specs.inner.Feeding.{put, shown_first}
use Rattle.decode.proofs.TextLaws.{shown_stray, shown_ascii}
use Rattle.decode.proofs.StateLaws.{put-nothing}
use Rattle.decode.proofs.put.put_alone.Goals as goal
use Rattle.decode.proofs.put.put_alone.Goals.{Start}

-- What is put out where the byte is shown as these bytes.
shows : (s : Start) (xs : List ℕ) → shown_first (not s.args.begun) (s.args.b ∷ []) ≡ xs
    → put xs s.args.at s.args.out.now ≡ put (shown_first (not s.args.begun) (s.args.b ∷ [])) s.args.at s.args.out.now
shows s xs e = ap (λ (l : List ℕ). put l s.args.at s.args.out.now) (sym e)

pub returns-then-b-gt127 : goal.returns-then-b-gt127
unfolding replacement
returns-then-b-gt127 c =
    let s = (goal.at.returns-then-b-gt127 c).Start in
    c.put_bytes.ensures ∙ shows s _ (shown_stray (not s.args.begun) s.args.b c.if-b-gt127.true s.requires.closed_after)

pub returns-then-begun : goal.returns-then-begun
returns-then-begun c =
    let s = (goal.at.returns-then-begun c).Start in
    c.put_byte.ensures ∙ shows s _ (shown_ascii (not s.args.begun) s.args.b c.if-b-gt127.false ∙ rw c.if-begun.true)

pub returns-then-b-eq32 : goal.returns-then-b-eq32
returns-then-b-eq32 c =
    let s = (goal.at.returns-then-b-eq32 c).Start in
    put-nothing s.args.at s.args.out.now
    ∙ shows s _ (shown_ascii (not s.args.begun) s.args.b c.if-b-gt127.false ∙ rw (c.if-begun.false, eq-eqb s.args.b 0x20 c.if-b-eq32.true))

pub returns : goal.returns
returns c =
    let s = (goal.at.returns c).Start in
    c.put_byte-2.ensures
    ∙ shows s _ (shown_ascii (not s.args.begun) s.args.b c.if-b-gt127.false ∙ rw (c.if-begun.false, ne_eqb s.args.b 0x20 c.if-b-eq32.false))
