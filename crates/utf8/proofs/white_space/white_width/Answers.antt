-- `utf8::white_space::white_width` meets its contract. Assumes nothing.
use Prim.Native.Nat.{◌<◌}
use mathlib.Core.Path.{◌≡◌, sym, ap, ◌∙◌}
use mathlib.Core.Bool.{Bool, true, false, cond}
use native.Mathlib.Omega.{arith}
use lib.ListN.{length, take}
use lib.Seq.{length-take-le}
use Rattle.utf8.specs.Chars.{code_point}
use Rattle.utf8.specs.WhiteSpace.{is_white_space}
use Rattle.utf8.specs.inner.Ends.{white_width}
use Rattle.utf8.proofs.Characters.{char_width-le-length, char_width-take}
use Rattle.utf8.proofs.Trim.{white_width-le, white_width-some}
use Rattle.utf8.proofs.white_space.white_width.Goals as goal
use Rattle.utf8.proofs.white_space.white_width.Goals.{Then-w-ne0, After-char_width-w, else-w-ne0-via-then-w-ne0+else-is_white_space, else-w-ne0-via-else-w-ne0}

-- The character is as long as its width.
fits : (c : Then-w-ne0) → length (take c.char_width-w.result c.args.s.now) ≡ c.char_width-w.result
fits c = length-take-le c.char_width-w.result c.args.s.now (omega (arith, char_width-le-length c.args.s.now))

-- Where a character stands, whether it is White_Space decides.
decided : (c : After-char_width-w) → 0 < c.char_width-w.result → (white : Bool)
    → white ≡ is_white_space (code_point (take c.char_width-w.result c.args.s.now))
    → white_width c.args.s.now ≡ cond white c.char_width-w.result 0
decided c some white e = rw (e, c.char_width-w.ensures) (white_width-some c.args.s.now (omega arith))

pub slice_bounds-number_of-end : goal.slice_bounds-number_of-end
slice_bounds-number_of-end c = sym (fits c)

pub number_of-requires : goal.number_of-requires
number_of-requires c = char_width-take c.args.s.now c.char_width-w.result (omega arith) ∙ sym c.char_width-w.ensures ∙ sym (fits c)

pub returns-then-is_white_space : goal.returns-then-is_white_space
returns-then-is_white_space c =
    sym (decided (goal.at.returns-then-is_white_space c).After-char_width-w (omega arith) true (c.if-is_white_space.ensures ∙ ap is_white_space c.number_of.ensures))

pub returns-else-w-ne0 : goal.returns-else-w-ne0
returns-else-w-ne0 c =
    elim c.else-w-ne0.branch [
      | else-w-ne0-via-then-w-ne0+else-is_white_space w ↦
          sym (decided (goal.at.returns-else-w-ne0 c).After-char_width-w (omega arith) false (w.if-is_white_space.ensures ∙ ap is_white_space w.number_of.ensures))
      | else-w-ne0-via-else-w-ne0 w ↦ omega (arith, white_width-le c.args.s.now)
    ]
