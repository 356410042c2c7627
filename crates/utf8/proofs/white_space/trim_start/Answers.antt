use Prim.Native.Nat.{ℕ, ◌+◌, ◌≤◌}
use mathlib.Core.Path.{◌≡◌, sym, ap, ◌∙◌}
use mathlib.Core.List.{List}
use native.Mathlib.Omega.{arith}
use lib.ListN.{length, drop, length-drop}
use Rattle.utf8.specs.inner.Ends.{white_width}
use Rattle.utf8.proofs.Lists.{part_to_end}
use Rattle.utf8.proofs.Characters.{char_width-le-length}
use Rattle.utf8.proofs.Trim.{white_width-le, white_ends, trim_start_stops, trim_start-next}
use Rattle.utf8.proofs.white_space.trim_start.Goals as goal
use Rattle.utf8.proofs.white_space.trim_start.Goals.{After-white_width-w}

module _ (c : After-white_width-w) where
  abbrev text : List ℕ
  text = c.args.s.now

  abbrev place : ℕ
  place = c.loop-i.i

  -- The width is that of the White_Space at the place.
  width : c.white_width-w.result ≡ white_width (drop place text)
  width = c.white_width-w.ensures ∙ ap white_width (part_to_end text place)

  ends : place + c.white_width-w.result ≤ length text
  ends = omega (arith, width, white_ends text place (omega arith))

pub returns-then-w-eq0 : goal.returns-then-w-eq0
returns-then-w-eq0 c =
    let b = (goal.at.returns-then-w-eq0 c).After-white_width-w in
    part_to_end (text b) (place b)
    ∙ sym (b.loop-i.invariant.1 ∙ trim_start_stops (drop (place b) (text b)) (sym (width b) ∙ c.if-w-eq0.true))

pub overflow_add-i : goal.overflow_add-i
overflow_add-i c = omega (arith, ends (goal.at.overflow_add-i c).After-white_width-w)

pub loop-i-preserved : goal.loop-i-preserved
loop-i-preserved c =
    let b = (goal.at.loop-i-preserved c).After-white_width-w in
    let w = width b in
    (ends b, b.loop-i.invariant.1 ∙ rw w (trim_start-next (text b) (place b) (omega arith)))

pub returns : goal.returns
returns c =
    let s = c.args.s.now in
    let i = c.loop-i.i in
    part_to_end s i
    ∙ sym (c.loop-i.invariant.1 ∙ trim_start_stops (drop i s) (omega (arith, white_width-le (drop i s), char_width-le-length (drop i s), length-drop i s)))
