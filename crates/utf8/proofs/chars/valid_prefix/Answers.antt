use Prim.Native.Nat.{ℕ, ◌≤◌, ◌+◌}
use mathlib.Core.Path.{◌≡◌, sym, ap, ◌∙◌}
use native.Mathlib.Omega.{arith}
use mathlib.Core.List.{List}
use lib.ListN.{length, drop, length-drop}
use lib.Seq.{drop-drop}
use Rattle.utf8.specs.Chars.{char_width, longest_valid_prefix}
use Rattle.utf8.proofs.Lists.{part_to_end}
use Rattle.utf8.proofs.Characters.{char_width-le-length, char_ends}
use Rattle.utf8.proofs.Valid.{prefix_stops, prefix_next}
use Rattle.utf8.proofs.Plain.{plain_prefix}
use Rattle.utf8.proofs.chars.valid_prefix.Goals as goal
use Rattle.utf8.proofs.chars.valid_prefix.Goals.{After-char_width-w, Then-are_eight_plain}

module _ (c : After-char_width-w) where
  abbrev text : List ℕ
  text = c.args.s.now

  abbrev place : ℕ
  place = c.loop-i.i

  -- The width is that of the character at the place.
  width : c.char_width-w.result ≡ char_width (drop place text)
  width = c.char_width-w.ensures ∙ ap char_width (part_to_end text place)

  ends : place + c.char_width-w.result ≤ length text
  ends = omega (arith, width, char_ends text place (omega arith))

-- Eight bytes that are characters by themselves.
eight : (t : Then-are_eight_plain)
    → let s = t.args.s.now in
    let i = t.loop-i.i in (i + 8 ≤ length s) × (length (longest_valid_prefix (drop i s)) ≡ 8 + length (longest_valid_prefix (drop (i + 8) s)))
eight t =
    let s = t.args.s.now in
    let i = t.loop-i.i in
    let plain = rw (part_to_end s i) at (t.are_eight_plain.ensures.0 t.if-are_eight_plain.true) in
    (omega (arith, plain.0, length-drop i s), plain_prefix 8 (drop i s) plain.0 plain.1 ∙ ap (λ (l : List ℕ). 8 + length (longest_valid_prefix l)) (drop-drop 8 i s))

pub loop-i-preserved-then-are_eight_plain : goal.loop-i-preserved-then-are_eight_plain
loop-i-preserved-then-are_eight_plain c = ((eight c).0, omega (arith, (eight c).1))

pub returns-then-w-eq0 : goal.returns-then-w-eq0
returns-then-w-eq0 c =
    let b = (goal.at.returns-then-w-eq0 c).After-char_width-w in
    omega (arith, ap length (prefix_stops (drop (place b) (text b)) (sym (width b) ∙ c.if-w-eq0.true)))

pub overflow_add-i-else-are_eight_plain : goal.overflow_add-i-else-are_eight_plain
overflow_add-i-else-are_eight_plain c = omega (arith, ends (goal.at.overflow_add-i-else-are_eight_plain c).After-char_width-w)

pub loop-i-preserved : goal.loop-i-preserved
loop-i-preserved c =
    let b = (goal.at.loop-i-preserved c).After-char_width-w in
    let w = width b in
    let next = prefix_next (text b) (place b) (omega arith) in
    (ends b, rw w (omega (arith, next)))

pub returns : goal.returns
returns c =
    let s = c.args.s.now in
    let i = c.loop-i.i in
    omega (arith, ap length (prefix_stops (drop i s) (omega (arith, char_width-le-length (drop i s), length-drop i s))))
