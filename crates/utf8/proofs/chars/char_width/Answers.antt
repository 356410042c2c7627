-- `utf8::chars::char_width` meets its contract: each arm of its `match` is a form of the table, by the form's first range.
-- Assumes nothing.
use mathlib.Core.Path.{refl, sym, ◌∙◌}
use native.Mathlib.Omega.{arith}
use Rattle.utf8.specs.Chars.{char_forms}
use Rattle.utf8.proofs.Characters.{char_width-le-length, char_width_lead, char_width-apart}
use Rattle.utf8.proofs.chars.char_width.Goals as goal

pub returns-in_default : goal.returns-in_default
returns-in_default c = omega (arith, char_width-le-length c.args.s.now)

pub returns-in-224 : goal.returns-in-224
unfolding char_forms
returns-in-224 c = c.width_if.ensures ∙ sym (char_width_lead 2 c.args.s.now (omega arith) (omega arith) (omega arith))

pub returns-in-237 : goal.returns-in-237
unfolding char_forms
returns-in-237 c = c.width_if-in-237.ensures ∙ sym (char_width_lead 4 c.args.s.now (omega arith) (omega arith) (omega arith))

pub returns-in-240 : goal.returns-in-240
unfolding char_forms
returns-in-240 c = c.width_if-in-240.ensures ∙ sym (char_width_lead 6 c.args.s.now (omega arith) (omega arith) (omega arith))

pub returns-in-244 : goal.returns-in-244
unfolding char_forms
returns-in-244 c = c.width_if-in-244.ensures ∙ sym (char_width_lead 8 c.args.s.now (omega arith) (omega arith) (omega arith))

pub returns-in-0-to-127 : goal.returns-in-0-to-127
unfolding char_forms
returns-in-0-to-127 c = sym (char_width_lead 0 c.args.s.now (omega arith) (omega arith) (omega arith))

pub returns-in-194-to-223 : goal.returns-in-194-to-223
unfolding char_forms
returns-in-194-to-223 c = c.width_if-in-194-to-223.ensures ∙ sym (char_width_lead 1 c.args.s.now (omega arith) (omega arith) (omega arith))

pub returns-in-225-to-236 : goal.returns-in-225-to-236
unfolding char_forms
returns-in-225-to-236 c = c.width_if-in-225-to-236.ensures ∙ sym (char_width_lead 3 c.args.s.now (omega arith) (omega arith) (omega arith))

pub returns-in-238-to-239 : goal.returns-in-238-to-239
unfolding char_forms
returns-in-238-to-239 c = c.width_if-in-238-to-239.ensures ∙ sym (char_width_lead 5 c.args.s.now (omega arith) (omega arith) (omega arith))

pub returns-in-241-to-243 : goal.returns-in-241-to-243
unfolding char_forms
returns-in-241-to-243 c = c.width_if-in-241-to-243.ensures ∙ sym (char_width_lead 7 c.args.s.now (omega arith) (omega arith) (omega arith))

pub returns-in_default-first : goal.returns-in_default-first
unfolding char_forms
returns-in_default-first c = sym (char_width-apart (0x80, 0xC1) refl c.args.s.now (omega arith) (omega arith) (omega arith))

pub returns-in_default-first-2 : goal.returns-in_default-first-2
unfolding char_forms
returns-in_default-first-2 c =
    let byte = c.type_inv.s 0 in sym (char_width-apart (0xF5, 0xFF) refl c.args.s.now (omega arith) (omega arith) (omega arith))
