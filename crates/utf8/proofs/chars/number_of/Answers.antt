-- `utf8::chars::number_of` meets its contract: a character's length tells the bounds of its bytes. Assumes nothing.
use Prim.Native.Nat.{ℕ, ◌+◌, ◌*◌, ◌-◌}
use mathlib.Core.Path.{sym, ap, ◌∙◌}
use native.Mathlib.Omega.{arith}
use lib.ListN.{get_or}
use Rattle.utf8.proofs.Characters.{char_width-le_four, two_bytes, three_bytes, four_bytes, code_point-none, code_point-one, code_point_two, code_point_three, code_point_four}
use Rattle.utf8.proofs.chars.number_of.Goals as goal

pub returns-in-len1 : goal.returns-in-len1
returns-in-len1 c = c.from.ensures ∙ sym (code_point-one c.args.character.now (omega arith))

pub overflow_sub-from : goal.overflow_sub-from
overflow_sub-from c = omega (arith, two_bytes c.args.character.now (omega arith))

pub joined-requires : goal.joined-requires
joined-requires c = omega (arith, two_bytes c.args.character.now (omega arith))

pub returns-in-len2 : goal.returns-in-len2
returns-in-len2 c =
    c.joined.ensures
    ∙ ap (λ (n : ℕ). (n - 0xC0) * 64 + (get_or c.args.character.now 1 0 - 0x80)) c.from-in-len2.ensures
    ∙ sym (code_point_two c.args.character.now (omega arith))

pub overflow_sub-from-in-len3 : goal.overflow_sub-from-in-len3
overflow_sub-from-in-len3 c = omega (arith, three_bytes c.args.character.now (omega arith))

pub joined-requires-in-len3 : goal.joined-requires-in-len3
joined-requires-in-len3 c = omega (arith, three_bytes c.args.character.now (omega arith))

pub joined-requires-in-len3-2 : goal.joined-requires-in-len3-2
joined-requires-in-len3-2 c = omega (arith, three_bytes c.args.character.now (omega arith))

pub returns-in-len3 : goal.returns-in-len3
returns-in-len3 c =
    let s = c.args.character.now in
    c.joined-in-len3-2.ensures
    ∙ ap (λ (n : ℕ). n * 64 + (get_or s 2 0 - 0x80))
    (c.joined-in-len3.ensures ∙ ap (λ (n : ℕ). (n - 0xE0) * 64 + (get_or s 1 0 - 0x80)) c.from-in-len3.ensures)
    ∙ sym (code_point_three s (omega arith))

pub overflow_sub-from-in-len4 : goal.overflow_sub-from-in-len4
overflow_sub-from-in-len4 c = omega (arith, four_bytes c.args.character.now (omega arith))

pub joined-requires-in-len4 : goal.joined-requires-in-len4
joined-requires-in-len4 c = omega (arith, four_bytes c.args.character.now (omega arith))

pub joined-requires-in-len4-2 : goal.joined-requires-in-len4-2
joined-requires-in-len4-2 c = omega (arith, four_bytes c.args.character.now (omega arith))

pub joined-requires-in-len4-3 : goal.joined-requires-in-len4-3
joined-requires-in-len4-3 c = omega (arith, four_bytes c.args.character.now (omega arith))

pub returns-in-len4 : goal.returns-in-len4
returns-in-len4 c =
    let s = c.args.character.now in
    c.joined-in-len4-3.ensures
    ∙ ap (λ (n : ℕ). n * 64 + (get_or s 3 0 - 0x80))
    (c.joined-in-len4-2.ensures
    ∙ ap (λ (n : ℕ). n * 64 + (get_or s 2 0 - 0x80))
    (c.joined-in-len4.ensures ∙ ap (λ (n : ℕ). (n - 0xF0) * 64 + (get_or s 1 0 - 0x80)) c.from-in-len4.ensures))
    ∙ sym (code_point_four s (omega arith))

pub returns-in_default : goal.returns-in_default
returns-in_default c = sym (code_point-none c.args.character.now (omega arith))

pub returns-in_default-2 : goal.returns-in_default-2
returns-in_default-2 c = absurd (omega (arith, char_width-le_four c.args.character.now))
