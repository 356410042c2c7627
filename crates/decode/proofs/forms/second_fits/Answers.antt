-- `decode::forms::second_fits` meets its contract: each arm of its `match` is a form of the table, by the form's first range. Assumes nothing.
use Prim.Native.Nat.{ℕ, ◌≤◌}
use native.Mathlib.Omega.{arith}
use mathlib.Core.Path.{◌≡◌, refl, sym, ap, ◌∙◌}
use mathlib.Core.Bool.{false}
use mathlib.Core.Logic.{⊎_elim}
use mathlib.Core.List.{List, []}
use borrow.Author.Tests.{ltb-true, ltb-false}
use lib.Dec.{ltb}
use lib.ListN.{get_or}
use Rattle.utf8.specs.Lists.{Range, within}
use Rattle.utf8.specs.Chars.{char_forms}
use Rattle.utf8.proofs.Tests.{either, within_in, within-below, within_above}
use Rattle.utf8.proofs.Forms.{first_of}
use Rattle.decode.specs.inner.Feeding.{form_of}
use Rattle.decode.proofs.FormLaws.{form_lead, form-apart, ascii_form}
use Rattle.decode.proofs.forms.second_fits.Goals as goal

fits : (k first b : ℕ) → (first_of (get_or char_forms k [])).0 ≤ first → first ≤ (first_of (get_or char_forms k [])).1 → within (get_or (get_or char_forms k []) 1 (1, 0)) b ≡ within (get_or (form_of first) 1 (1, 0)) b
fits k first b low high = sym (ap (λ (form : List Range). within (get_or form 1 (1, 0)) b) (form_lead k first (within_in (first_of (get_or char_forms k [])) first low high)))

-- No byte lies between bounds that are exchanged.
none : (b : ℕ) → within (1, 0) b ≡ false
none b = ⊎_elim (λ e. rw (within-below (1, 0) b (ltb-true b 1 e))) (λ e. within_above (1, 0) b (omega (arith, ltb-false b 1 e))) (either (ltb b 1))

-- A byte that begins no character, and one that is a character.
nothing : (first b : ℕ) → form_of first ≡ [] → false ≡ within (get_or (form_of first) 1 (1, 0)) b
nothing first b e = sym (ap (λ (form : List Range). within (get_or form 1 (1, 0)) b) e ∙ none b)

alone : (first b : ℕ) → first ≤ 0x7F → false ≡ within (get_or (form_of first) 1 (1, 0)) b
alone first b h = sym (ap (λ (form : List Range). within (get_or form 1 (1, 0)) b) (ascii_form first h) ∙ none b)

pub returns-in-224 : goal.returns-in-224
unfolding char_forms
returns-in-224 c = c.is_within.ensures ∙ fits 2 c.args.first c.args.b (omega arith) (omega arith)

pub returns-in-237 : goal.returns-in-237
unfolding char_forms
returns-in-237 c = c.is_within-in-237.ensures ∙ fits 4 c.args.first c.args.b (omega arith) (omega arith)

pub returns-in-240 : goal.returns-in-240
unfolding char_forms
returns-in-240 c = c.is_within-in-240.ensures ∙ fits 6 c.args.first c.args.b (omega arith) (omega arith)

pub returns-in-244 : goal.returns-in-244
unfolding char_forms
returns-in-244 c = c.is_within-in-244.ensures ∙ fits 8 c.args.first c.args.b (omega arith) (omega arith)

pub returns-in-194-to-223 : goal.returns-in-194-to-223
unfolding char_forms
returns-in-194-to-223 c = c.is_within-in-194-to-223.ensures ∙ fits 1 c.args.first c.args.b (omega arith) (omega arith)

pub returns-in-225-to-236 : goal.returns-in-225-to-236
unfolding char_forms
returns-in-225-to-236 c = c.is_within-in-225-to-236.ensures ∙ fits 3 c.args.first c.args.b (omega arith) (omega arith)

pub returns-in-238-to-239 : goal.returns-in-238-to-239
unfolding char_forms
returns-in-238-to-239 c = c.is_within-in-238-to-239.ensures ∙ fits 5 c.args.first c.args.b (omega arith) (omega arith)

pub returns-in-241-to-243 : goal.returns-in-241-to-243
unfolding char_forms
returns-in-241-to-243 c = c.is_within-in-241-to-243.ensures ∙ fits 7 c.args.first c.args.b (omega arith) (omega arith)

pub returns-in_default : goal.returns-in_default
unfolding char_forms
returns-in_default c =
    let a = c.args in
    ⊎_elim
    (λ e. nothing a.first a.b (form-apart (0x80, 0xC1) refl a.first (within_in (0x80, 0xC1) a.first (ltb-true 0x7F a.first e) (omega arith))))
    (λ e. alone a.first a.b (ltb-false 0x7F a.first e))
    (either (ltb 0x7F a.first))

pub returns-in_default-2 : goal.returns-in_default-2
unfolding char_forms
returns-in_default-2 c =
    let a = c.args in
    nothing a.first a.b (form-apart (0xF5, 0xFF) refl a.first (within_in (0xF5, 0xFF) a.first (omega arith) (omega arith)))
