-- `decode::forms::lead_width` meets its contract: each arm of its `match` is a form of the table or several, by their first ranges. Assumes nothing.
use Prim.Native.Nat.{ℕ, ◌≤◌}
use native.Mathlib.Omega.{arith}
use mathlib.Core.Path.{◌≡◌, refl, sym, ap}
use mathlib.Core.Logic.{⊎_elim}
use mathlib.Core.List.{[]}
use borrow.Author.Tests.{ltb-true, ltb-false}
use lib.Dec.{ltb}
use lib.ListN.{length, get_or}
use Rattle.utf8.specs.Chars.{char_forms}
use Rattle.utf8.proofs.Tests.{either, within_in}
use Rattle.utf8.proofs.Forms.{first_of}
use Rattle.decode.specs.inner.Feeding.{form_of}
use Rattle.decode.proofs.FormLaws.{form_lead, form-apart}
use Rattle.decode.proofs.forms.lead_width.Goals as goal

width : (k b : ℕ) → (first_of (get_or char_forms k [])).0 ≤ b → b ≤ (first_of (get_or char_forms k [])).1 → length (get_or char_forms k []) ≡ length (form_of b)
width k b low high = sym (ap length (form_lead k b (within_in (first_of (get_or char_forms k [])) b low high)))

pub returns-in-0-to-127 : goal.returns-in-0-to-127
unfolding char_forms
returns-in-0-to-127 c = width 0 c.args.first (omega arith) (omega arith)

pub returns-in-194-to-223 : goal.returns-in-194-to-223
unfolding char_forms
returns-in-194-to-223 c = width 1 c.args.first (omega arith) (omega arith)

pub returns-in-224-to-239 : goal.returns-in-224-to-239
unfolding char_forms
returns-in-224-to-239 c =
    let b = c.args.first in
    ⊎_elim (λ l. let h = ltb-true b 0xE1 l in width 2 b (omega arith) (omega arith))
    (λ k. let g = ltb-false b 0xE1 k in
    ⊎_elim (λ l. let h = ltb-true b 0xED l in width 3 b (omega arith) (omega arith))
    (λ k. let g = ltb-false b 0xED k in
    ⊎_elim (λ l. let h = ltb-true b 0xEE l in width 4 b (omega arith) (omega arith)) (λ k. let g = ltb-false b 0xEE k in width 5 b (omega arith) (omega arith)) (either (ltb b 0xEE)))
    (either (ltb b 0xED)))
    (either (ltb b 0xE1))

pub returns-in-240-to-244 : goal.returns-in-240-to-244
unfolding char_forms
returns-in-240-to-244 c =
    let b = c.args.first in
    ⊎_elim (λ l. let h = ltb-true b 0xF1 l in width 6 b (omega arith) (omega arith))
    (λ k. let g = ltb-false b 0xF1 k in
    ⊎_elim (λ l. let h = ltb-true b 0xF4 l in width 7 b (omega arith) (omega arith)) (λ k. let g = ltb-false b 0xF4 k in width 8 b (omega arith) (omega arith)) (either (ltb b 0xF4)))
    (either (ltb b 0xF1))

pub returns-in_default : goal.returns-in_default
unfolding char_forms
returns-in_default c = sym (ap length (form-apart (0x80, 0xC1) refl c.args.first (within_in (0x80, 0xC1) c.args.first (omega arith) (omega arith))))

pub returns-in_default-2 : goal.returns-in_default-2
unfolding char_forms
returns-in_default-2 c = sym (ap length (form-apart (0xF5, 0xFF) refl c.args.first (within_in (0xF5, 0xFF) c.args.first (omega arith) (omega arith))))
