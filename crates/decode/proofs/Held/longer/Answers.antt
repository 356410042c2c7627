-- `decode::Held::longer` meets its contract: by how many bytes are held. Assumes nothing.
use Prim.Native.Nat.{ℕ, ◌<◌}
use native.Mathlib.Omega.{arith}
use mathlib.Core.Path.{◌≡◌, sym, ap, ◌∙◌}
use mathlib.Core.Bool.{Bool, false}
use mathlib.Core.Logic.{⊎_elim}
use mathlib.Core.List.{List, [], ◌∷◌, ◌++◌}
use lib.Dec.{ltb}
use lib.ListN.{length}
use Rattle.std.specs.Bool.{then_some}
use Rattle.utf8.proofs.Tests.{either}
use Rattle.decode.specs.inner.Feeding.{is_open, bytes_of, held_of, longer}
use Rattle.decode.specs.declared.Held.{Held}
use Rattle.decode.proofs.FormLaws.{open_short, open_first, open_later}
use Rattle.decode.proofs.Held.longer.Goals as goal

-- by a test that says whether they can
by_test : (held : List ℕ) (b : ℕ) (d : Bool) → is_open (held ++ (b ∷ [])) ≡ d → then_some d (held_of (held ++ (b ∷ []))) ≡ longer held b
unfolding longer
by_test held b d e = rw e

too_long : (bytes : List ℕ) → 3 < length bytes → is_open bytes ≡ false
too_long bytes h = ⊎_elim (λ e. absurd (omega (arith, open_short bytes e))) (λ e. e) (either (is_open bytes))

pub returns-in-Nothing : goal.returns-in-Nothing
returns-in-Nothing c =
    c.then_some.ensures ∙ by_test [] c.args.b _ (open_first c.args.b ∙ ap (ltb 1) (sym c.lead_width.ensures)) ∙ sym (ap (λ (h : Held). longer (bytes_of h) c.args.b) c.in-Nothing.is)

pub returns-in-One : goal.returns-in-One
returns-in-One c =
    let first = c.in-One.first in
    c.then_some-in-One.ensures
    ∙ by_test (first ∷ []) c.args.b _ (open_later first c.args.b [] (rw c.in-One.is at c.requires.unfinished) (rw c.in-One.is at c.requires.unbroken) ∙ ap (ltb 2) (sym c.lead_width-in-One.ensures))
    ∙ sym (ap (λ (h : Held). longer (bytes_of h) c.args.b) c.in-One.is)

pub returns-in-Two : goal.returns-in-Two
returns-in-Two c =
    let first = c.in-Two.first in
    let second = c.in-Two.second in
    c.then_some-in-Two.ensures
    ∙ by_test (first ∷ second ∷ []) c.args.b _ (open_later first c.args.b (second ∷ []) (rw c.in-Two.is at c.requires.unfinished) (rw c.in-Two.is at c.requires.unbroken) ∙ ap (ltb 3) (sym c.lead_width-in-Two.ensures))
    ∙ sym (ap (λ (h : Held). longer (bytes_of h) c.args.b) c.in-Two.is)

pub returns-in-Three : goal.returns-in-Three
returns-in-Three c =
    let three = c.in-Three in
    let held = three.field-0 ∷ three.field-1 ∷ three.field-2 ∷ [] in
    by_test held c.args.b _ (too_long (held ++ (c.args.b ∷ [])) (omega arith)) ∙ sym (ap (λ (h : Held). longer (bytes_of h) c.args.b) three.is)
