-- `decode::Held::is_broken` meets its contract: by how many bytes are held. Assumes nothing.
use mathlib.Core.Path.{sym, ap, ◌∙◌}
use mathlib.Core.Bool.{not}
use mathlib.Core.List.{[], ◌∷◌}
use Rattle.decode.specs.inner.Feeding.{is_broken, bytes_of}
use Rattle.decode.specs.declared.Held.{Held}
use Rattle.decode.proofs.FormLaws.{broken_none, broken_second, broken_later}
use Rattle.decode.proofs.Held.is_broken.Goals as goal

pub returns-in-Nothing : goal.returns-in-Nothing
returns-in-Nothing c = rw c.in-Nothing.is (sym (broken_none c.args.b))

pub returns-in-One : goal.returns-in-One
returns-in-One c =
    let first = c.in-One.first in
    ap not c.second_fits.ensures
    ∙ sym (ap (λ (h : Held). is_broken (bytes_of h) c.args.b) c.in-One.is ∙ broken_second first c.args.b (rw c.in-One.is at c.requires))

pub returns-in-Two : goal.returns-in-Two
returns-in-Two c =
    let two = c.in-Two in
    ap not c.is_within.ensures
    ∙ sym (ap (λ (h : Held). is_broken (bytes_of h) c.args.b) two.is ∙ broken_later two.field-0 two.field-1 c.args.b [] (rw two.is at c.requires))

pub returns-in-Three : goal.returns-in-Three
returns-in-Three c =
    let three = c.in-Three in
    ap not c.is_within-in-Three.ensures
    ∙ sym (ap (λ (h : Held). is_broken (bytes_of h) c.args.b) three.is ∙ broken_later three.field-0 three.field-1 c.args.b (three.field-2 ∷ []) (rw three.is at c.requires))
