-- `encode::passes::encode_sections` meets its contract: what the first pass found decides.
use native.Mathlib.Omega.{arith}
use Prim.Native.Nat.{min}
use mathlib.Core.Path.{◌≡◌, refl, ap, ◌∙◌}
use lib.ListN.{length}
use Rattle.normalise.specs.Normalise.{outgrows}
use Rattle.encode.specs.inner.Passes.{text_outputs}
use Rattle.encode.proofs.CheckedLaws.{first_list}
use Rattle.encode.proofs.OutcomeLaws.{text_long, text_fine, text_short, text_written, cleared_long}
use Rattle.encode.proofs.passes.encode_sections.Goals as goal

pub returns-in_default : goal.returns-in_default
returns-in_default g c = text_long _ _ _ _ _ _ _ c.in_default.ensures refl refl

pub returns-then-out-counted : goal.returns-then-out-counted
returns-then-out-counted g c = text_short _ _ _ _ _ _ _ c.in-Some.ensures refl refl c.if-out-counted.true

pub write_sections-written-requires : goal.write_sections-written-requires
write_sections-written-requires g c =
    let same : min (length c.count_sections.new.a) (length c.count_sections.new.b) ≡ min (length c.args.a.now) (length c.args.b.now) = omega arith in
    ap (outgrows (text_outputs (g.P.Path.outputs c.args.path.now) (first_list c.args.model.now) c.args.text.now)) same
    ∙ text_fine (g.P.Path.tables c.args.path.now) (g.P.Path.outputs c.args.path.now) (g.P.Path.stretches c.args.path.now) (first_list c.args.model.now) c.args.text.now (min (length c.args.a.now) (length c.args.b.now)) c.args.out.now c.in-Some.ensures refl

pub shape_of-out : goal.shape_of-out
shape_of-out g c = cleared_long _ _ _ c.write_sections-written.ensures c.clear.ensures

pub returns : goal.returns
returns g c = text_written _ _ _ _ _ _ _ c.in-Some.ensures refl c.write_sections-written.ensures c.clear.ensures refl c.if-out-counted.false
