use mathlib.Core.Path.{◌≡◌, sym, ap, ◌∙◌}
use mathlib.Core.List.{List, []}
use Prim.Native.Nat.{ℕ, ◌<◌}
use native.Mathlib.Omega.{arith}
use Rattle.model.specs.Model.{strings_of}
use Rattle.model.proofs.StringLaws.{length-strings}
use Rattle.units.proofs.NotingLaws.{notes_start, notes_nowhere, notes_place, notes_tangled, notes_full, notes_ended}
use Rattle.units.specs.inner.Crossed.{crossed}
use lib.ListN.{length, get_or}
use Rattle.units.proofs.crossings.unit_crossing_pieces.Goals as goal
use Rattle.units.proofs.crossings.unit_crossing_pieces.Goals.{After-crossing_of, in-Nowhere, in-At}

module _ (k : After-crossing_of) where
  abbrev pieces : List (List ℕ)
  pieces = strings_of k.args.pieces.now

  inside : k.loop-id.id < length pieces
  inside = omega (arith, length-strings k.args.pieces.now.bytes.now k.args.pieces.now.offsets.now)

  -- what was found of the piece at id
  found : k.crossing_of.result ≡ crossed (get_or pieces k.loop-id.id [])
  found = k.crossing_of.ensures ∙ ap crossed k.get.ensures

pub loop-id-init : goal.loop-id-init
loop-id-init c = notes_start (strings_of c.args.pieces.now) c.clear.new.noted c.clear.ensures

pub loop-id-preserved : goal.loop-id-preserved
loop-id-preserved c =
    let k = (goal.at.loop-id-preserved c).After-crossing_of in
    let l = k.loop-id in
    elim c.match-crossing_of.branch [
      | in-Nowhere w ↦ rw (w.n-is, w.noted-is) (notes_nowhere (pieces k) l.id l.n l.noted l.invariant (inside k) (sym (found k) ∙ w.in-Nowhere.is))
      | in-At w ↦
          rw (w.n-is, w.noted-is, w.note_place.ensures)
          (notes_place (pieces k) l.id l.n l.noted l.invariant (inside k) w.in-At.place (sym (found k) ∙ w.in-At.is) (λ full. omega (arith, w.if-n-lt32.true)))
    ]

pub returns-in-At-2 : goal.returns-in-At-2
returns-in-At-2 c =
    let k = (goal.at.returns-in-At-2 c).After-crossing_of in
    let l = k.loop-id in
    let r = c.no_split in
    rw r.ensures.kind (notes_full (pieces k) l.id l.n l.noted l.invariant (inside k) r.new.noted r.ensures.unnoted c.in-At-2.field-0 (omega (arith, l.invariant.few)) (sym (found k) ∙ c.in-At-2.is))

pub returns-in-Tangled : goal.returns-in-Tangled
returns-in-Tangled c =
    let k = (goal.at.returns-in-Tangled c).After-crossing_of in
    let l = k.loop-id in
    let r = c.no_split-in-Tangled in
    rw r.ensures.kind (notes_tangled (pieces k) l.id l.n l.noted l.invariant (inside k) r.new.noted r.ensures.unnoted (sym (found k) ∙ c.in-Tangled.is))

pub returns : goal.returns
returns c =
    let l = c.loop-id in
    let pieces = strings_of c.args.pieces.now in
    notes_ended pieces l.id l.n l.noted l.invariant (omega (arith, length-strings c.args.pieces.now.bytes.now c.args.pieces.now.offsets.now))
