use mathlib.Core.Path.{sym, ◌∙◌}
use mathlib.Core.Bool.{Bool}
use mathlib.Core.List.{List}
use Prim.Native.Nat.{ℕ}
use Rattle.units.specs.Kinds.{Crossing}
use Rattle.units.specs.Units.{begins_unit}
use Rattle.units.specs.inner.Read.{pair_noted, crossings_in}
use Rattle.units.proofs.StartLaws.{uncut_byte}
use Rattle.units.proofs.NextLaws.{search_start, search_found, search_next, search_ended, next_past}
use Rattle.units.proofs.Cutter.next_unit.Goals as goal
use Rattle.units.proofs.Cutter.next_unit.Goals.{Start, else-can_start-via-then-can_start+else-cuts, else-can_start-via-else-can_start}

module _ (k : Start) where
  abbrev crossings : List Crossing
  crossings = crossings_in k.args.self.now

  abbrev holds : ℕ → ℕ → Bool
  holds = pair_noted k.args.self.now.adjacency.now

  -- whether a unit starts at a place
  abbrev cutting : ℕ → Bool
  cutting = begins_unit k.args.self.now.kind crossings holds k.args.raw k.args.section.now

pub returns-then-section-from : goal.returns-then-section-from
returns-then-section-from c =
    let k = (goal.at.returns-then-section-from c).Start in
    sym (next_past (cutting k) k.args.section.now k.args.from c.if-section-from.true)

pub loop-p-init : goal.loop-p-init
loop-p-init c =
    let k = (goal.at.loop-p-init c).Start in
    search_start (cutting k) k.args.section.now k.args.from

pub returns-then-cuts : goal.returns-then-cuts
returns-then-cuts c =
    let l = c.loop-p in
    let k = (goal.at.returns-then-cuts c).Start in
    sym (l.invariant ∙ search_found (cutting k) k.args.section.now l.p c.loop-p-test.true (sym c.if-cuts.ensures))

pub loop-p-preserved : goal.loop-p-preserved
loop-p-preserved c =
    let l = c.loop-p in
    let k = (goal.at.loop-p-preserved c).Start in
    let st = k.args in
    elim c.else-can_start.branch [
      | else-can_start-via-then-can_start+else-cuts w ↦ l.invariant ∙ search_next (cutting k) st.section.now l.p c.loop-p-test.true (sym w.if-cuts.ensures)
      | else-can_start-via-else-can_start w ↦
          l.invariant
          ∙ search_next (cutting k) st.section.now l.p c.loop-p-test.true (uncut_byte st.self.now.kind (crossings k) (holds k) st.raw st.section.now l.p c.loop-p-test.true (sym w.if-can_start.ensures))
    ]

pub returns : goal.returns
returns c =
    let l = c.loop-p in
    let k = (goal.at.returns c).Start in
    sym (l.invariant ∙ search_ended (cutting k) k.args.section.now l.p c.loop-p-test.false)
