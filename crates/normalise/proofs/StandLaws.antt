-- What a run leaves: the text after its steps, or too long exactly if some output is.
use mathlib.Core.Path.{◌≡◌, refl, sym, ap, subst}
use mathlib.Core.Bool.{Bool, true, false, ◌||◌}
use mathlib.Core.List.{List, [], ◌∷◌, ◌++◌}
use Prim.Native.Nat.{ℕ, ◌≤◌, ◌<◌}
use native.Mathlib.Omega.{arith}
use borrow.Author.Tests.{ltb-true, ltb-false}
use lib.Dec.{ltb}
use lib.ListN.{drop}
use lib.ListN as lists
use lib.Seq.{take-append_seam, length_front, length-take-le}
use Rattle.utf8.specs.Lists.{last_or}
use Rattle.utf8.proofs.Tests.{clash}
use Rattle.utf8.proofs.Places.{any_append}
use Rattle.model.specs.declared.Step.{Step}
use Rattle.model.specs.declared.Metaspace.{Metaspace}
use Rattle.std.specs.Prelude.{Option, Some, None}
use Rattle.normalise.specs.declared.Ran.{Ran}
use Rattle.normalise.specs.declared.Ran.TheVariants.{Given, InA, InB}
use Rattle.normalise.proofs.FitLaws.{put_over, put_done}
use Rattle.normalise.specs.inner.Fit.{Put, put}
use Rattle.normalise.specs.Steps.{applied, outputs_of}
use Rattle.normalise.specs.Spaces.{spaces_marked, scheme_prepends, mark_prepended, metaspace_output}
use Rattle.normalise.specs.Normalise.{outgrows}
use Rattle.normalise.specs.inner.Run.{Run, standing, in_a, in_b, passed, turn, steps_run, metaspace_run, is_too_long, normal_run}

-- The text cur stands in a run whose buffers have the room.
pub record Stands (text cur : List ℕ) (room : ℕ) (run : Run) : Type 0 where
  pub there : standing text run.ran run.a run.b ≡ cur
  pub fine : is_too_long run.ran ≡ false
  pub a-long : room ≤ lists.length run.a
  pub b-long : room ≤ lists.length run.b

module _ (o text : List ℕ) (room : ℕ) where
  front : (out : List ℕ) → lists.length o ≤ lists.length out → lists.length (o ++ drop (lists.length o) out) ≡ lists.length out
  front out h = length_front out o (lists.length o) (sym (length-take-le (lists.length o) out h))

  at_a : (a b : List ℕ) → lists.length o ≤ room → room ≤ lists.length a → room ≤ lists.length b → Stands text o room (record { ran = Some (InA (lists.length o)); a = o ++ drop (lists.length o) a; b = b })
  unfolding standing is_too_long
  at_a a b h k l = record { there = take-append_seam o (drop (lists.length o) a); fine = refl; a-long = omega (arith, front a (omega arith)); b-long = l }

  at_b : (a b : List ℕ) → lists.length o ≤ room → room ≤ lists.length a → room ≤ lists.length b → Stands text o room (record { ran = Some (InB (lists.length o)); a = a; b = o ++ drop (lists.length o) b })
  unfolding standing is_too_long
  at_b a b h k l = record { there = take-append_seam o (drop (lists.length o) b); fine = refl; a-long = k; b-long = omega (arith, front b (omega arith)) }

  into_a : (a b : List ℕ) → lists.length o ≤ room → room ≤ lists.length a → room ≤ lists.length b → Stands text o room (record { ran = in_a (put o room a).length; a = (put o room a).out; b = b })
  into_a a b h k l = subst (λ (p : Put). Stands text o room (record { ran = in_a p.length; a = p.out; b = b })) (put_done o room a refl (omega arith) refl) (at_a a b h k l)

  into_b : (a b : List ℕ) → lists.length o ≤ room → room ≤ lists.length a → room ≤ lists.length b → Stands text o room (record { ran = in_b (put o room b).length; a = a; b = (put o room b).out })
  into_b a b h k l = subst (λ (p : Put). Stands text o room (record { ran = in_b p.length; a = a; b = p.out })) (put_done o room b refl (omega arith) refl) (at_b a b h k l)

  passed_stands : (ran : Option Ran) (a b : List ℕ) → is_too_long ran ≡ false → lists.length o ≤ room → room ≤ lists.length a → room ≤ lists.length b → Stands text o room (passed o room ran a b)
  unfolding passed is_too_long
  passed_stands (Some Given) a b f h k l = into_a a b h k l
  passed_stands (Some (InA n)) a b f h k l = into_b a b h k l
  passed_stands (Some (InB n)) a b f h k l = into_a a b h k l
  passed_stands None a b f h k l = clash f refl

  passed_fails : (ran : Option Ran) (a b : List ℕ) → room < lists.length o → is_too_long (passed o room ran a b).ran ≡ true
  unfolding passed is_too_long
  passed_fails (Some Given) a b h = ap (λ (p : Put). is_too_long (in_a p.length)) (sym (put_over o room a (omega arith)))
  passed_fails (Some (InA n)) a b h = ap (λ (p : Put). is_too_long (in_b p.length)) (sym (put_over o room b (omega arith)))
  passed_fails (Some (InB n)) a b h = ap (λ (p : Put). is_too_long (in_a p.length)) (sym (put_over o room a (omega arith)))
  passed_fails None a b h = refl

  passed_stuck : (ran : Option Ran) (a b : List ℕ) → is_too_long ran ≡ true → is_too_long (passed o room ran a b).ran ≡ true
  unfolding passed is_too_long
  passed_stuck (Some Given) a b e = clash refl e
  passed_stuck (Some (InA n)) a b e = clash refl e
  passed_stuck (Some (InB n)) a b e = clash refl e
  passed_stuck None a b e = refl

-- ---- one turn

module _ (step : List ℕ → List ℕ) (text cur : List ℕ) (room : ℕ) (run : Run) where
  turn_stands : Stands text cur room run → lists.length (step cur) ≤ room → Stands text (step cur) room (turn step text room run)
  unfolding turn
  turn_stands s h =
      subst (λ (t : List ℕ). Stands text (step cur) room (passed (step t) room run.ran run.a run.b)) (sym s.there)
      (passed_stands (step cur) text room run.ran run.a run.b s.fine h s.a-long s.b-long)

  turn_fails : Stands text cur room run → room < lists.length (step cur) → is_too_long (turn step text room run).ran ≡ true
  unfolding turn
  turn_fails s h =
      subst (λ (t : List ℕ). is_too_long (passed (step t) room run.ran run.a run.b).ran ≡ true) (sym s.there)
      (passed_fails (step cur) text room run.ran run.a run.b h)

turn_stuck : (step : List ℕ → List ℕ) (text : List ℕ) (room : ℕ) (run : Run) → is_too_long run.ran ≡ true → is_too_long (turn step text room run).ran ≡ true
unfolding turn
turn_stuck step text room run e = passed_stuck (step (standing text run.ran run.a run.b)) text room run.ran run.a run.b e

-- ---- all steps

steps_stuck : (bytes : List ℕ) (steps : List Step) (text : List ℕ) (room : ℕ) (run : Run) → is_too_long run.ran ≡ true → is_too_long (steps_run bytes steps text room run).ran ≡ true
steps_stuck bytes [] text room run e = e
steps_stuck bytes (step ∷ steps) text room run e =
    steps_stuck bytes steps text room (turn (applied bytes step) text room run) (turn_stuck (applied bytes step) text room run e)

-- What a run is known to be once its outputs are: too long, or the text stands.
Ends : Bool → List ℕ → List ℕ → ℕ → Run → Type 0
Ends true text last room run = is_too_long run.ran ≡ true
Ends false text last room run = Stands text last room run

-- the outputs of the later steps decide, unless the first is too long itself
first_step : (b c : Bool) (text last : List ℕ) (room : ℕ) (run : Run) → (b ≡ true → is_too_long run.ran ≡ true) → (b ≡ false → Ends c text last room run) → Ends (b || c) text last room run
unfolding Ends
first_step true c text last room run f g = f refl
first_step false c text last room run f g = g refl

steps-end : (bytes : List ℕ) (steps : List Step) (text cur : List ℕ) (room : ℕ) (run : Run) → Stands text cur room run → Ends (outgrows (outputs_of bytes steps cur) room) text (last_or cur (outputs_of bytes steps cur)) room (steps_run bytes steps text room run)
unfolding outgrows Ends
steps-end bytes [] text cur room run s = s
steps-end bytes (step ∷ steps) text cur room run s =
    let next = applied bytes step cur in
    first_step (ltb room (lists.length next)) (outgrows (outputs_of bytes steps next) room) text (last_or next (outputs_of bytes steps next)) room (steps_run bytes steps text room (turn (applied bytes step) text room run))
    (λ t. steps_stuck bytes steps text room (turn (applied bytes step) text room run) (turn_fails (applied bytes step) text cur room run s (ltb-true room (lists.length next) t)))
    (λ t. steps-end bytes steps text next room (turn (applied bytes step) text room run) (turn_stands (applied bytes step) text cur room run s (ltb-false room (lists.length next) t)))

-- ---- metaspace, and the whole

metaspace_stuck : (metaspace : Option Metaspace) (first : Bool) (text : List ℕ) (room : ℕ) (run : Run) → is_too_long run.ran ≡ true → is_too_long (metaspace_run metaspace first text room run).ran ≡ true
unfolding metaspace_run
metaspace_stuck None first text room run e = e
metaspace_stuck (Some metaspace) first text room run e = turn_stuck (λ (bytes : List ℕ). mark_prepended (scheme_prepends metaspace.prepend first) (spaces_marked bytes)) text room run e

metaspace-end : (metaspace : Option Metaspace) (first : Bool) (text cur : List ℕ) (room : ℕ) (run : Run) → Stands text cur room run → Ends (outgrows (metaspace_output metaspace first cur) room) text (last_or cur (metaspace_output metaspace first cur)) room (metaspace_run metaspace first text room run)
unfolding metaspace_run metaspace_output outgrows Ends
metaspace-end None first text cur room run s = s
metaspace-end (Some metaspace) first text cur room run s =
    let step : List ℕ → List ℕ = λ bytes. mark_prepended (scheme_prepends metaspace.prepend first) (spaces_marked bytes) in
    first_step (ltb room (lists.length (step cur))) false text (step cur) room (turn step text room run)
    (λ t. turn_fails step text cur room run s (ltb-true room (lists.length (step cur)) t))
    (λ t. turn_stands step text cur room run s (ltb-false room (lists.length (step cur)) t))

-- the steps' outputs and then metaspace's
both : (b c : Bool) (metaspace : Option Metaspace) (first : Bool) (text cur last : List ℕ) (room : ℕ) (run : Run) → Ends b text cur room run → (Stands text cur room run → Ends c text last room (metaspace_run metaspace first text room run)) → Ends (b || c) text last room (metaspace_run metaspace first text room run)
unfolding Ends
both true c metaspace first text cur last room run e f = metaspace_stuck metaspace first text room run e
both false c metaspace first text cur last room run e f = f e

module _ (bytes : List ℕ) (steps : List Step) (metaspace : Option Metaspace) (first : Bool) (text : List ℕ) (room : ℕ) (a b : List ℕ) where
  abbrev cur : List ℕ
  cur = last_or text (outputs_of bytes steps text)

  abbrev outputs : List (List ℕ)
  outputs = outputs_of bytes steps text ++ metaspace_output metaspace first (last_or text (outputs_of bytes steps text))

  run_ends : room ≤ lists.length a → room ≤ lists.length b → Ends (outgrows outputs room) text (last_or cur (metaspace_output metaspace first cur)) room (normal_run bytes steps metaspace first text room a b)
  unfolding normal_run outgrows
  run_ends h k =
      let start : Run = record { ran = Some Given; a = a; b = b } in
      let here : Stands text text room start = unfold standing is_too_long in (record { there = refl; fine = refl; a-long = h; b-long = k }) in
      rw (any_append (λ (output : List ℕ). ltb room (lists.length output)) (outputs_of bytes steps text) (metaspace_output metaspace first cur))
      (both (outgrows (outputs_of bytes steps text) room) (outgrows (metaspace_output metaspace first cur) room) metaspace first text cur (last_or cur (metaspace_output metaspace first cur)) room (steps_run bytes steps text room start)
      (steps-end bytes steps text text room start here)
      (λ s. metaspace-end metaspace first text cur room (steps_run bytes steps text room start) s))

  -- An output is too long exactly if the run says so.
  pub run_too_long : room ≤ lists.length a → room ≤ lists.length b → outgrows outputs room ≡ true → is_too_long (normal_run bytes steps metaspace first text room a b).ran ≡ true
  unfolding Ends
  run_too_long h k e = subst (λ (t : Bool). Ends t text (last_or cur (metaspace_output metaspace first cur)) room (normal_run bytes steps metaspace first text room a b)) e (run_ends h k)

  -- Else the normalized text stands where it says.
  pub run_stands : room ≤ lists.length a → room ≤ lists.length b → outgrows outputs room ≡ false → Stands text (last_or cur (metaspace_output metaspace first cur)) room (normal_run bytes steps metaspace first text room a b)
  unfolding Ends
  run_stands h k e = subst (λ (t : Bool). Ends t text (last_or cur (metaspace_output metaspace first cur)) room (normal_run bytes steps metaspace first text room a b)) e (run_ends h k)
