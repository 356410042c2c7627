-- Laws of the run between two buffers.
use mathlib.Core.Path.{◌≡◌, refl, sym, ap, ◌∙◌}
use mathlib.Core.List.{List, [], ◌∷◌}
use Prim.Native.Nat.{ℕ, suc, ◌<◌}
use lib.ListN.{get_or, take, drop, length-take, drop_of_length-le}
use lib.ListN as lists
use lib.Seq.{drop-cons}
use Rattle.std.specs.Prelude.{Option, Some, None}
use mathlib.Core.Bool.{Bool}
use Rattle.model.specs.declared.Step.{Step}
use Rattle.model.specs.declared.Metaspace.{Metaspace}
use Rattle.normalise.specs.Spaces.{spaces_marked, scheme_prepends, mark_prepended}
use Rattle.normalise.specs.declared.Ran.TheVariants.{Given, InA, InB}
use Rattle.normalise.specs.inner.Fit.{Put, put}
use Rattle.normalise.specs.inner.Run.{Run, standing, in_a, in_b, passed, turn, steps_run, metaspace_run}
use Rattle.normalise.specs.Steps.{applied}

-- One turn, from what a call put into the buffer where the text does not stand.
module _ (step : List ℕ → List ℕ) (text : List ℕ) (room : ℕ) (a b : List ℕ) {length : Option ℕ} {out : List ℕ} where
  pub turn-given : ◌≡◌ {A = Put} (record { length = length; out = out }) (put (step text) room a) → ◌≡◌ {A = Run} (record { ran = in_a length; a = out; b = b }) (turn step text room (record { ran = Some Given; a = a; b = b }))
  unfolding turn standing passed
  turn-given p = ap (λ (q : Put). (let run : Run = record { ran = in_a q.length; a = q.out; b = b } in run)) p

  pub turn_in_a : (n : ℕ) {cur : List ℕ} → cur ≡ take n a → ◌≡◌ {A = Put} (record { length = length; out = out }) (put (step cur) room b) → ◌≡◌ {A = Run} (record { ran = in_b length; a = a; b = out }) (turn step text room (record { ran = Some (InA n); a = a; b = b }))
  unfolding turn standing passed
  turn_in_a n e p = rw (← e) (ap (λ (q : Put). (let run : Run = record { ran = in_b q.length; a = a; b = q.out } in run)) p)

  pub turn_in_b : (n : ℕ) {cur : List ℕ} → cur ≡ take n b → ◌≡◌ {A = Put} (record { length = length; out = out }) (put (step cur) room a) → ◌≡◌ {A = Run} (record { ran = in_a length; a = out; b = b }) (turn step text room (record { ran = Some (InB n); a = a; b = b }))
  unfolding turn standing passed
  turn_in_b n e p = rw (← e) (ap (λ (q : Put). (let run : Run = record { ran = in_a q.length; a = q.out; b = b } in run)) p)

-- Once an output was too long, nothing more is done.
pub turn_too_long : (step : List ℕ → List ℕ) (text : List ℕ) (room : ℕ) (a b : List ℕ) → turn step text room (record { ran = None; a = a; b = b }) ≡ record { ran = None; a = a; b = b }
unfolding turn passed
turn_too_long step text room a b = refl

pub steps_too_long : (bytes : List ℕ) (steps : List Step) (text : List ℕ) (room : ℕ) (a b : List ℕ) → steps_run bytes steps text room (record { ran = None; a = a; b = b }) ≡ record { ran = None; a = a; b = b }
steps_too_long bytes [] text room a b = refl
steps_too_long bytes (step ∷ steps) text room a b =
    ap (steps_run bytes steps text room) (turn_too_long (applied bytes step) text room a b) ∙ steps_too_long bytes steps text room a b

pub metaspace_too_long : (metaspace : Option Metaspace) (first : Bool) (text : List ℕ) (room : ℕ) (a b : List ℕ) → metaspace_run metaspace first text room (record { ran = None; a = a; b = b }) ≡ record { ran = None; a = a; b = b }
unfolding metaspace_run
metaspace_too_long None first text room a b = refl
metaspace_too_long (Some metaspace) first text room a b = turn_too_long (λ (bytes : List ℕ). mark_prepended (scheme_prepends metaspace.prepend first) (spaces_marked bytes)) text room a b

-- A step whose output is too long ends the run.
pub steps_stop : (bytes : List ℕ) (steps : List Step) (i : ℕ) (d : Step) (text : List ℕ) (room : ℕ) (a b : List ℕ) (run : Run) {whole : Run} → i < lists.length steps
    → whole ≡ steps_run bytes (drop i steps) text room run
    → ◌≡◌ {A = Run} (record { ran = None; a = a; b = b }) (turn (applied bytes (get_or steps i d)) text room run)
    → ◌≡◌ {A = Run} (record { ran = None; a = a; b = b }) whole
steps_stop bytes steps i d text room a b run h e f =
    sym
    (e ∙ ap (λ (l : List Step). steps_run bytes l text room run) (drop-cons steps i d h)
    ∙ ap (steps_run bytes (drop (suc i) steps) text room) (sym f)
    ∙ steps_too_long bytes (drop (suc i) steps) text room a b)
