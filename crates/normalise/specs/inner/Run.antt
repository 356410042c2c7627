-- The run of steps and metaspace, back and forth between two buffers: each output goes where the text does not stand.
use Rattle.std.specs.Prelude.{ℕ, Bool, true, false, cond, Option, Some, None, List, [], ◌∷◌, ltb, take}
use Rattle.std.proofs.Math.ListN as lists
use Rattle.model.specs.Answers.{Outcome, ScratchOutcome, outcome, done, refused, zeros}
use Rattle.model.specs.declared.Step.{Step}
use Rattle.model.specs.declared.Metaspace.{Metaspace}
use Rattle.normalise.specs.declared.Ran.{Ran}
use Rattle.normalise.specs.declared.Ran.TheVariants.{Given, InA, InB}
use Rattle.normalise.specs.inner.Fit.{put}
use Rattle.normalise.specs.Steps.{applied}
use Rattle.normalise.specs.Spaces.{spaces_marked, scheme_prepends, mark_prepended}

-- Where the text stands, none once an output was too long, and the two buffers.
pub record Run : Type 0 where
  pub ran : Option Ran
  pub a : List ℕ
  pub b : List ℕ

-- The text that stands there; text is the one that was given.
unfoldable pub standing : List ℕ → Option Ran → List ℕ → List ℕ → List ℕ
standing text (Some Given) a b = text
standing text (Some (InA n)) a b = take n a
standing text (Some (InB n)) a b = take n b
standing text None a b = []

abbrev pub in_a : Option ℕ → Option Ran
in_a (Some n) = Some (InA n)
in_a None = None

abbrev pub in_b : Option ℕ → Option Ran
in_b (Some n) = Some (InB n)
in_b None = None

-- An output put into the buffer in which the text does not stand; nothing more once one was too long.
unfoldable pub passed : List ℕ → ℕ → Option Ran → List ℕ → List ℕ → Run
passed output room (Some Given) a b = let p = put output room a in record { ran = in_a p.length; a = p.out; b = b }
passed output room (Some (InA n)) a b = let p = put output room b in record { ran = in_b p.length; a = a; b = p.out }
passed output room (Some (InB n)) a b = let p = put output room a in record { ran = in_a p.length; a = p.out; b = b }
passed output room None a b = record { ran = None; a = a; b = b }

-- The text that stands there goes through a step or metaspace.
unfoldable pub turn : (List ℕ → List ℕ) → List ℕ → ℕ → Run → Run
turn step text room run = passed (step (standing text run.ran run.a run.b)) room run.ran run.a run.b

abbrev pub steps_run : List ℕ → List Step → List ℕ → ℕ → Run → Run
steps_run bytes [] text room run = run
steps_run bytes (step ∷ steps) text room run = steps_run bytes steps text room (turn (applied bytes step) text room run)

-- Metaspace, where it is present.
unfoldable pub metaspace_run : Option Metaspace → Bool → List ℕ → ℕ → Run → Run
metaspace_run None first text room run = run
metaspace_run (Some metaspace) first text room run =
    turn (λ (bytes : List ℕ). mark_prepended (scheme_prepends metaspace.prepend first) (spaces_marked bytes)) text room run

unfoldable pub is_too_long : Option Ran → Bool
is_too_long (Some ran) = false
is_too_long None = true

-- 12 where the result does not fit, and else the result in the buffer.
unfoldable pub finished : List ℕ → List ℕ → Outcome
finished result out = outcome (cond (ltb (lists.length out) (lists.length result)) 12 0) 0 (done (lists.length result) 0 0) result out

-- 11, where an output was too long, before 12.
unfoldable pub ended : Option Ran → List ℕ → List ℕ → Outcome
ended ran result out = cond (is_too_long ran) (record { answer = refused 11 0; out = out }) (finished result out)

-- Steps and metaspace on a text, into two buffers.
unfoldable pub normal_run : List ℕ → List Step → Option Metaspace → Bool → List ℕ → ℕ → List ℕ → List ℕ → Run
normal_run bytes steps metaspace first text room a b =
    metaspace_run metaspace first text room (steps_run bytes steps text room (record { ran = Some Given; a = a; b = b }))

-- What is left of a run: the result, where it came to one, and scratch cleared.
unfoldable pub settled_run : Run → List ℕ → List ℕ → List ℕ → List ℕ → ScratchOutcome
settled_run run text out a b =
    let o = ended run.ran (standing text run.ran run.a run.b) out in
    record { answer = o.answer; out = o.out; scratch_a = zeros (lists.length a); scratch_b = zeros (lists.length b) }
