-- Laws of a section off the raw path: what the steps leave of it, by where the text stands after them. Assumes nothing.
use Rattle.std.specs.Prelude.{Option, Some, None}
use Prim.Native.Nat.{ℕ, ◌≤◌}
use mathlib.Core.Path.{◌≡◌, sym, ap, ◌∙◌}
use mathlib.Core.Bool.{Bool, true, false, ◌||◌}
use mathlib.Core.Logic.{⊎_elim}
use mathlib.Core.List.{List, ◌++◌, append-nil}
use lib.Dec.{ltb}
use lib.ListN.{length}
use lib.Seq.{slice}
use Rattle.utf8.specs.Lists.{join_map, last_or}
use Rattle.utf8.proofs.Tests.{clash, either, or_right}
use Rattle.utf8.proofs.Places.{any_append}
use Rattle.model.specs.declared.Step.{Step}
use Rattle.normalise.specs.Steps.{outputs_of}
use Rattle.normalise.specs.Spaces.{metaspace_output}
use Rattle.normalise.specs.Normalise.{outgrows}
use Rattle.normalise.specs.declared.Ran.{Ran}
use Rattle.normalise.specs.declared.Ran.TheVariants.{Given, InA, InB}
use Rattle.normalise.specs.inner.Run.{Run, standing, steps_run, metaspace_run, normal_run, is_too_long}
use Rattle.normalise.proofs.StandLaws.{run_too_long, run_stands}
use Rattle.merge.specs.inner.Turns.{Merged}
use Rattle.merge.specs.declared.Symbols.{Symbols}
use Rattle.sections.specs.Sections.{Item, taken_apart, Section, bytes_of}
use Rattle.stretches.specs.Stretches.{Stretch}
use Rattle.sections.specs.SecondList.{normal_parts}
use Rattle.stretches.specs.inner.Tables.{Tables}
use Rattle.stretches.specs.inner.Parts.{parts_symbols, parts_writer}
use Rattle.encode.specs.inner.Passes.{counted, Stepped, item_outputs, part_stretch, part_outputs, Normal, parts_in, stretches_in, outputs_in, section_stretches, section_outputs}

module _ (bytes : List ℕ) (steps : List Step) (section : List ℕ) (room : ℕ) (a b : List ℕ) (a-long : room ≤ length a) (b-long : room ≤ length b) {ran : Option Ran} {a' b' : List ℕ}
    (is : ◌≡◌ {A = Run} (record { ran = ran; a = a'; b = b' }) (steps_run bytes steps section room (record { ran = Some Given; a = a; b = b }))) where
  abbrev outputs : List (List ℕ)
  outputs = outputs_of bytes steps section

  -- The run of steps alone is a run without metaspace.
  alone : normal_run bytes steps None false section room a b ≡ record { ran = ran; a = a'; b = b' }
  unfolding normal_run metaspace_run
  alone = sym is

  all : outgrows (outputs ++ metaspace_output None false (last_or section outputs)) room ≡ outgrows outputs room
  unfolding metaspace_output
  all = ap (λ (l : List (List ℕ)). outgrows l room) (append-nil outputs)

  fine : is_too_long ran ≡ false → outgrows outputs room ≡ false
  fine e =
      ⊎_elim
      (λ t. clash e (ap (λ (r : Run). is_too_long r.ran) (sym alone) ∙ run_too_long bytes steps None false section room a b a-long b-long (all ∙ t)))
      (λ t. t)
      (either (outgrows outputs room))

  stands : is_too_long ran ≡ false → standing section ran a' b' ≡ last_or section outputs
  unfolding metaspace_output
  stands e =
      ap (λ (r : Run). standing section r.ran r.a r.b) (sym alone) ∙ (run_stands bytes steps None false section room a b a-long b-long (all ∙ fine e)).there

  pub steps-long : ran ≡ None → outgrows outputs room ≡ true
  unfolding is_too_long
  steps-long e =
      ⊎_elim (λ t. t)
      (λ t. clash (ap (λ (r : Run). is_too_long r.ran) (sym alone) ∙ (run_stands bytes steps None false section room a b a-long b-long (all ∙ t)).fine) (ap is_too_long e))
      (either (outgrows outputs room))

  pub stepped-given : ran ≡ Some Given → Stepped bytes steps section room section
  unfolding is_too_long standing
  stepped-given e = let f : is_too_long ran ≡ false = ap is_too_long e in record { short = fine f; is = sym (ap (λ (r : Option Ran). standing section r a' b') e) ∙ stands f }

  pub stepped-a : {k : ℕ} {cur : List ℕ} → ran ≡ Some (InA k) → cur ≡ slice 0 k a' → Stepped bytes steps section room cur
  unfolding is_too_long standing
  stepped-a e c = let f : is_too_long ran ≡ false = ap is_too_long e in record { short = fine f; is = c ∙ sym (ap (λ (r : Option Ran). standing section r a' b') e) ∙ stands f }

  pub stepped-b : {k : ℕ} {cur : List ℕ} → ran ≡ Some (InB k) → cur ≡ slice 0 k b' → Stepped bytes steps section room cur
  unfolding is_too_long standing
  stepped-b e c = let f : is_too_long ran ≡ false = ap is_too_long e in record { short = fine f; is = c ∙ sym (ap (λ (r : Option Ran). standing section r a' b') e) ∙ stands f }

-- ---- the two passes on a section

module _ (n : Normal) (opening : Bool) (section : List ℕ) (room : ℕ) where
  abbrev steps : List (List ℕ)
  steps = outputs_of n.step_bytes n.steps section

  long_in : outgrows (outputs_in n opening section) room ≡ (outgrows steps room || outgrows (join_map (item_outputs (part_outputs n.metaspace)) (parts_in n opening section)) room)
  unfolding outputs_in outgrows
  long_in = any_append (λ (output : List ℕ). ltb room (length output)) steps (join_map (item_outputs (part_outputs n.metaspace)) (parts_in n opening section))

  module _ (long : outgrows steps room ≡ true) where
    all-long : outgrows (outputs_in n opening section) room ≡ true
    all-long = long_in ∙ rw long

    pub section_uncounted : (own : List ℕ → Option ℕ) (fallback : List ℕ) (cells : ℕ) → None ≡ counted (outgrows (outputs_in n opening section) room) (parts_symbols own fallback (stretches_in n opening section) cells)
    section_uncounted own fallback cells = rw all-long

    pub section_never : {A : Type 0} → outgrows (outputs_in n opening section) room ≡ false → A
    section_never e = clash e all-long

  module _ {cur : List ℕ} (s : Stepped n.step_bytes n.steps section room cur) where
    pub section_found : (own : List ℕ → Option ℕ) (fallback : List ℕ) (cells : ℕ) {r : Option Symbols}
        → r ≡ counted (outgrows (join_map (item_outputs (part_outputs n.metaspace)) (normal_parts n.second opening cur)) room) (parts_symbols own fallback (taken_apart (part_stretch n.metaspace) (normal_parts n.second opening cur)) cells)
        → r ≡ counted (outgrows (outputs_in n opening section) room) (parts_symbols own fallback (stretches_in n opening section) cells)
    unfolding stretches_in parts_in
    section_found own fallback cells e = e ∙ rw (long_in, s.short, ← s.is)

    pub section_put : (t : Tables) (out : List ℕ) {done : Merged} → done ≡ parts_writer t (taken_apart (part_stretch n.metaspace) (normal_parts n.second opening cur)) out → done ≡ parts_writer t (stretches_in n opening section) out
    unfolding stretches_in parts_in
    section_put t out e = e ∙ rw (← s.is)

    pub parts_short : outgrows (outputs_in n opening section) room ≡ false → outgrows (join_map (item_outputs (part_outputs n.metaspace)) (normal_parts n.second opening cur)) room ≡ false
    unfolding parts_in
    parts_short e = rw s.is (or_right (outgrows steps room) (outgrows (join_map (item_outputs (part_outputs n.metaspace)) (parts_in n opening section)) room) (sym long_in ∙ e))

-- ---- a section of a text

module _ (outputs : Bool → List ℕ → List (List ℕ)) (stretches : Bool → List ℕ → List (Item Stretch)) (text : List ℕ) (start stop : ℕ) (opening : Bool) (room : ℕ) where
  abbrev pub section_at : Section
  section_at = record { start = start; stop = stop; opening = opening }

  module _ {bytes : List ℕ} {near : ℕ} (is : bytes ≡ slice start stop text) (same : near ≡ room) where
    pub text_found : (own : List ℕ → Option ℕ) (fallback : List ℕ) (cells : ℕ) {r : Option Symbols}
        → r ≡ counted (outgrows (outputs opening bytes) near) (parts_symbols own fallback (stretches opening bytes) cells)
        → r ≡ counted (outgrows (section_outputs outputs text section_at) room) (parts_symbols own fallback (section_stretches stretches text section_at) cells)
    unfolding bytes_of
    text_found own fallback cells e = e ∙ rw (is, same)

    pub text_short : outgrows (section_outputs outputs text section_at) room ≡ false → outgrows (outputs opening bytes) near ≡ false
    unfolding bytes_of
    text_short e = rw (is, same) e

  pub text_put : (t : Tables) (out : List ℕ) {bytes : List ℕ} {done : Merged} → bytes ≡ slice start stop text → done ≡ parts_writer t (stretches opening bytes) out → done ≡ parts_writer t (section_stretches stretches text section_at) out
  unfolding bytes_of
  text_put t out is e = e ∙ rw is
