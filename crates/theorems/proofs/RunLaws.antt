-- Runs of turns: what they come to, that none goes on for ever, and that each can be carried on to its end. Assumes nothing.
use Rattle.std.specs.Prelude.{Option, None, Some}
use Rattle.std.proofs.lemmas.Option.{none-some}
use Prim.Native.Nat.{ℕ, zero, suc, ◌+◌, ◌<◌}
use native.Mathlib.Omega.{arith}
use native.Mathlib.Nat.{not-suc-le-zero}
use mathlib.Core.Path.{◌≡◌, refl, sym, ap, ◌∙◌, subst}
use mathlib.Core.Logic.{◌⊎◌, inl, inr}
use mathlib.Core.List.{List, [], ◌∷◌, ◌++◌, map, append_assoc}
use lib.ListN.{length}
use Rattle.utf8.specs.Lists.{sum}
use Rattle.model.specs.Model.{Model, row_of, merge_rows}
use Rattle.merge.specs.Merge.{Candidate, next_merge, merged_at, merged}
use Rattle.merge.proofs.NextLaws.{next_found, merged_shorter}
use Rattle.merge.proofs.MergedLaws.{by_merges, merged-none, merged_step, NoneLeft, none-left_stays, turn-same}
use Rattle.theorems.specs.UnitsKeepIds.{Turn, Run, stop, turn, Ended, RunsEnd}

module _ (m : Model) where
  turn_comes : {units after : List (List ℕ)} → Turn m units after → map (merged (row_of (merge_rows m))) units ≡ map (merged (row_of (merge_rows m))) after
  turn_comes t =
      ap (map (merged (row_of (merge_rows m)))) t.was
      ∙ turn-same (row_of (merge_rows m)) t.left t.unit t.right t.merge t.next
      ∙ ap (map (merged (row_of (merge_rows m)))) (sym t.is)

  -- A run changes nothing of what each unit comes to.
  pub run_comes : {units last : List (List ℕ)} → Run m units last → map (merged (row_of (merge_rows m))) units ≡ map (merged (row_of (merge_rows m))) last
  run_comes stop = refl
  run_comes (turn t r) = turn_comes t ∙ run_comes r

  none_left : (left units : List (List ℕ)) → Ended m (left ++ units) → NoneLeft (row_of (merge_rows m)) units
  none_left left [] e = tt
  none_left left (unit ∷ units) e = go (none_left (left ++ (unit ∷ [])) units (subst (Ended m) (sym (append_assoc left (unit ∷ []) units)) e)) (next_merge (row_of (merge_rows m)) unit) refl
    where
      go : NoneLeft (row_of (merge_rows m)) units → (o : Option Candidate) → next_merge (row_of (merge_rows m)) unit ≡ o → NoneLeft (row_of (merge_rows m)) (unit ∷ units)
      go others None q = (q, others)
      go others (Some c) q =
          absurd (e (left ++ merged_at c unit ∷ units) (record { left = left; unit = unit; right = units; merge = c; was = refl; next = q; is = refl }))

  -- A run that has ended has merged each unit.
  pub run-ended : (units last : List (List ℕ)) → Run m units last → Ended m last → last ≡ map (merged (row_of (merge_rows m))) units
  run-ended units last r e = sym (run_comes r ∙ none-left_stays (row_of (merge_rows m)) last (none_left [] last e))

  -- ---- every run ends

  size : List (List ℕ) → ℕ
  size units = sum (map length units)

  size-one : (left right : List (List ℕ)) (x y : List ℕ) → suc (length y) ≡ length x → size (left ++ x ∷ right) ≡ suc (size (left ++ y ∷ right))
  unfolding size
  size-one [] right x y e = omega arith
  size-one (l ∷ left) right x y e = omega (arith, size-one left right x y e)

  turn_shorter : {units after : List (List ℕ)} → Turn m units after → size units ≡ suc (size after)
  turn_shorter t =
      ap size t.was
      ∙ size-one t.left t.right t.unit (merged_at t.merge t.unit) (merged_shorter (row_of (merge_rows m)) (next_found (row_of (merge_rows m)) t.unit t.merge t.next))
      ∙ ap (λ (l : List (List ℕ)). suc (size l)) (sym t.is)

  so_far : (at : ℕ → List (List ℕ)) → ((n : ℕ) → Turn m (at n) (at (suc n))) → (n : ℕ) → size (at 0) ≡ n + size (at n)
  so_far at turns zero = omega arith
  so_far at turns (suc n) = omega (arith, so_far at turns n, turn_shorter (turns n))

  endless : (at : ℕ → List (List ℕ)) → ((n : ℕ) → Turn m (at n) (at (suc n))) → ⊥
  endless at turns = omega (arith, so_far at turns (suc (size (at 0))))

  more : (unit : List ℕ) {units after : List (List ℕ)} → Turn m units after → Turn m (unit ∷ units) (unit ∷ after)
  more unit t =
      record {
        left = unit ∷ t.left;
        unit = t.unit;
        right = t.right;
        merge = t.merge;
        was = ap {B = List (List ℕ)} (λ l. unit ∷ l) t.was;
        next = t.next;
        is = ap {B = List (List ℕ)} (λ l. unit ∷ l) t.is;
      }

  some_turn : (units : List (List ℕ)) → ((after : List (List ℕ)) × Turn m units after) ⊎ NoneLeft (row_of (merge_rows m)) units
  some_turn [] = inr tt
  some_turn (unit ∷ units) = go (some_turn units) (next_merge (row_of (merge_rows m)) unit) refl
    where
      go : ((after : List (List ℕ)) × Turn m units after) ⊎ NoneLeft (row_of (merge_rows m)) units → (o : Option Candidate) → next_merge (row_of (merge_rows m)) unit ≡ o
          → ((after : List (List ℕ)) × Turn m (unit ∷ units) after) ⊎ NoneLeft (row_of (merge_rows m)) (unit ∷ units)
      go others (Some c) q = inl (merged_at c unit ∷ units, record { left = []; unit = unit; right = units; merge = c; was = refl; next = q; is = refl })
      go (inl t) None q = inl (unit ∷ t.0, more unit t.1)
      go (inr others) None q = inr (q, others)

  left_ended : (left right : List (List ℕ)) (unit : List ℕ) (c : Candidate) → NoneLeft (row_of (merge_rows m)) (left ++ unit ∷ right) → next_merge (row_of (merge_rows m)) unit ≡ Some c → ⊥
  left_ended [] right unit c e q = none-some c (sym e.0 ∙ q)
  left_ended (l ∷ left) right unit c e q = left_ended left right unit c e.1 q

  ended : (units : List (List ℕ)) → NoneLeft (row_of (merge_rows m)) units → Ended m units
  ended units e after t = left_ended t.left t.right t.unit t.merge (subst (NoneLeft (row_of (merge_rows m))) t.was e) t.next

  carried : (n : ℕ) (units : List (List ℕ)) → size units < n → (last : List (List ℕ)) × Run m units last × Ended m last
  carried zero units h = absurd (not-suc-le-zero h)
  carried (suc n) units h = go (λ after l. carried n after l) (some_turn units)
    where
      go : ((after : List (List ℕ)) → size after < n → (last : List (List ℕ)) × Run m after last × Ended m last) → ((after : List (List ℕ)) × Turn m units after) ⊎ NoneLeft (row_of (merge_rows m)) units
          → (last : List (List ℕ)) × Run m units last × Ended m last
      go on (inr e) = (units, stop, ended units e)
      go on (inl t) =
          let r = on t.0 (omega (arith, turn_shorter t.1)) in
          (r.0, turn t.1 r.1, r.2)

  -- Merging one unit whole is a run.
  unit-run : (left right : List (List ℕ)) (unit : List ℕ) → Run m (left ++ unit ∷ right) (left ++ merged (row_of (merge_rows m)) unit ∷ right)
  unit-run left right =
      by_merges (row_of (merge_rows m)) (λ (unit : List ℕ). Run m (left ++ unit ∷ right) (left ++ merged (row_of (merge_rows m)) unit ∷ right))
      (λ unit e. subst (λ (l : List ℕ). Run m (left ++ unit ∷ right) (left ++ l ∷ right)) (sym (merged-none (row_of (merge_rows m)) unit e)) stop)
      (λ unit c e r. subst (λ (l : List ℕ). Run m (left ++ unit ∷ right) (left ++ l ∷ right)) (sym (merged_step (row_of (merge_rows m)) unit c e))
      (turn {after = left ++ merged_at c unit ∷ right} (record { left = left; unit = unit; right = right; merge = c; was = refl; next = e; is = refl }) r))

pub runs_end : RunsEnd
runs_end m = (endless m, (λ units. carried m (suc (size m units)) units (omega arith)), unit-run m)
