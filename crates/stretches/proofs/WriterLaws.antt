-- Laws of writing in turn: from writer to writer, and what stands at the front where there is room for all starting ids. Assumes nothing.
use Rattle.std.specs.Prelude.{Option, None, Some}
use Prim.Native.Nat.{ℕ, ◌+◌, ◌-◌, ◌≤◌, min}
use native.Mathlib.Nat.{add-zero, zero-add}
use native.Mathlib.Omega.{arith}
use mathlib.Core.Path.{◌≡◌, refl, sym, ap, ap₂, ◌∙◌}
use mathlib.Core.List.{List, [], ◌∷◌, ◌++◌, map, append_assoc, append-nil}
use lib.ListN.{length, take, drop, length-append, length-take, length-drop, take-append-drop, drop_of_length-le, length-replicate}
use lib.Seq.{length-take-le, take-append-add, drop-append-add, take_at}
use Rattle.utf8.specs.Lists.{join_map, sum}
use Rattle.utf8.proofs.Lists.{part_to_end}
use Rattle.model.specs.Model.{Row}
use Rattle.model.specs.Answers.{zeros}
use Rattle.merge.specs.Merge.{Candidate, next_merge, merged_at, merged}
use Rattle.merge.specs.inner.Laid.{Laid, laid, unit_laid}
use Rattle.merge.specs.inner.Turns.{Merged, merged_front}
use Rattle.merge.specs.declared.Symbols.{Symbols}
use Rattle.merge.proofs.NextLaws.{next_found, merged_shorter}
use Rattle.merge.proofs.MergedLaws.{merged_step, merged-none, by_merges}
use Rattle.merge.proofs.Laying.{length-laid, laid_fits}
use Rattle.stretches.specs.inner.Writers.{Writer, merging, unit_writer, then_writes, in_turn}

-- ---- one unit

-- Starting ids in a buffer, merged there.
pub unit-merged : (row : ℕ → ℕ → Option Row) (own : List ℕ → Option ℕ) (fallback : List ℕ) (chars : List (List ℕ)) (before : List ℕ) {s : Symbols} {middle : List ℕ} {done : Merged}
    → ◌≡◌ {A = Laid} (record { symbols = s; out = middle }) (unit_laid own fallback chars before) → done ≡ merged_front row s.count middle → done ≡ unit_writer row own fallback chars before
unfolding unit_laid unit_writer merging
unit-merged row own fallback chars before e f = f ∙ ap (λ (l : Laid). merged_front row l.symbols.count l.out) e

-- A merge leaves no more ids than there were.
pub merged_few : (row : ℕ → ℕ → Option Row) (ids : List ℕ) → length (merged row ids) ≤ length ids
merged_few row = by_merges row (λ (ids : List ℕ). length (merged row ids) ≤ length ids) stop step
  where
    stop : (ids : List ℕ) → next_merge row ids ≡ None → length (merged row ids) ≤ length ids
    stop ids e = omega (arith, ap length (merged-none row ids e))

    step : (ids : List ℕ) (c : Candidate) → next_merge row ids ≡ Some c → length (merged row (merged_at c ids)) ≤ length (merged_at c ids) → length (merged row ids) ≤ length ids
    step ids c e h = omega (arith, ap length (merged_step row ids c e), merged_shorter row (next_found row ids c e))

-- A writer keeps the buffer's length, and what it writes lies in it.
pub record Keeps (w : Writer) : Type 0 where
  pub long : (out : List ℕ) → length (w out).ids ≡ length out
  pub inside : (out : List ℕ) → (w out).count ≤ length out

front_keeps : (row : ℕ → ℕ → Option Row) (n : ℕ) (ids : List ℕ) → n ≤ length ids → ((merged_front row n ids).count ≤ length ids) × (length (merged_front row n ids).ids ≡ length ids)
unfolding merged_front
front_keeps row n ids h =
    let front = take n ids in
    let done = merged row front in
    let few = merged_few row front in
    let taken = length-take-le n ids h in (
      omega arith,
      omega (arith, length-append (done ++ zeros (length front - length done)) (drop n ids), length-append done (zeros (length front - length done)), length-replicate {A = ℕ} (length front - length done) 0, length-drop n ids),
    )

pub keeps_merging : (row : ℕ → ℕ → Option Row) (starts : List ℕ) → Keeps (merging row starts)
unfolding merging
keeps_merging row starts = record {
  long = λ out. (front_keeps row (min (length starts) (length out)) (laid starts out) (omega (arith, length-laid starts out))).1 ∙ length-laid starts out;
  inside = λ out. omega (arith, (front_keeps row (min (length starts) (length out)) (laid starts out) (omega (arith, length-laid starts out))).0, length-laid starts out);
}

pub keeps_unit : (row : ℕ → ℕ → Option Row) (own : List ℕ → Option ℕ) (fallback : List ℕ) (chars : List (List ℕ)) → Keeps (unit_writer row own fallback chars)
unfolding unit_writer
keeps_unit row own fallback chars = keeps_merging row _

-- ---- from writer to writer

-- n ids stand at the front of out, and the writers of rest are to follow.
pub record Going (whole rest : List Writer) (before out : List ℕ) (n : ℕ) : Type 0 where
  pub within : n ≤ length out
  pub long : length out ≡ length before
  pub same : in_turn whole before ≡ then_writes (record { count = n; ids = out }) (in_turn rest)

pub going_start : (whole : List Writer) (before : List ℕ) → Going whole whole before before 0
unfolding then_writes
going_start whole before =
    record { within = omega arith; long = refl; same = ap {B = Merged} (λ (n : ℕ). record { count = n; ids = (in_turn whole before).ids }) (sym (zero-add (in_turn whole before).count)) }

module _ {whole rest : List Writer} {before out : List ℕ} {n : ℕ} (g : Going whole rest before out n) where
  taken : length (take n out) ≡ n
  taken = length-take-le n out g.within

  -- What one writer more gives still lies in the buffer.
  pub going_fits : (w : Writer) → Keeps w → {k : ℕ} {after : List ℕ} → ◌≡◌ {A = Merged} (record { count = k; ids = after }) (w (take (length out - n) (drop n out))) → n + k ≤ length before
  going_fits w keeps {k} e =
      let part = take (length out - n) (drop n out) in
      omega (arith, ap (λ (d : Merged). d.count) e, keeps.inside part, length-take (length out - n) (drop n out), g.within, g.long)

  -- One writer more, as a call leaves it that is lent the buffer from n on.
  pub going_on : (w : Writer) (ws : List Writer) → ((l : List ℕ) → in_turn rest l ≡ then_writes (w l) (in_turn ws)) → Keeps w → {k : ℕ} {after : List ℕ}
      → ◌≡◌ {A = Merged} (record { count = k; ids = after }) (w (take (length out - n) (drop n out)))
      → Going whole ws before (take n out ++ (after ++ drop (length out - n) (drop n out))) (n + k)
  unfolding then_writes
  going_on w ws is keeps {k} {after} e =
      let tail = drop n out in
      let none' : drop (length out - n) tail ≡ [] = drop_of_length-le tail {i = length out - n} (omega (arith, length-drop n out)) in
      let told : ◌≡◌ {A = Merged} (record { count = k; ids = after }) (w tail) = e ∙ ap w (part_to_end out n) in
      let k-is : k ≡ (w tail).count = ap (λ (d : Merged). d.count) told in
      let after_is : after ≡ (w tail).ids = ap (λ (d : Merged). d.ids) told in
      let size : length after ≡ length tail = ap length after_is ∙ keeps.long tail in
      let inside : k ≤ length after = omega (arith, keeps.inside tail) in
      let last : after ++ drop (length out - n) tail ≡ after = rw none' (append-nil after) in
      let cut : take (n + k) (take n out ++ after) ≡ take n out ++ take k after = ap (λ (m : ℕ). take (m + k) (take n out ++ after)) (sym taken) ∙ take-append-add (take n out) after k in
      let left : drop (n + k) (take n out ++ after) ≡ drop k after = ap (λ (m : ℕ). drop (m + k) (take n out ++ after)) (sym taken) ∙ drop-append-add (take n out) after k in
      rw last
      (record {
        within = omega (arith, length-append (take n out) after, taken);
        long = omega (arith, length-append (take n out) after, taken, length-drop n out, g.long, g.within);
        same =
            g.same
            ∙ rw (is tail, ← told)
            (rw (cut, left)
            (let more = in_turn ws (drop k after) in
            ap₂ {C = Merged} (λ (c : ℕ) (l : List ℕ). record { count = c; ids = l }) (let z : n + (k + more.count) ≡ n + k + more.count = omega arith in z) (sym (append_assoc (take n out) (take k after) more.ids))));
      })

  pub going_next : (w : Writer) (ws : List Writer) → rest ≡ w ∷ ws → Keeps w → {k : ℕ} {after : List ℕ}
      → ◌≡◌ {A = Merged} (record { count = k; ids = after }) (w (take (length out - n) (drop n out)))
      → Going whole ws before (take n out ++ (after ++ drop (length out - n) (drop n out))) (n + k)
  unfolding in_turn
  going_next w ws is = going_on w ws (λ l. ap (λ (r : List Writer). in_turn r l) is)

pub going_ended : {whole : List Writer} {before out : List ℕ} {n : ℕ} → Going whole [] before out n → ◌≡◌ {A = Merged} (record { count = n; ids = out }) (in_turn whole before)
unfolding then_writes in_turn
going_ended {out = out} {n = n} g = sym (g.same ∙ rw (add-zero n, take-append-drop n out))

-- One writer, and then others into the buffer from there on.
pub turn_two : (w : Writer) (ws : List Writer) (before : List ℕ) {n k : ℕ} {out after : List ℕ} → ◌≡◌ {A = Merged} (record { count = n; ids = out }) (w before)
    → ◌≡◌ {A = Merged} (record { count = k; ids = after }) (in_turn ws (take (length out - n) (drop n out)))
    → ◌≡◌ {A = Merged} (record { count = n + k; ids = take n out ++ (after ++ drop (length out - n) (drop n out)) }) (in_turn (w ∷ ws) before)
unfolding in_turn then_writes
turn_two w ws before {n} {k} {out} {after} e f =
    let none' : drop (length out - n) (drop n out) ≡ [] = drop_of_length-le (drop n out) {i = length out - n} (omega (arith, length-drop n out)) in
    let told : ◌≡◌ {A = Merged} (record { count = k; ids = after }) (in_turn ws (drop n out)) = f ∙ ap (in_turn ws) (part_to_end out n) in
    rw (none', append-nil after) (ap (λ (d : Merged). then_writes (record { count = n; ids = out }) (λ (l : List ℕ). d)) told ∙ ap (λ (d : Merged). then_writes d (in_turn ws)) e)

-- Writers in turn, and then others.
module _ {A : Type 0} (write : A → Writer) (keeps : (x : A) → Keeps (write x)) where
  pub turn-append : (xs : List A) (ws : List Writer) (out : List ℕ) → in_turn (map write xs ++ ws) out ≡ then_writes (in_turn (map write xs) out) (in_turn ws)
  unfolding in_turn then_writes
  turn-append [] ws out = ap {B = Merged} (λ (n : ℕ). record { count = n; ids = (in_turn ws out).ids }) (sym (zero-add (in_turn ws out).count))
  turn-append (x ∷ xs) ws out =
      let one = write x out in
      let c = one.count in
      let first = take c one.ids in
      let taken : length first ≡ c = length-take-le c one.ids (omega (arith, (keeps x).long out, (keeps x).inside out)) in
      let next = in_turn (map write xs) (drop c one.ids) in
      let k = next.count in
      let cut : take (c + k) (first ++ next.ids) ≡ first ++ take k next.ids = ap (λ (m : ℕ). take (m + k) (first ++ next.ids)) (sym taken) ∙ take-append-add first next.ids k in
      let left : drop (c + k) (first ++ next.ids) ≡ drop k next.ids = ap (λ (m : ℕ). drop (m + k) (first ++ next.ids)) (sym taken) ∙ drop-append-add first next.ids k in
      ap (λ (d : Merged). then_writes one (λ (l : List ℕ). d)) (turn-append xs ws (drop c one.ids))
      ∙ rw (cut, left)
      (let more = in_turn ws (drop k next.ids) in
      ap₂ {C = Merged} (λ (n : ℕ) (l : List ℕ). record { count = n; ids = l }) (let z : c + (k + more.count) ≡ c + k + more.count = omega arith in z) (sym (append_assoc first (take k next.ids) more.ids)))

-- A single writer.
pub turn_one : (w : Writer) (out : List ℕ) → in_turn (w ∷ []) out ≡ w out
unfolding in_turn then_writes
turn_one w out = let one = w out in rw (add-zero one.count, take-append-drop one.count one.ids)

-- ---- where there is room

-- With need cells the writer leaves these ids at the front.
pub record Fits (w : Writer) (ids : List ℕ) (need : ℕ) : Type 0 where
  pub few : length ids ≤ need
  pub count : (out : List ℕ) → need ≤ length out → (w out).count ≡ length ids
  pub front : (out : List ℕ) → need ≤ length out → take (length ids) (w out).ids ≡ ids

pub fits_merging : (row : ℕ → ℕ → Option Row) (starts : List ℕ) → Fits (merging row starts) (merged row starts) (length starts)
unfolding merging merged_front
fits_merging row starts = record {
  few = merged_few row starts;
  count = λ out h. ap (λ (l : List ℕ). length (merged row l)) (first out h);
  front = λ out h.
      let n = min (length starts) (length out) in
      let front = take n (laid starts out) in
      ap₂ {C = List ℕ} (λ (l : List ℕ) (d : List ℕ). take (length (merged row starts)) (merged row l ++ d ++ drop n (laid starts out))) (first out h) refl
      ∙ ap (take (length (merged row starts))) (append_assoc (merged row starts) (zeros (length front - length (merged row front))) (drop n (laid starts out)))
      ∙ take_at (merged row starts) (zeros (length front - length (merged row front)) ++ drop n (laid starts out)) (length (merged row starts)) refl;
}
  where
    first : (out : List ℕ) → length starts ≤ length out → take (min (length starts) (length out)) (laid starts out) ≡ starts
    first out h =
        let all : min (length starts) (length out) ≡ length starts = omega arith in
        rw (all, laid_fits starts out h) (take_at starts (drop (length starts) out) (length starts) refl)

-- What holds of each element of a list.
pub data Each {A : Type 0} (P : A → Type 0) : List A → Type 0 where
  none_left : Each P []
  one_more : {x : A} {xs : List A} → P x → Each P xs → Each P (x ∷ xs)

pub each : {A : Type 0} {P : A → Type 0} → ((x : A) → P x) → (xs : List A) → Each P xs
each all [] = none_left
each all (x ∷ xs) = one_more (all x) (each all xs)

pub each_append : {A : Type 0} {P : A → Type 0} {xs ys : List A} → Each P xs → Each P ys → Each P (xs ++ ys)
each_append none_left qs = qs
each_append (one_more p ps) qs = one_more p (each_append ps qs)

module _ {A : Type 0} (write : A → Writer) where
  pub keeps_all : ((x : A) → Keeps (write x)) → (xs : List A) → Keeps (in_turn (map write xs))
  unfolding in_turn then_writes
  keeps_all keeps [] = record { long = λ out. refl; inside = λ out. omega arith }
  keeps_all keeps (x ∷ xs) =
      let rest = keeps_all keeps xs in
      record {
        long = λ out.
            let one = write x out in
            omega
            (arith, (keeps x).long out, (keeps x).inside out, length-append (take one.count one.ids) (in_turn (map write xs) (drop one.count one.ids)).ids, length-take one.count one.ids, rest.long (drop one.count one.ids), length-drop one.count one.ids);
        inside = λ out.
            let one = write x out in
            omega (arith, (keeps x).long out, (keeps x).inside out, rest.inside (drop one.count one.ids), length-drop one.count one.ids);
      }

  -- Writers in turn have room if there is room for all that they need.
  pub fits_all : (ids : A → List ℕ) (need : A → ℕ) → ((x : A) → Keeps (write x)) → (xs : List A) → Each (λ (x : A). Fits (write x) (ids x) (need x)) xs → Fits (in_turn (map write xs)) (join_map ids xs) (sum (map need xs))
  unfolding in_turn then_writes
  fits_all ids need keeps [] none_left = record { few = omega arith; count = λ out h. refl; front = λ out h. refl }
  fits_all ids need keeps (x ∷ xs) (one_more f fits) =
      let rest = fits_all ids need keeps xs fits in
      let a = ids x in
      let b = join_map ids xs in
      record {
        few = omega (arith, f.few, rest.few, length-append a b);
        count = λ out h.
            let one = write x out in
            let c : one.count ≡ length a = f.count out (omega arith) in
            let room : sum (map need xs) ≤ length (drop one.count one.ids) = omega (arith, length-drop one.count one.ids, (keeps x).long out, f.few) in
            omega (arith, rest.count (drop one.count one.ids) room, length-append a b);
        front = λ out h.
            let one = write x out in
            let c : one.count ≡ length a = f.count out (omega arith) in
            let tail = drop one.count one.ids in
            let room : sum (map need xs) ≤ length tail = omega (arith, length-drop one.count one.ids, (keeps x).long out, f.few) in
            let first : take one.count one.ids ≡ a = ap (λ (n : ℕ). take n one.ids) c ∙ f.front out (omega arith) in
            rw (length-append a b, first)
            (take-append-add a (in_turn (map write xs) tail).ids (length b) ∙ ap (λ (l : List ℕ). a ++ l) (rest.front tail room));
      }
