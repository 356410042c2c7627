-- Laws of the merge in place on the front of a buffer. Assumes nothing.
use Rattle.std.specs.Prelude.{Option, None, Some}
use Prim.Native.Nat.{ℕ, suc, ◌+◌, ◌-◌, ◌≤◌, min}
use native.Mathlib.Nat.{sub_self}
use native.Mathlib.Omega.{arith}
use mathlib.Core.Path.{◌≡◌, refl, sym, ap, ◌∙◌}
use mathlib.Core.Logic.{⊎_elim}
use mathlib.Core.List.{List, [], ◌∷◌, ◌++◌, append_assoc}
use borrow.Author.Tests.{leb-true, leb-false}
use lib.Dec.{leb}
use lib.ListN.{length, take, drop, length-append, length-drop, take-append-drop, drop_of_length-le, length-replicate}
use lib.Seq.{take_at, drop_at, take_all, take-length, drop-length, length-take-le}
use Rattle.utf8.proofs.Tests.{either}
use Rattle.model.specs.Model.{Row}
use Rattle.model.specs.Answers.{zeros}
use Rattle.merge.specs.declared.Joining.{Joining}
use Rattle.merge.specs.Merge.{Candidate, next_merge, merged_at, merged}
use Rattle.merge.specs.inner.Turns.{joining, turn_of, joined_at, Merged, merged_front}
use Rattle.merge.proofs.NextLaws.{next_found, merged_shorter, place_inside}
use Rattle.merge.proofs.MergedLaws.{merged_step, merged-none}

-- ---- what a turn says of the next merge

never {ℓ} : {A : Type ℓ} {X : Type 0} {x : X} → Some x ≡ None → A
never e = let z : ◌≡◌ {A = ℕ} 0 1 = cc in absurd (omega arith)

-- The next merge is of the pair at a place, which becomes result.
pub record Picked (o : Option Candidate) (place result : ℕ) : Type 0 where
  pub one : Candidate
  pub is : o ≡ Some one
  pub stands : one.place ≡ place
  pub gives : one.row.result ≡ result

pub picked : (o : Option Candidate) {t : Option Joining} {j : Joining} → t ≡ turn_of o → t ≡ Some j → Picked o j.place j.result
picked None told e = never (sym e ∙ told)
picked (Some c) {j = j} told e =
    let same : joining c.place c.row.result c.row.rank ≡ Some j = sym told ∙ e in
    let parts : record { place = c.place; result = c.row.result; rank = c.row.rank } ≡ j = cc in
    record { one = c; is = refl; stands = ap (λ (k : Joining). k.place) parts; gives = ap (λ (k : Joining). k.result) parts }

pub stopped : (o : Option Candidate) {t : Option Joining} → t ≡ turn_of o → t ≡ None → o ≡ None
stopped None told e = refl
stopped (Some c) told e = never (sym told ∙ e)

-- ---- the front of a buffer, counted beyond its end

module _ (n : ℕ) (l : List ℕ) where
  front-min : take (min n (length l)) l ≡ take n l
  front-min =
      ⊎_elim (λ t. let h : min n (length l) ≡ n = omega (arith, leb-true n (length l) t) in rw h)
      (λ t. let h : min n (length l) ≡ length l = omega (arith, leb-false n (length l) t) in rw (h, take-length) (sym (take_all n l (omega (arith, leb-false n (length l) t)))))
      (either (leb n (length l)))

  back-min : drop (min n (length l)) l ≡ drop n l
  back-min =
      ⊎_elim (λ t. let h : min n (length l) ≡ n = omega (arith, leb-true n (length l) t) in rw h)
      (λ t. let h : min n (length l) ≡ length l = omega (arith, leb-false n (length l) t) in rw (h, drop-length) (sym (drop_of_length-le l {i = n} (omega (arith, leb-false n (length l) t)))))
      (either (leb n (length l)))

-- ---- the loop

-- n ids are left of the first whole ones; what they merge to is what those merge to.
pub record Merging (row : ℕ → ℕ → Option Row) (whole : ℕ) (before out : List ℕ) (n : ℕ) : Type 0 where
  pub within : n ≤ whole
  pub long : whole ≤ length before
  pub size : length out ≡ length before
  pub same : merged row (take whole before) ≡ merged row (take n out)
  pub shape : out ≡ take n out ++ (zeros (whole - n) ++ drop whole before)

pub merging_start : (row : ℕ → ℕ → Option Row) (whole : ℕ) (before : List ℕ) → whole ≤ length before → Merging row whole before before whole
merging_start row whole before h =
    record { within = omega arith; long = h; size = refl; same = refl; shape = rw (sub_self whole) (sym (take-append-drop whole before)) }

module _ {row : ℕ → ℕ → Option Row} {whole : ℕ} {before out : List ℕ} {n : ℕ} (m : Merging row whole before out n) where
  pub merging_fits : n ≤ length out
  merging_fits = omega (arith, m.within, m.long, m.size)

  front_long : length (take n out) ≡ n
  front_long = length-take-le n out merging_fits

  back_is : drop n out ≡ zeros (whole - n) ++ drop whole before
  back_is = ap (drop n) m.shape ∙ drop_at (take n out) (zeros (whole - n) ++ drop whole before) n front_long

  module _ {place result : ℕ} (p : Picked (next_merge row (take n out)) place result) where
    found : suc (length (merged_at p.one (take n out))) ≡ n
    found = merged_shorter row (next_found row (take n out) p.one p.is) ∙ front_long

    -- The pair lies among the ids.
    pub merging_inside : place + 2 ≤ length (take n out)
    merging_inside = omega (arith, place_inside row (next_found row (take n out) p.one p.is), p.stands)

    pub merging-some : 2 ≤ n
    merging-some = omega (arith, merging_inside, front_long)

    joined_is : joined_at place result (take n out) ≡ merged_at p.one (take n out) ++ (0 ∷ [])
    unfolding joined_at merged_at
    joined_is = rw (p.stands, p.gives)

    -- The front after it.
    pub merging-front : {after : List ℕ} → after ≡ joined_at place result (take n out) ++ drop n out → take (n - 1) after ≡ merged_at p.one (take n out)
    merging-front {after} e =
        let ids = merged_at p.one (take n out) in
        ap (take (n - 1)) (e ∙ rw joined_is (append_assoc ids (0 ∷ []) (drop n out))) ∙ take_at ids (0 ∷ drop n out) (n - 1) (omega (arith, found))

    pub merging-next : {after : List ℕ} → after ≡ joined_at place result (take n out) ++ drop n out → Merging row whole before after (n - 1)
    merging-next {after} e =
        let ids = merged_at p.one (take n out) in
        let less : length ids ≡ n - 1 = omega (arith, found) in
        let cells : zeros (whole - (n - 1)) ≡ 0 ∷ zeros (whole - n) = ap zeros (let more : whole - (n - 1) ≡ suc (whole - n) = omega (arith, found, m.within) in more) in
        let split : after ≡ ids ++ (zeros (whole - (n - 1)) ++ drop whole before) = e ∙ rw (joined_is, back_is, cells) (append_assoc ids (0 ∷ []) (zeros (whole - n) ++ drop whole before)) in
        let front : take (n - 1) after ≡ ids = merging-front e in
        record {
          within = omega (arith, m.within);
          long = m.long;
          size =
              omega
              (arith, ap length split, length-append ids (zeros (whole - (n - 1)) ++ drop whole before), length-append (zeros (whole - (n - 1))) (drop whole before), length-replicate {A = ℕ} (whole - (n - 1)) 0, length-drop whole before, less, found, m.within, m.long);
          same = m.same ∙ merged_step row (take n out) p.one p.is ∙ ap (merged row) (sym front);
          shape = split ∙ ap (λ (l : List ℕ). l ++ (zeros (whole - (n - 1)) ++ drop whole before)) (sym front);
        }

  pub merging-ended : (count : ℕ) → whole ≡ min count (length before) → next_merge row (take n out) ≡ None
      → ◌≡◌ {A = Merged} (record { count = n; ids = out }) (merged_front row count before)
  unfolding merged_front
  merging-ended count is e =
      let first : take count before ≡ take whole before = sym (front-min count before) ∙ rw is in
      let last : drop count before ≡ drop whole before = sym (back-min count before) ∙ rw is in
      let done : merged row (take count before) ≡ take n out = ap (merged row) first ∙ m.same ∙ merged-none row (take n out) e in
      let all : length (take count before) ≡ whole = ap length first ∙ length-take-le whole before m.long in
      rw (done, front_long, all, last) (ap {B = Merged} (λ (l : List ℕ). record { count = n; ids = l }) (m.shape ∙ sym (append_assoc (take n out) (zeros (whole - n)) (drop whole before))))

-- The ids that a buffer has room for are all that are merged.
pub front-counted : (row : ℕ → ℕ → Option Row) (n count : ℕ) (ids : List ℕ) → n ≡ min count (length ids) → merged_front row n ids ≡ merged_front row count ids
unfolding merged_front
front-counted row n count ids is = rw is (rw (front-min count ids, back-min count ids))
