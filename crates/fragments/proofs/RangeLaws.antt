-- The cuts of a text one after the other, and the numbers of the ranges between them. Assumes nothing.
use Prim.Native.Nat.{ℕ, zero, suc, ◌+◌, ◌-◌, ◌≤◌, ◌<◌, max}
use native.Mathlib.Omega.{arith}
use mathlib.Core.Path.{◌≡◌, refl, sym, ap, ◌∙◌}
use mathlib.Core.Bool.{Bool, true, false, cond}
use mathlib.Core.Logic.{⊎_elim}
use mathlib.Core.List.{List, [], ◌∷◌, ◌++◌, append_assoc, append-nil}
use borrow.Author.Tests.{leb-true, leb-false}
use lib.Dec.{leb}
use lib.ListN.{length, take, drop, length-append, length-drop, take-append-drop}
use lib.Seq.{length-take-le, take-append-add, drop-append-add, drop-drop}
use Rattle.utf8.specs.Lists.{filter, neighbours_from, join_map, count_from}
use Rattle.fragments.specs.Fragments.{cuts_from}
use Rattle.fragments.specs.inner.Search.{first_from, cuts_in, numbers_in}
use Rattle.fragments.proofs.ChoiceLaws.{lt-or-le}
use Rattle.fragments.proofs.FirstLaws.{first_found, first_next, first_ended}

module _ (safe : ℕ → Bool) (n step : ℕ) where
  -- The cuts behind the last.
  pub cuts_after : ℕ → List ℕ
  cuts_after last = cuts_from step last (filter safe (count_from (suc last) (n - suc last)))

  -- The first of them stands at q, or q is the end and there are none.
  pub data Cutting (q : ℕ) (cs : List ℕ) : Type 0 where
    ended : n ≤ q → cs ≡ [] → Cutting q cs
    more : q < n → cs ≡ q ∷ cuts_after q → Cutting q cs

  cut_from : (j k last : ℕ) → k + j ≡ n → Cutting (first_from safe n (max k (last + step))) (cuts_from step last (filter safe (count_from k j)))
  unfolding cuts_after
  cut_from zero k last e = ended (rw (first_ended safe n (max k (last + step)) (omega arith)) (omega arith)) refl
  cut_from (suc j) k last e = go (cut_from j (suc k) last (omega arith)) (safe k) refl
    where
      rest : List ℕ
      rest = filter safe (count_from (suc k) j)

      inside : k < n
      inside = omega arith

      later : k < last + step → max (suc k) (last + step) ≡ max k (last + step)
      later h = omega arith

      left : j ≡ n - suc k
      left = omega arith

      pick : Cutting (first_from safe n (max (suc k) (last + step))) (cuts_from step last rest) → safe k ≡ true → (b : Bool) → leb (last + step) k ≡ b
          → Cutting (first_from safe n (max k (last + step))) (cond b (k ∷ cuts_from step k rest) (cuts_from step last rest))
      pick ih e true q =
          let here : max k (last + step) ≡ k = omega (arith, leb-true (last + step) k q) in
          rw (here, first_found safe n k inside e) (more inside (ap (λ (m : ℕ). k ∷ cuts_from step k (filter safe (count_from (suc k) m))) left))
      pick ih e false q = rw (sym (later (leb-false (last + step) k q))) ih

      go : Cutting (first_from safe n (max (suc k) (last + step))) (cuts_from step last rest) → (b : Bool) → safe k ≡ b
          → Cutting (first_from safe n (max k (last + step))) (cuts_from step last (cond b (k ∷ rest) rest))
      go ih true e = pick ih e (leb (last + step) k) refl
      go ih false e =
          ⊎_elim (λ (h : k < last + step). rw (sym (later h)) ih)
          (λ (h : last + step ≤ k). let here : max k (last + step) ≡ k = omega arith in let there : max (suc k) (last + step) ≡ k + 1 = omega arith in rw (here, first_next safe n k inside e) (rw there at ih))
          (lt-or-le k (last + step))

  module _ (pos : 0 < step) where
    pub cut-next : (last q : ℕ) → q ≡ first_from safe n (last + step) → Cutting q (cuts_after last)
    unfolding cuts_after
    cut-next last q e = ⊎_elim (λ (h : last < n). inside h) (λ (h : n ≤ last). past h) (lt-or-le last n)
      where
        inside : last < n → Cutting q (cuts_from step last (filter safe (count_from (suc last) (n - suc last))))
        inside h =
            let same : max (suc last) (last + step) ≡ last + step = omega arith in
            rw (e, ← same) (cut_from (n - suc last) (suc last) last (omega arith))

        past : n ≤ last → Cutting q (cuts_from step last (filter safe (count_from (suc last) (n - suc last))))
        past h =
            let none_left : n - suc last ≡ 0 = omega arith in
            rw none_left (ended (omega (arith, e, first_ended safe n (last + step) (omega arith))) refl)

  pub cuts-start : safe 0 ≡ false → cuts_in safe n step ≡ cuts_after 0
  unfolding cuts_in cuts_after
  cuts-start e = go n
    where
      go : (m : ℕ) → cuts_from step 0 (filter safe (count_from 0 m)) ≡ cuts_from step 0 (filter safe (count_from 1 (m - 1)))
      go zero = refl
      go (suc m) = let left : m ≡ suc m - 1 = omega arith in rw e (ap (λ (k : ℕ). cuts_from step 0 (filter safe (count_from 1 k))) left)

-- ---- the numbers of the ranges

-- Those from the last cut on, by the cuts behind it.
abbrev pub numbers_after : ℕ → ℕ → List ℕ → List ℕ
numbers_after n last cs = join_map (λ (r : ℕ × ℕ). r.0 ∷ r.1 ∷ []) (neighbours_from last (cs ++ (n ∷ [])))

pub numbers-start : (safe : ℕ → Bool) (n step : ℕ) → safe 0 ≡ false → numbers_in safe n step ≡ numbers_after n 0 (cuts_after safe n step 0)
unfolding numbers_in
numbers-start safe n step e = ap (numbers_after n 0) (cuts-start safe n step e)

pub length-numbers : (n last : ℕ) (cs : List ℕ) → length (numbers_after n last cs) ≡ (length cs + 1) + (length cs + 1)
length-numbers n last [] = refl
length-numbers n last (c ∷ cs) = omega (arith, length-numbers n c cs)

-- ---- numbers written one after the other

-- The front of out has them up to written, and the rest comes; behind that it is as it was.
pub record Writing (all_of before out : List ℕ) (written : ℕ) (rest : List ℕ) : Type 0 where
  pub long : length out ≡ length before
  pub front : take written out ++ rest ≡ all_of
  pub back : drop written out ≡ drop written before
  pub room : written + length rest ≤ length out

pub writing_start : (all_of out : List ℕ) → length all_of ≤ length out → Writing all_of out out 0 all_of
writing_start all_of out h = record { long = refl; front = refl; back = refl; room = omega arith }

module _ (all_of before out : List ℕ) (written : ℕ) where
  pub writing_more : (a b : ℕ) (rest next : List ℕ) → Writing all_of before out written (a ∷ b ∷ rest) → next ≡ take written out ++ (a ∷ b ∷ drop (written + 2) out) → Writing all_of before next (written + 2) rest
  writing_more a b rest next w e =
      let fits : written ≤ length out = omega (arith, w.room) in
      let size : length (take written out) ≡ written = length-take-le written out fits in
      record {
        long = ap length e ∙ omega (arith, length-append (take written out) (a ∷ b ∷ drop (written + 2) out), size, length-drop (written + 2) out, w.room, w.long);
        front = ap (λ (l : List ℕ). take (written + 2) l ++ rest) e ∙ ap (λ (k : ℕ). take (k + 2) (take written out ++ (a ∷ b ∷ drop (written + 2) out)) ++ rest) (sym size) ∙ ap (λ (l : List ℕ). l ++ rest) (take-append-add (take written out) (a ∷ b ∷ drop (written + 2) out) 2) ∙ append_assoc (take written out) (a ∷ b ∷ []) rest ∙ w.front;
        back = ap (drop (written + 2)) e ∙ ap (λ (k : ℕ). drop (k + 2) (take written out ++ (a ∷ b ∷ drop (written + 2) out))) (sym size) ∙ drop-append-add (take written out) (a ∷ b ∷ drop (written + 2) out) 2 ∙ sym (drop-drop 2 written out) ∙ ap (drop 2) w.back ∙ drop-drop 2 written before;
        room = omega (arith, ap length e, length-append (take written out) (a ∷ b ∷ drop (written + 2) out), size, length-drop (written + 2) out, w.room);
      }

  pub written_all : Writing all_of before out written [] → written ≡ length all_of
  written_all w = omega (arith, ap length w.front, length-append (take written out) [], length-take-le written out (omega (arith, w.room)))

  pub writing_done : Writing all_of before out written [] → out ≡ all_of ++ drop (length all_of) before
  writing_done w =
      sym (take-append-drop written out)
      ∙ ap (λ (l : List ℕ). take written out ++ l) (w.back ∙ ap (λ (k : ℕ). drop k before) (written_all w))
      ∙ ap (λ (l : List ℕ). l ++ drop (length all_of) before) (sym (append-nil (take written out)) ∙ w.front)
