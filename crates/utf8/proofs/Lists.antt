-- Laws on the words of `specs/Lists`. Assumes nothing.
use Prim.Native.Nat.{ℕ, zero, suc, ◌-◌, ◌<◌}
use native.Mathlib.Nat.{not-suc-le-zero}
use native.Mathlib.Omega.{arith}
use mathlib.Core.Path.{◌≡◌, refl, sym, ap, ◌∙◌}
use mathlib.Core.Bool.{Bool, ◌&&◌, and_assoc}
use mathlib.Core.List.{List, [], ◌∷◌, ◌++◌, map, append_assoc}
use lib.ListN.{length, take, drop, length-drop}
use lib.Seq.{take_all}
use Rattle.utf8.specs.Lists.{all, last_or, join}

module _ {ℓ} {A : Type ℓ} where
  -- What holds of a list where it holds of every shorter one holds of all.
  pub by_length {κ} : (P : List A → Type κ) → ((t : List A) → ((u : List A) → length u < length t → P u) → P t) → (t : List A) → P t
  by_length P step t = go (suc (length t)) t (omega arith)
    where
      go : (n : ℕ) (t : List A) → length t < n → P t
      go zero t h = absurd (not-suc-le-zero h)
      go (suc n) t h = step t (λ u l. go n u (omega arith))

  pub join-append : (xs ys : List (List A)) → join (xs ++ ys) ≡ join xs ++ join ys
  join-append [] ys = refl
  join-append (x ∷ xs) ys = ap (λ (l : List A). x ++ l) (join-append xs ys) ∙ sym (append_assoc x (join xs) (join ys))

  -- The part of a list from a place to its end.
  pub part_to_end : (l : List A) (i : ℕ) → take (length l - i) (drop i l) ≡ drop i l
  part_to_end l i = take_all (length l - i) (drop i l) (omega (arith, length-drop i l))

  pub last_or-append : (d c : A) (xs : List A) → last_or d (xs ++ (c ∷ [])) ≡ c
  last_or-append d c [] = refl
  last_or-append d c (x ∷ xs) = last_or-append x c xs

  pub all_append : (test : A → Bool) (xs ys : List A) → all test (xs ++ ys) ≡ (all test xs && all test ys)
  all_append test [] ys = refl
  all_append test (x ∷ xs) ys =
      ap (λ (b : Bool). test x && b) (all_append test xs ys) ∙ sym (and_assoc (test x) (all test xs) (all test ys))

module _ {A B : Type 0} (f : A → B) where
  pub drop-map : (n : ℕ) (l : List A) → drop n (map f l) ≡ map f (drop n l)
  drop-map zero l = refl
  drop-map (suc n) [] = refl
  drop-map (suc n) (x ∷ l) = drop-map n l
