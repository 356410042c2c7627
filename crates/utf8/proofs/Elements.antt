-- Laws of tests that some, all or none of a list's elements pass. Assumes nothing.
use Prim.Native.Nat.{ℕ, suc, ◌<◌, suc-le-suc}
use native.Mathlib.Omega.{arith}
use native.Mathlib.Nat.{suc-ne-zero}
use mathlib.Core.Path.{◌≡◌, refl, sym, ap, ◌∙◌}
use mathlib.Core.Bool.{Bool, true, false, not, cond, ◌&&◌, ◌||◌}
use mathlib.Core.Logic.{⊎_elim}
use mathlib.Core.List.{List, [], ◌∷◌, ◌++◌, map}
use borrow.Author.Tests.{eqb-true}
use lib.Dec.{eqb}
use lib.ListN.{length, get_or}
use Rattle.utf8.specs.Lists.{is_empty, all, any, filter, count, join, join_map}
use Rattle.utf8.proofs.Tests.{either, clash, and_left, and_right, and_both}
use Rattle.utf8.proofs.Lists.{all_append}
use Rattle.utf8.proofs.Places.{any-one, any_append}

module _ {A : Type 0} where
  pub any-false-at : (test : A → Bool) (xs : List A) (i : ℕ) (d : A) → any test xs ≡ false → i < length xs → test (get_or xs i d) ≡ false
  any-false-at test xs i d e h = ⊎_elim (λ t. clash e (any-one test xs i d h t)) (λ t. t) (either (test (get_or xs i d)))

  pub any-filter : (test p : A → Bool) (xs : List A) → any test (filter p xs) ≡ any (λ (x : A). p x && test x) xs
  any-filter test p [] = refl
  any-filter test p (x ∷ xs) = go (p x) (any-filter test p xs)
    where
      go : (b : Bool) → any test (filter p xs) ≡ any (λ (x : A). p x && test x) xs
          → any test (cond b (x ∷ filter p xs) (filter p xs)) ≡ ((b && test x) || any (λ (x : A). p x && test x) xs)
      go true e = ap (λ (t : Bool). test x || t) e
      go false e = e

  pub all_by_places : (test : A → Bool) (xs : List A) (d : A) → ((i : ℕ) → i < length xs → test (get_or xs i d) ≡ true) → all test xs ≡ true
  all_by_places test [] d f = refl
  all_by_places test (x ∷ xs) d f = and_both (f 0 (omega arith)) (all_by_places test xs d (λ i h. f (suc i) (suc-le-suc h)))

  pub all_join : (test : A → Bool) (xss : List (List A)) → all (all test) xss ≡ all test (join xss)
  all_join test [] = refl
  all_join test (xs ∷ xss) = ap (λ (b : Bool). all test xs && b) (all_join test xss) ∙ sym (all_append test xs (join xss))

  -- One element put in the place of another.
  pub all_one : (test : A → Bool) (before after : List A) (x y : A) → (test x ≡ true → test y ≡ true) → all test (before ++ x ∷ after) ≡ true → all test (before ++ y ∷ after) ≡ true
  all_one test [] after x y f e = and_both (f (and_left (test x) (all test after) e)) (and_right (test x) (all test after) e)
  all_one test (b ∷ before) after x y f e =
      and_both (and_left (test b) (all test (before ++ x ∷ after)) e) (all_one test before after x y f (and_right (test b) (all test (before ++ x ∷ after)) e))

  pub count_none : (test : A → Bool) (xs : List A) → count test xs ≡ 0 → any test xs ≡ false
  count_none test [] e = refl
  count_none test (x ∷ xs) e = go (count_none test xs) (test x) e
    where
      go : (count test xs ≡ 0 → any test xs ≡ false) → (b : Bool) → length (cond b (x ∷ filter test xs) (filter test xs)) ≡ 0 → (b || any test xs) ≡ false
      go rest true e = absurd (suc-ne-zero (length (filter test xs)) e)
      go rest false e = rest e

module _ {A B : Type 0} where
  pub any-map : (test : B → Bool) (f : A → B) (xs : List A) → any test (map f xs) ≡ any (λ (x : A). test (f x)) xs
  any-map test f [] = refl
  any-map test f (x ∷ xs) = ap (λ (t : Bool). test (f x) || t) (any-map test f xs)

  pub any-join_map : (test : B → Bool) (f : A → List B) (xs : List A) → any test (join_map f xs) ≡ any (λ (x : A). any test (f x)) xs
  any-join_map test f [] = refl
  any-join_map test f (x ∷ xs) = any_append test (f x) (join_map f xs) ∙ ap (λ (t : Bool). any test (f x) || t) (any-join_map test f xs)

  pub map-one : (f : A → B) (before after : List A) (x y : A) → f x ≡ f y → map f (before ++ x ∷ after) ≡ map f (before ++ y ∷ after)
  map-one f [] after x y e = ap (λ (z : B). z ∷ map f after) e
  map-one f (b ∷ before) after x y e = ap {B = List B} (λ l. f b ∷ l) (map-one f before after x y e)

-- A number that is among others passes what they all pass.
pub any_has : (b : ℕ) (test : ℕ → Bool) (bs : List ℕ) → any (eqb b) bs ≡ true → all test bs ≡ true → test b ≡ true
any_has b test [] e h = clash refl e
any_has b test (c ∷ bs) e h = go (any_has b test bs) (eqb b c) refl e
  where
    go : (any (eqb b) bs ≡ true → all test bs ≡ true → test b ≡ true) → (t : Bool) → eqb b c ≡ t → (t || any (eqb b) bs) ≡ true → test b ≡ true
    go rest true q e = ap test (eqb-true b c q) ∙ and_left (test c) (all test bs) h
    go rest false q e = rest e (and_right (test c) (all test bs) h)

pub not-empty-long : (l : List ℕ) → not (is_empty l) ≡ true → 0 < length l
not-empty-long [] e = clash refl e
not-empty-long (x ∷ l) e = omega arith
