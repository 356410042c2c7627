-- Laws of the lowest number that applies.
use mathlib.Core.Path.{◌≡◌, refl, sym, ap, ◌∙◌}
use mathlib.Core.Bool.{Bool, true, false}
use mathlib.Core.List.{List, [], ◌∷◌, ◌++◌}
use Prim.Native.Nat.{ℕ, ◌≤◌, ◌<◌, zero-le}
use native.Mathlib.Omega.{arith}
use borrow.Author.Tests.{ltb-true, leb-true, eqb-true, ne_eqb}
use lib.Dec.{eqb, leb, ltb}
use Rattle.utf8.specs.Lists.{all}
use Rattle.utf8.proofs.Tests.{and_left, and_right}
use Rattle.model.specs.declared.Answer.{Answer}
use Rattle.model.specs.declared.Refusal.{Refusal}
use Rattle.model.specs.declared.Refusal.TheVariants.{WrongSize, OffsetsAstray, BadPiece, BadLookup, BadFallback, BadRow, BadToken, BadStep, BadText, NoRawPath, ScratchTooShort, ResultTooShort}
use Rattle.model.specs.Model.{Model}
use Rattle.model.specs.Answers.{number_of, lowest, refused}
use Rattle.model.specs.Check.{wrong_sizes, text_too_long, model_tests, check_number, check_outcome}

-- No test has the number 0.
abbrev pub numbers_positive : List (ℕ × Bool) → Bool
numbers_positive tests = all (λ (t : ℕ × Bool). ltb 0 t.0) tests

-- Where none of the first tests applies, the others decide.
pub lowest_later : (xs ys : List (ℕ × Bool)) → numbers_positive xs ≡ true → lowest xs ≡ 0 → lowest (xs ++ ys) ≡ lowest ys
lowest_later [] ys p e = refl
lowest_later (x ∷ xs) ys p e = go x.1 refl (lowest_later xs ys (and_right (ltb 0 x.0) (numbers_positive xs) p))
  where
    above : 0 < x.0
    above = ltb-true 0 x.0 (and_left (ltb 0 x.0) (numbers_positive xs) p)

    go : (b : Bool) → x.1 ≡ b → (lowest xs ≡ 0 → lowest (xs ++ ys) ≡ lowest ys) → lowest ((x ∷ xs) ++ ys) ≡ lowest ys
    go true f later = absurd (let z : x.0 ≡ 0 = (rw f at e) in let a : 0 < x.0 = above in omega arith)
    go false f later = rw f (later (rw f at e))

-- Where one of the first tests applies, it decides.
pub lowest-first : (xs ys : List (ℕ × Bool)) → (lowest xs ≡ 0 → ⊥) → lowest (xs ++ ys) ≡ lowest xs
lowest-first [] ys h = absurd (h refl)
lowest-first (x ∷ xs) ys h = go x.1 refl (lowest-first xs ys)
  where
    go : (b : Bool) → x.1 ≡ b → ((lowest xs ≡ 0 → ⊥) → lowest (xs ++ ys) ≡ lowest xs) → lowest ((x ∷ xs) ++ ys) ≡ lowest (x ∷ xs)
    go true f later = rw f
    go false f later = rw f (later (λ z. h (rw f z)))

module _ (m : Model) (size : ℕ) where
  pub tests_positive : numbers_positive (model_tests m size) ≡ true
  unfolding model_tests
  tests_positive = refl

  -- A text that is not too long leaves the model check as it is.
  pub tests_of_check : text_too_long size ≡ false → lowest (model_tests m size) ≡ check_number m
  unfolding model_tests check_number text_too_long
  tests_of_check f = rw f

  pub text_too_long_lem : text_too_long size ≡ true → lowest (model_tests m size) ≡ 1
  unfolding model_tests
  text_too_long_lem t = go (wrong_sizes m) refl
    where
      go : (b : Bool) → wrong_sizes m ≡ b → lowest (model_tests m size) ≡ 1
      go true e = rw e
      go false e = rw (e, t)

pub lowest_bound : (k : ℕ) (xs : List (ℕ × Bool)) → all (λ (t : ℕ × Bool). leb t.0 k) xs ≡ true → lowest xs ≤ k
lowest_bound k [] p = zero-le
lowest_bound k (x ∷ xs) p = go x.1 refl (lowest_bound k xs (and_right (leb x.0 k) (all (λ (t : ℕ × Bool). leb t.0 k) xs) p))
  where
    go : (b : Bool) → x.1 ≡ b → lowest xs ≤ k → lowest (x ∷ xs) ≤ k
    go true f later = rw f (leb-true x.0 k (and_left (leb x.0 k) (all (λ (t : ℕ × Bool). leb t.0 k) xs) p))
    go false f later = rw f later

pub model_bound : (m : Model) (size : ℕ) → lowest (model_tests m size) ≤ 8
unfolding model_tests
model_bound m size = lowest_bound 8 (model_tests m size) refl

-- The answer of the check holds its number, and where that is not 0 it is a refusal.
module _ (m : Model) where
  pub check-number : (check_outcome m).number ≡ check_number m
  unfolding check_outcome
  check-number = go (eqb (check_number m) 0) refl
    where
      go : (b : Bool) → eqb (check_number m) 0 ≡ b → (check_outcome m).number ≡ check_number m
      go true e = rw e (sym (eqb-true (check_number m) 0 e))
      go false e = rw e

  pub check_refuses : (check_number m ≡ 0 → ⊥) → check_outcome m ≡ refused (check_number m) 0
  unfolding check_outcome
  check_refuses h = rw (ne_eqb (check_number m) 0 h)

  -- The same of an answer that is the check's.
  pub number-checked : (checked : Answer) → checked ≡ check_outcome m → checked.number ≡ check_number m
  number-checked checked e = ap (λ (a : Answer). a.number) e ∙ check-number

-- A refusal's number is not that of a call that is accepted.
pub refusal_number : (r : Refusal) → number_of r ≡ 0 → ⊥
refusal_number WrongSize e = omega arith
refusal_number OffsetsAstray e = omega arith
refusal_number BadPiece e = omega arith
refusal_number BadLookup e = omega arith
refusal_number BadFallback e = omega arith
refusal_number BadRow e = omega arith
refusal_number BadToken e = omega arith
refusal_number BadStep e = omega arith
refusal_number (BadText place) e = omega arith
refusal_number NoRawPath e = omega arith
refusal_number ScratchTooShort e = omega arith
refusal_number ResultTooShort e = omega arith
