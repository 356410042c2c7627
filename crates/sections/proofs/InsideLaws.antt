-- A match lies within its text, and its content stands there.
use Rattle.std.specs.Prelude.{Option, None, Some}
use Prim.Native.Nat.{ℕ, zero, suc, ◌+◌, ◌≤◌, ◌<◌}
use native.Mathlib.Omega.{arith}
use native.Mathlib.Nat.{suc-add, add-suc}
use mathlib.Core.Path.{◌≡◌, refl, sym, ap, subst, ◌∙◌}
use mathlib.Core.Bool.{Bool, true, false, cond}
use mathlib.Core.Logic.{⊎_elim}
use mathlib.Core.List.{List, [], ◌∷◌}
use borrow.Author.Tests.{ltb-true, ltb-false}
use lib.Dec.{leb, ltb}
use lib.ListN.{length, get_or, drop, length-drop, drop_of_length-le}
use Rattle.utf8.specs.Lists.{filter, numbered, starts_with}
use Rattle.utf8.proofs.Tests.{either}
use Rattle.utf8.proofs.Starts.{starts_length}
use Rattle.utf8.proofs.Places.{length-numbered}
use Rattle.sections.specs.declared.Match.{Match}
use Rattle.sections.specs.Matches.{end, longer, longest, longest_at}
use Rattle.sections.specs.inner.Seek.{may_begin, row_in, row_at, placed, match_by}
use Rattle.sections.proofs.SeekLaws.{numbered-at}

-- A content with its row that stands at the head of the text.
record Standing (contents : List (List ℕ)) (text : List ℕ) (c : ℕ × List ℕ) : Type 0 where
  is : c.1 ≡ get_or contents c.0 []
  starts : starts_with c.1 text ≡ true

not_none : {A B : Type 0} {a : A} → None ≡ Some a → B
not_none {a = a} q = let z : ◌≡◌ {A = ℕ} 0 1 = cc in absurd (omega arith)

module _ (contents : List (List ℕ)) (text : List ℕ) where
  abbrev rest : ℕ → List (ℕ × List ℕ)
  rest i = filter (λ (c : ℕ × List ℕ). starts_with c.1 text) (drop i (numbered contents))

  from_row : (i : ℕ) → i < length contents → (t : Bool) → starts_with (get_or contents i []) text ≡ t → rest i ≡ cond t ((i, get_or contents i []) ∷ rest (suc i)) (rest (suc i))
  from_row i h t e = rw (numbered-at contents i h, e)

  longest_stands : (k i : ℕ) → i + k ≡ length contents → (c : ℕ × List ℕ) → longest (rest i) ≡ Some c → Standing contents text c
  longest_stands zero i e c q =
      not_none (sym (ap (λ (l : List (ℕ × List ℕ)). longest (filter (λ (c : ℕ × List ℕ). starts_with c.1 text) l)) (drop_of_length-le (numbered contents) {i = i} (omega (arith, length-numbered contents)))) ∙ q)
  longest_stands (suc k) i e c q = go (longest_stands k (suc i) (omega (arith, suc-add i k, add-suc i k))) (starts_with (get_or contents i []) text) refl (longest (rest (suc i))) refl
    where
      row : ℕ × List ℕ
      row = (i, get_or contents i [])

      Later : Type 0
      Later = (d : ℕ × List ℕ) → longest (rest (suc i)) ≡ Some d → Standing contents text d

      here : starts_with (get_or contents i []) text ≡ true → Some row ≡ Some c → Standing contents text c
      here f s = let same : row ≡ c = cc in subst (Standing contents text) same (record { is = refl; starts = f })

      pick : Later → (b : Bool) (d : ℕ × List ℕ) → starts_with (get_or contents i []) text ≡ true → longest (rest (suc i)) ≡ Some d → Some (cond b row d) ≡ Some c → Standing contents text c
      pick later true d f l s = here f s
      pick later false d f l s = later c (l ∙ s)

      go : Later → (t : Bool) → starts_with (get_or contents i []) text ≡ t → (o : Option (ℕ × List ℕ)) → longest (rest (suc i)) ≡ o → Standing contents text c
      go later false f o l = later c (sym (ap longest (from_row i (omega arith) false f)) ∙ q)
      go later true f None l = here f (sym (ap longest (from_row i (omega arith) true f) ∙ ap (λ (o : Option (ℕ × List ℕ)). Some (longer row o)) l) ∙ q)
      go later true f (Some d) l = pick later (leb (length d.1) (length (get_or contents i []))) d f l (sym (ap longest (from_row i (omega arith) true f) ∙ ap (λ (o : Option (ℕ × List ℕ)). Some (longer row o)) l) ∙ q)

  -- the content of the row that is found is no longer than the text
  row_inside : (row : ℕ) → row_at contents text ≡ Some row → length (get_or contents row []) ≤ length text
  unfolding row_at longest_at
  row_inside row q = go (longest (rest 0)) refl q
    where
      go : (o : Option (ℕ × List ℕ)) → longest (rest 0) ≡ o → row_in o ≡ Some row → length (get_or contents row []) ≤ length text
      go None l s = not_none s
      go (Some c) l s =
          let stands = longest_stands (length contents) 0 (omega arith) c l in
          let same : c.0 ≡ row = cc in
          let content : get_or contents row [] ≡ c.1 = ap (λ (r : ℕ). get_or contents r []) (sym same) ∙ sym stands.is in
          omega (arith, ap length content, starts_length c.1 text stands.starts)

module _ (begins : List ℕ) (contents : List (List ℕ)) where
  ends_inside : (place : ℕ) (text : List ℕ) (match : Match) → match_by begins contents place text ≡ Some match → end contents match ≤ place + length text
  unfolding end
  ends_inside place [] match q = not_none q
  ends_inside place (b ∷ text) match q = go (λ e. ends_inside (suc place) text match e) (may_begin begins b) (row_at contents (b ∷ text)) refl q
    where
      Within : ℕ → List ℕ → Type 0
      Within p t = match.place + length (get_or contents match.row []) ≤ p + length t

      go : (match_by begins contents (suc place) text ≡ Some match → Within (suc place) text)
          → (t : Bool) (o : Option ℕ) → row_at contents (b ∷ text) ≡ o → placed place (cond t o None) (match_by begins contents (suc place) text) ≡ Some match → Within place (b ∷ text)
      go later false o e s = omega (arith, later s)
      go later true None e s = omega (arith, later s)
      go later true (Some row) e s =
          let same : ◌≡◌ {A = Match} (record { place = place; row = row }) match = cc in
          let at : place ≡ match.place = ap (λ (m : Match). m.place) same in
          let of : get_or contents row [] ≡ get_or contents match.row [] = ap (λ (m : Match). get_or contents m.row []) same in
          omega (arith, at, ap length of, row_inside contents (b ∷ text) row e)

  -- A match ends within its text.
  pub match_inside : (text : List ℕ) (from : ℕ) (match : Match) → match_by begins contents from (drop from text) ≡ Some match → end contents match ≤ length text
  match_inside text from match q =
      ⊎_elim (λ e. omega (arith, ltb-true from (length text) e, ends_inside from (drop from text) match q, length-drop from text))
      (λ e. not_none (sym (ap (match_by begins contents from) (drop_of_length-le text (ltb-false from (length text) e))) ∙ q))
      (either (ltb from (length text)))
