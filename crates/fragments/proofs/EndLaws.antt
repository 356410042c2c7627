-- Where tokens that block end, by the columns of their list; and bytes that no content begins with. Assumes nothing.
use Prim.Native.Nat.{ℕ, suc, ◌+◌, ◌-◌, ◌≤◌, ◌<◌, max}
use native.Mathlib.Omega.{arith}
use mathlib.Core.Path.{◌≡◌, refl, sym, ap, ap₂, ◌∙◌}
use mathlib.Core.Bool.{Bool, true, false, beq, cond, ◌&&◌}
use mathlib.Core.List.{List, [], ◌∷◌}
use lib.ListN.{length, drop, get_or}
use lib.Seq.{slice, take-length, drop-cons}
use Rattle.utf8.specs.Lists.{is_empty, count_from, starts_with}
use Rattle.utf8.proofs.Tests.{clash, and_both, or_left}
use Rattle.utf8.proofs.Elements.{any-false-at}
use Rattle.model.specs.Check.{empty_or_no_text, bad_token}
use Rattle.model.specs.Model.{TokenList, Token, strings, contents, token_at}
use Rattle.sections.specs.Beginnings.{begins_with}
use Rattle.sections.specs.inner.Seek.{may_begin}
use Rattle.sections.proofs.SeekLaws.{Sound}
use Rattle.fragments.specs.Safe.{makes_blocks}
use Rattle.fragments.specs.inner.Most.{most}
use Rattle.fragments.specs.inner.Reach.{is_as, stands_at, strips_at, end_of, end_at}
use Rattle.fragments.proofs.GivenLaws.{Longest}
use Rattle.fragments.proofs.ChoiceLaws.{never, second-false, not_chosen}
use Rattle.fragments.proofs.Bounded.{Holding, any_where, most-below}

-- A content against what stands from a place on.
pub same_start : (text : List ℕ) (s : ℕ) {c d part : List ℕ} → c ≡ d → part ≡ slice s (length text) text → starts_with c part ≡ starts_with d (drop s text)
same_start text s e f = ap₂ starts_with e (f ∙ ap (drop s) (take-length text))

-- ---- where the token of a row ends

as_asked : (strip flag : Bool) → is_as strip flag ≡ beq flag strip
as_asked true true = refl
as_asked true false = refl
as_asked false true = refl
as_asked false false = refl

module _ (unguarded strip : Bool) (t : TokenList) (text : List ℕ) (s row : ℕ) where
  abbrev content : List ℕ
  content = get_or (strings t.bytes t.offsets) row []

  abbrev right : Bool
  right = get_or t.rstrip row false

  abbrev stands : Bool
  stands = starts_with content (drop s text)

  abbrev token : Token
  token = record { content = content; id = 0; lstrip = get_or t.lstrip row false; rstrip = right }

  pub end_other : beq right strip ≡ false → 0 ≡ end_of unguarded t text strip s row
  unfolding end_of token_at contents stands_at makes_blocks
  end_other e = not_chosen {b = is_as strip right && (makes_blocks unguarded token && stands)} (s + length content) (rw (as_asked strip right ∙ e))

  pub end-apart : stands ≡ false → 0 ≡ end_of unguarded t text strip s row
  unfolding end_of token_at contents stands_at makes_blocks
  end-apart e = not_chosen (s + length content) (second-false (is_as strip right) (second-false (makes_blocks unguarded token) e))

  pub end_idle : makes_blocks unguarded token ≡ false → 0 ≡ end_of unguarded t text strip s row
  unfolding end_of token_at contents stands_at makes_blocks
  end_idle e = not_chosen (s + length content) (second-false (is_as strip right) (ap (λ (b : Bool). b && stands) e))

  pub end_stands : beq right strip ≡ true → stands ≡ true → makes_blocks unguarded token ≡ true → s + length content ≡ end_of unguarded t text strip s row
  unfolding end_of token_at contents stands_at makes_blocks
  end_stands e f g = sym (picked (and_both (as_asked strip right ∙ e) (and_both g f)))
    where
      picked : {b : Bool} → b ≡ true → cond b (s + length content) 0 ≡ s + length content
      picked q = rw q

-- ---- how far a token can go

module _ (unguarded : Bool) (t : TokenList) (text : List ℕ) (strip : Bool) (longest : ℕ) (bound : Longest t longest) where
  end-most : (s : ℕ) → end_at unguarded t text strip s ≤ s + longest
  unfolding end_at end_of
  end-most s = most-below (end_of unguarded t text strip s) 0 (length (contents t)) (s + longest) (λ row l h. at_most (is_as strip (token_at t row).rstrip && (makes_blocks unguarded (token_at t row) && stands_at t text s row)) (length (token_at t row).content) (bound.bounds row (omega arith)))
    where
      at_most : (b : Bool) (n : ℕ) → n ≤ longest → cond b (s + n) 0 ≤ s + longest
      at_most true n h = omega arith
      at_most false n h = omega arith

  -- Where no token can end beyond what was found, the rest does not matter.
  pub end-passed : (from s far : ℕ) → 0 < s → (s - 1) + longest ≤ far → far ≡ max far (most (end_at unguarded t text strip) (count_from from (s - from)))
  end-passed from s far pos h =
      let low = most-below (end_at unguarded t text strip) from (s - from) far (λ x l k. omega (arith, end-most x)) in
      omega arith

-- ---- bytes that no content begins with

module _ (t : TokenList) (text : List ℕ) (begins : List ℕ) (sound : Sound begins (contents t)) (fine : bad_token (contents t) ≡ false) (s : ℕ) where
  other_start : (c : List ℕ) (b : ℕ) (rest : List ℕ) → is_empty c ≡ false → begins_with b c ≡ false → starts_with c (b ∷ rest) ≡ false
  other_start [] b rest e f = clash e refl
  other_start (x ∷ c) b rest e f = rw f

  not-empty-at : (row : ℕ) → row < length (contents t) → is_empty (get_or (contents t) row []) ≡ false
  unfolding bad_token empty_or_no_text
  not-empty-at row h = or_left (is_empty (get_or (contents t) row [])) _ (any-false-at empty_or_no_text (contents t) row [] fine h)

  none_stands : s < length text → may_begin begins (get_or text s 0) ≡ false → (row : ℕ) → row < length (contents t) → stands_at t text s row ≡ false
  unfolding stands_at token_at
  none_stands h e row l =
      ap (starts_with (get_or (contents t) row [])) (drop-cons text s 0 h)
      ∙ other_start (get_or (contents t) row []) (get_or text s 0) (drop (suc s) text) (not-empty-at row l) (any-false-at (begins_with (get_or text s 0)) (contents t) row [] (sound.none_begins (get_or text s 0) e) l)

  pub none_ends : (unguarded strip : Bool) → s < length text → may_begin begins (get_or text s 0) ≡ false → end_at unguarded t text strip s ≡ 0
  unfolding end_at end_of
  none_ends unguarded strip h e =
      let low = most-below (end_of unguarded t text strip s) 0 (length (contents t)) 0 (λ row l k. omega (arith, not_chosen (s + length (token_at t row).content) (second-false (is_as strip (token_at t row).rstrip) (second-false (makes_blocks unguarded (token_at t row)) (none_stands h e row (omega arith)))))) in
      omega arith

  strip-none : ((row : ℕ) → row < length (contents t) → stands_at t text s row ≡ false) → strips_at t text s ≡ false
  unfolding strips_at
  strip-none f = never (strips_at t text s) (λ q. on (any_where (λ (row : ℕ). (token_at t row).lstrip && stands_at t text s row) 0 (length (contents t)) q))
    where
      both : (a b : Bool) → b ≡ false → (a && b) ≡ true → ⊥
      both true b e q = clash e q
      both false b e q = clash refl q

      on : Holding (λ (row : ℕ). (token_at t row).lstrip && stands_at t text s row) 0 (length (contents t)) → ⊥
      on w = both (token_at t w.place).lstrip (stands_at t text s w.place) (f w.place (omega (arith, w.high))) w.holds

  pub none-strips : s < length text → may_begin begins (get_or text s 0) ≡ false → strips_at t text s ≡ false
  none-strips h e = strip-none (none_stands h e)
