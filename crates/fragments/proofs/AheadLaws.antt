-- The search ahead of a place for tokens with lstrip. Assumes nothing.
use Rattle.std.specs.Prelude.{None, Some}
use Prim.Native.Nat.{ℕ, suc, ◌+◌, ◌-◌, ◌≤◌, ◌<◌}
use native.Mathlib.Nat.{eq-or-lt_of_le}
use native.Mathlib.Omega.{arith}
use mathlib.Core.Path.{◌≡◌, refl, sym, ap, ◌∙◌}
use mathlib.Core.Bool.{true, false, ◌&&◌}
use mathlib.Core.Logic.{⊎_elim}
use mathlib.Core.List.{List, [], ◌∷◌}
use lib.ListN.{length, drop, get_or, length-drop}
use lib.Seq.{slice, take-length, drop-cons, get_or-drop}
use Rattle.std.specs.List.{list_any, range_with_len}
use Rattle.model.proofs.StringLaws.{length-strings}
use Rattle.utf8.specs.Lists.{find, within, starts_with, count_from}
use Rattle.utf8.specs.Chars.{tail, has_form}
use Rattle.utf8.specs.WhiteSpace.{trim_start}
use Rattle.utf8.specs.inner.Ends.{white_width}
use Rattle.utf8.proofs.Tests.{clash, and_right, and_both}
use Rattle.utf8.proofs.Characters.{char_tails}
use Rattle.utf8.proofs.Trim.{white_width_whole, trim_start_stops, trim_start-next, trim_start_trimmed, white_ends}
use Rattle.model.specs.Model.{TokenList, strings, contents, token_at}
use Rattle.sections.specs.Sections.{white_length}
use Rattle.fragments.specs.inner.Reach.{Edge, places_ahead, stands_at, strips_at}
use Rattle.fragments.proofs.GivenLaws.{Fine}
use Rattle.fragments.proofs.ChoiceLaws.{never}
use Rattle.fragments.proofs.Bounded.{Holding, any_where, any_below_lem, find_skip}
use Rattle.fragments.proofs.BlockLaws.{standing}

-- ---- a test of all rows

pub strips-counted : (t : TokenList) (text : List ℕ) (s n : ℕ) {rest : List ℕ} → n ≡ length t.offsets - 1 → rest ≡ slice s (length text) text
    → list_any (λ (row : ℕ). get_or t.lstrip row false && starts_with (get_or (strings t.bytes t.offsets) row []) rest) (range_with_len 0 n) ≡ strips_at t text s
unfolding strips_at token_at contents stands_at
strips-counted t text s n {rest} e is =
    let rows : n ≡ length (strings t.bytes t.offsets) = e ∙ sym (length-strings t.bytes t.offsets) in
    rw (is ∙ ap (drop s) (take-length text), rows) (any_below_lem (λ (row : ℕ). get_or t.lstrip row false && starts_with (get_or (strings t.bytes t.offsets) row []) (drop s text)) (length (strings t.bytes t.offsets)))

-- ---- a token with lstrip stands within the text, where a character starts

module _ (t : TokenList) (text : List ℕ) (fine : Fine t text) where
  strips-standing : (s : ℕ) → strips_at t text s ≡ true → (s < length text) × Edge text s
  unfolding strips_at
  strips-standing s e = on (any_where (λ (row : ℕ). (token_at t row).lstrip && stands_at t text s row) 0 (length (contents t)) e)
    where
      on : Holding (λ (row : ℕ). (token_at t row).lstrip && stands_at t text s row) 0 (length (contents t)) → (s < length text) × Edge text s
      on w =
          let k = standing t text fine s w.place (omega (arith, w.high)) (and_right (token_at t w.place).lstrip (stands_at t text s w.place) w.holds) in
          (omega (arith, k.inside, k.some), k.starts)

  pub strips-past : (s : ℕ) → length text ≤ s → strips_at t text s ≡ false
  strips-past s h = never (strips_at t text s) (λ e. omega (arith, (strips-standing s e).0))

  -- ---- one character of white space

  module _ (s : ℕ) where
    abbrev w : ℕ
    w = white_width (drop s text)

    inside_tail : (x : ℕ) → s < x → x < s + w → x < length text → has_form (tail ∷ []) (drop x text) ≡ true
    inside_tail x h k l =
        let i = x - s in
        let here : s + i ≡ x = omega arith in
        let byte : within tail (get_or text x 0) ≡ true = ap (λ (n : ℕ). within tail (get_or text n 0)) (sym here) ∙ ap (within tail) (sym (get_or-drop s text i 0)) ∙ char_tails (drop s text) i (omega arith) (omega (arith, white_width_whole (drop s text) (omega arith))) in
        ap (has_form (tail ∷ [])) (drop-cons text x 0 l) ∙ and_both byte refl

    strips_inside : (x : ℕ) → s < x → x < s + w → strips_at t text x ≡ false
    strips_inside x h k = never (strips_at t text x) (λ e. clash (strips-standing x e).1 (inside_tail x h k (strips-standing x e).0))

    pub ahead_found : strips_at t text s ≡ true → find (strips_at t text) (places_ahead text s) ≡ Some s
    unfolding places_ahead
    ahead_found e = rw e

    pub ahead_ended : strips_at t text s ≡ false → w ≡ 0 → find (strips_at t text) (places_ahead text s) ≡ None
    unfolding places_ahead white_length
    ahead_ended e z =
        let none_left : length (drop s text) - length (trim_start (drop s text)) ≡ 0 = omega (arith, ap length (trim_start_stops (drop s text) z)) in
        rw (none_left, e)

    pub ahead_next : s ≤ length text → strips_at t text s ≡ false → 0 < w → find (strips_at t text) (places_ahead text s) ≡ find (strips_at t text) (places_ahead text (s + w))
    unfolding places_ahead white_length
    ahead_next h e pos =
        let next = s + w in
        let same = ap length (trim_start-next text s pos) in
        let short = (trim_start_trimmed (drop next text)).short in
        let more : suc (length (drop s text) - length (trim_start (drop s text))) ≡ w + suc (length (drop next text) - length (trim_start (drop next text))) =
        omega (arith, white_ends text s h, length-drop s text, length-drop next text) in
        ap (λ (n : ℕ). find (strips_at t text) (count_from s n)) more
        ∙ find_skip (strips_at t text) s w (suc (length (drop next text) - length (trim_start (drop next text))))
        (λ x l k. ⊎_elim (λ q. ap (strips_at t text) (sym q) ∙ e) (λ q. strips_inside x q k) (eq-or-lt_of_le l))
