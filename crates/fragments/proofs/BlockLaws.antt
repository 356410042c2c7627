-- Which places the tokens of a list block: those that a block reaches which begins before them, and those that one has ahead of them.
-- Assumes nothing.
use Prim.Native.Nat.{ℕ, suc, ◌+◌, ◌-◌, ◌≤◌, ◌<◌}
use native.Mathlib.Omega.{arith}
use mathlib.Core.Path.{◌≡◌, refl, sym, ap, ◌∙◌}
use mathlib.Core.Bool.{Bool, true, false, not, cond, ◌&&◌, ◌||◌}
use mathlib.Core.Logic.{⊎_elim}
use mathlib.Core.List.{List, [], ◌∷◌, ◌++◌}
use lib.ListN.{length, take, drop, length-drop, take-append-drop}
use lib.Seq.{drop-drop}
use Rattle.utf8.specs.Lists.{is_empty, any, count_from, starts_with, within}
use Rattle.utf8.specs.Chars.{tail, has_form, valid}
use Rattle.utf8.proofs.Tests.{either, clash, and_left, and_right, and_both, or_left, or_right, within_low, within-high, within_in}
use Rattle.utf8.proofs.Elements.{any-false-at, not-empty-long}
use Rattle.utf8.proofs.Starts.{starts_length}
use Rattle.utf8.proofs.Valid.{valid-append, valid-cut}
use Rattle.utf8.proofs.Joins.{starts_rest, valid_starts}
use Rattle.model.specs.Check.{empty_or_no_text, bad_token}
use Rattle.model.specs.Model.{TokenList, contents, token_at}
use Rattle.sections.specs.Sections.{white_length}
use Rattle.fragments.specs.Safe.{makes_blocks, block_start, block_end, block, blocked_by}
use Rattle.fragments.specs.inner.Most.{most}
use Rattle.fragments.specs.inner.Reach.{Edge, places_ahead, stands_at, strips_at, blocked_ahead, blocked_in, reach_of, reach_at, reach}
use Rattle.fragments.proofs.GivenLaws.{Fine}
use Rattle.fragments.proofs.ChoiceLaws.{never, lt-or-le, chosen, positive}
use Rattle.fragments.proofs.Bounded.{Holding, any_here, any_where, most_here, most_where}
use Rattle.fragments.proofs.WhiteLaws.{trimmed, white_end, trimmed_le, trims_behind, ends_before, same_end}

-- ---- where a content stands

pub valid-edge : (u : List ℕ) → valid u ≡ true → has_form (tail ∷ []) u ≡ false
valid-edge [] v = refl
valid-edge (b ∷ u) v = valid_starts (b ∷ u) (omega arith) v

-- A text that is not empty begins as it does with more behind it.
more_behind : (c r : List ℕ) → 0 < length c → has_form (tail ∷ []) (c ++ r) ≡ has_form (tail ∷ []) c
more_behind [] r h = absurd (omega arith)
more_behind (b ∷ c) r h = refl

-- What is known of a content that stands at a place.
pub record Standing (text c : List ℕ) (s : ℕ) : Type 0 where
  pub some : 0 < length c
  pub inside : s + length c ≤ length text
  pub starts : Edge text s
  pub ends : Edge text (s + length c)

module _ (t : TokenList) (text : List ℕ) (fine : Fine t text) where
  abbrev content : ℕ → List ℕ
  content row = (token_at t row).content

  fine-content : (row : ℕ) → row < length (contents t) → empty_or_no_text (content row) ≡ false
  unfolding token_at bad_token
  fine-content row h = any-false-at empty_or_no_text (contents t) row [] fine.contents-fine h

  pub standing : (s row : ℕ) → row < length (contents t) → stands_at t text s row ≡ true → Standing text (content row) s
  unfolding stands_at empty_or_no_text
  standing s row h e =
      let c = content row in
      let some : 0 < length c = not-empty-long c (ap not (or_left (is_empty c) (not (valid c)) (fine-content row h))) in
      let ok : valid c ≡ true = not-not (valid c) (or_right (is_empty c) (not (valid c)) (fine-content row h)) in
      let whole : drop s text ≡ c ++ drop (length c) (drop s text) = starts_rest c (drop s text) e in
      let starts : Edge text s = ap (has_form (tail ∷ [])) whole ∙ more_behind c (drop (length c) (drop s text)) some ∙ valid-edge c ok in
      let all_valid : valid (take s text ++ drop s text) ≡ true = ap valid (take-append-drop s text) ∙ fine.text_valid in
      let rest : valid (drop s text) ≡ true = and_right (valid (take s text)) (valid (drop s text)) (sym (valid-cut (take s text) (drop s text) starts) ∙ all_valid) in
      let behind : valid (drop (length c) (drop s text)) ≡ true = sym (valid-append c (drop (length c) (drop s text)) ok) ∙ sym (ap valid whole) ∙ rest in
      record {
        some = some;
        inside = omega (arith, starts_length c (drop s text) e, length-drop s text, some);
        starts = starts;
        ends = ap (has_form (tail ∷ [])) (sym (drop-drop (length c) s text)) ∙ valid-edge (drop (length c) (drop s text)) behind;
      }
    where
      not-not : (b : Bool) → not b ≡ false → b ≡ true
      not-not true e = refl
      not-not false e = clash e refl

-- ---- blocks

module _ (unguarded : Bool) (t : TokenList) (text : List ℕ) where
  -- A token that blocks stands at a place.
  pub record Occurs (s row : ℕ) : Type 0 where
    pub listed : row < length (contents t)
    pub blocking : makes_blocks unguarded (token_at t row) ≡ true
    pub stands : stands_at t text s row ≡ true

  abbrev end : ℕ → ℕ → ℕ
  end s row = s + length (token_at t row).content

  abbrev far : ℕ → ℕ → ℕ
  far s row = block_end unguarded text (token_at t row) (end s row)

  -- ---- a place that is blocked, and what blocks it

  pub blocked_here : (p s row : ℕ) → Occurs s row → s < length text → block_start text (token_at t row) s ≤ p → p ≤ far s row → blocked_in unguarded t text p ≡ true
  unfolding blocked_in blocked_by block stands_at
  blocked_here p s row o h low high =
      any_here (λ (row : ℕ). blocked_by unguarded text p (token_at t row)) 0 (length (contents t)) row (omega arith) (omega (arith, o.listed))
      (and_both o.blocking
      (any_here (λ (s : ℕ). starts_with (token_at t row).content (drop s text) && within (block unguarded text (token_at t row) s) p) 0 (length text) s (omega arith) (omega arith)
      (and_both o.stands (within_in (block unguarded text (token_at t row) s) p low high))))

  record Blocking (p : ℕ) : Type 0 where
    at : ℕ
    row : ℕ
    occurs : Occurs at row
    before-end : at < length text
    low : block_start text (token_at t row) at ≤ p
    high : p ≤ far at row

  blocked_where : (p : ℕ) → blocked_in unguarded t text p ≡ true → Blocking p
  unfolding blocked_in blocked_by block stands_at
  blocked_where p e =
      let w = any_where (λ (row : ℕ). blocked_by unguarded text p (token_at t row)) 0 (length (contents t)) e in
      let row = w.place in
      let test : ℕ → Bool = λ s. starts_with (token_at t row).content (drop s text) && within (block unguarded text (token_at t row) s) p in
      let v = any_where test 0 (length text) (and_right (makes_blocks unguarded (token_at t row)) _ w.holds) in
      let s = v.place in
      let inside = and_right (starts_with (token_at t row).content (drop s text)) (within (block unguarded text (token_at t row) s) p) v.holds in
      record {
        at = s;
        row = row;
        occurs = record {
          listed = omega (arith, w.high);
          blocking = and_left (makes_blocks unguarded (token_at t row)) _ w.holds;
          stands = and_left (starts_with (token_at t row).content (drop s text)) (within (block unguarded text (token_at t row) s) p) v.holds;
        };
        before-end = omega (arith, v.high);
        low = within_low (block unguarded text (token_at t row) s) p inside;
        high = within-high (block unguarded text (token_at t row) s) p inside;
      }

  -- ---- how far blocks reach

  reach_of_lem : (s row : ℕ) → Occurs s row → reach_of unguarded t text s row ≡ far s row
  unfolding reach_of
  reach_of_lem s row o = rw (and_both o.blocking o.stands)

  pub reach_here : (from to s row : ℕ) → from ≤ s → s < to → Occurs s row → far s row ≤ reach unguarded t text from to
  unfolding reach reach_at
  reach_here from to s row l h o =
      omega (arith, reach_of_lem s row o, most_here (reach_of unguarded t text s) 0 (length (contents t)) row (omega arith) (omega (arith, o.listed)), most_here (reach_at unguarded t text) from (to - from) s l (omega arith))

  -- How far, by a value at a place and a row, the occurrences go whose rows pass a test,
  abbrev pub furthest_of : (ℕ → Bool) → (ℕ → ℕ → ℕ) → ℕ → ℕ → ℕ
  furthest_of test value from to =
      most (λ (s : ℕ). most (λ (row : ℕ). cond (test row && (makes_blocks unguarded (token_at t row) && stands_at t text s row)) (value s row) 0) (count_from 0 (length (contents t)))) (count_from from (to - from))

  -- and the one that goes that far.
  pub record Furthest (test : ℕ → Bool) (value : ℕ → ℕ → ℕ) (from to n : ℕ) : Type 0 where
    pub at : ℕ
    pub row : ℕ
    pub low : from ≤ at
    pub high : at < to
    pub occurs : Occurs at row
    pub passes : test row ≡ true
    pub is : value at row ≡ n

  pub furthest_where : (test : ℕ → Bool) (value : ℕ → ℕ → ℕ) (from to : ℕ) → 0 < furthest_of test value from to → Furthest test value from to (furthest_of test value from to)
  furthest_where test value from to h =
      let counted : ℕ → ℕ → ℕ = λ s row. cond (test row && (makes_blocks unguarded (token_at t row) && stands_at t text s row)) (value s row) 0 in
      let v = most_where (λ (s : ℕ). most (counted s) (count_from 0 (length (contents t)))) from (to - from) h in
      let s = v.place in
      let w = most_where (counted s) 0 (length (contents t)) (omega (arith, v.is)) in
      let row = w.place in
      let both = makes_blocks unguarded (token_at t row) && stands_at t text s row in
      let shown : (test row && both) ≡ true = positive (test row && both) (value s row) (omega (arith, v.is, w.is)) in
      record {
        at = s;
        row = row;
        low = v.low;
        high = omega (arith, v.low, v.high);
        occurs = record {
          listed = omega (arith, w.high);
          blocking = and_left (makes_blocks unguarded (token_at t row)) (stands_at t text s row) (and_right (test row) both shown);
          stands = and_right (makes_blocks unguarded (token_at t row)) (stands_at t text s row) (and_right (test row) both shown);
        };
        passes = and_left (test row) both shown;
        is = sym (chosen (test row && both) (value s row) shown) ∙ w.is ∙ v.is;
      }

  -- the occurrence whose block reaches furthest
  abbrev pub Reaching : ℕ → ℕ → ℕ → Type 0
  Reaching from to n = Furthest (λ (row : ℕ). true) far from to n

  pub reach_where : (from to : ℕ) → 0 < reach unguarded t text from to → Reaching from to (reach unguarded t text from to)
  unfolding reach reach_at reach_of
  reach_where from to h = furthest_where (λ (row : ℕ). true) far from to h

  -- ---- where a block begins and ends

  start-before : (s row p : ℕ) → s < p → block_start text (token_at t row) s ≤ p
  unfolding block_start
  start-before s row p h = go (token_at t row).lstrip
    where
      go : (b : Bool) → cond b (trimmed text s) (s + 1) ≤ p
      go true = omega (arith, trimmed_le text s)
      go false = omega arith

  far_behind : (s row : ℕ) → 0 < length (token_at t row).content → s ≤ far s row
  unfolding block_end
  far_behind s row h = go (token_at t row).rstrip unguarded
    where
      go : (b u : Bool) → s ≤ cond b (white_end text (end s row)) (cond u (end s row) (end s row - 1))
      go true u = omega arith
      go false true = omega arith
      go false false = omega arith

  stripped-start : (s row : ℕ) → (token_at t row).lstrip ≡ true → block_start text (token_at t row) s ≡ trimmed text s
  unfolding block_start
  stripped-start s row e = rw e

  plain-start : (s row : ℕ) → (token_at t row).lstrip ≡ false → block_start text (token_at t row) s ≡ s + 1
  unfolding block_start
  plain-start s row e = rw e

  strip_blocks : (row : ℕ) → (token_at t row).lstrip ≡ true → makes_blocks unguarded (token_at t row) ≡ true
  unfolding makes_blocks
  strip_blocks row e = go (any _ (token_at t row).content) (token_at t row).rstrip
    where
      go : (a r : Bool) → (a || (token_at t row).lstrip || r || unguarded) ≡ true
      go true r = refl
      go false r = rw e

  module _ (fine : Fine t text) where
    known : (s row : ℕ) → Occurs s row → Standing text (token_at t row).content s
    known s row o = standing t text fine s row o.listed o.stands

    -- ---- the laws that a search goes by

    -- Blocks that begin before a place have all up to where they reach.
    pub reach_blocks : (from p q : ℕ) → 0 < p → p ≤ q → q ≤ reach unguarded t text from p → blocked_in unguarded t text q ≡ true
    reach_blocks from p q pos l h =
        let f = reach_where from p (omega arith) in
        let k = known f.at f.row f.occurs in
        blocked_here q f.at f.row f.occurs (omega (arith, k.inside, k.some)) (start-before f.at f.row q (omega (arith, f.high))) (omega (arith, f.is))

    -- A token ahead with lstrip has all from the place to itself.
    pub ahead_blocks : (p s q : ℕ) → Edge text p → strips_at t text s ≡ true → p ≤ s → s ≤ white_end text p → p ≤ q → q ≤ s → blocked_in unguarded t text q ≡ true
    unfolding strips_at
    ahead_blocks p s q edge e l h m n =
        let w = any_where (λ (row : ℕ). (token_at t row).lstrip && stands_at t text s row) 0 (length (contents t)) e in
        let row = w.place in
        let strip = and_left (token_at t row).lstrip (stands_at t text s row) w.holds in
        let stands = and_right (token_at t row).lstrip (stands_at t text s row) w.holds in
        let o : Occurs s row = record { listed = omega (arith, w.high); blocking = strip_blocks row strip; stands = stands } in
        let k = known s row o in
        let inside : s ≤ length text = omega (arith, k.inside) in
        blocked_here q s row o (omega (arith, k.inside, k.some)) (omega (arith, stripped-start s row strip, trims_behind text p s l inside edge k.starts h)) (omega (arith, far_behind s row k.some))

    -- Neither: the place is free.
    pub free : (p : ℕ) → p ≤ length text → Edge text p → reach unguarded t text 0 p < p → blocked_ahead t text p ≡ false → blocked_in unguarded t text p ≡ false
    unfolding blocked_ahead places_ahead strips_at
    free p within_text edge short clear = never (blocked_in unguarded t text p) (λ e. by (blocked_where p e))
      where
        ahead : (b : Blocking p) → p ≤ b.at → (token_at t b.row).lstrip ≡ true → ⊥
        ahead b l strip =
            let k = known b.at b.row b.occurs in
            let inside : b.at ≤ length text = omega (arith, b.before-end) in
            let near : b.at ≤ white_end text p = ends_before text p b.at l inside edge k.starts (omega (arith, stripped-start b.at b.row strip, b.low)) in
            clash clear
            (any_here (strips_at t text) p (suc (white_length (drop p text))) b.at l (omega arith)
            (any_here (λ (row : ℕ). (token_at t row).lstrip && stands_at t text b.at row) 0 (length (contents t)) b.row (omega arith) (omega (arith, b.occurs.listed)) (and_both strip b.occurs.stands)))

        by : Blocking p → ⊥
        by b =
            ⊎_elim (λ (l : b.at < p). omega (arith, reach_here 0 p b.at b.row (omega arith) l b.occurs, b.high, short))
            (λ (l : p ≤ b.at). ⊎_elim (λ e. ahead b l e) (λ e. omega (arith, plain-start b.at b.row e, b.low, l)) (either (token_at t b.row).lstrip))
            (lt-or-le b.at p)

    -- What has no token ahead, the white space behind it has none either.
    pub ahead_kept : (p q : ℕ) → Edge text p → Edge text q → p ≤ q → q ≤ length text → q ≤ white_end text p → blocked_ahead t text p ≡ false → blocked_ahead t text q ≡ false
    unfolding blocked_ahead places_ahead
    ahead_kept p q ep eq l inside near clear =
        never (any (strips_at t text) (places_ahead text q)) (λ e. on (any_where (strips_at t text) q (suc (white_length (drop q text))) e))
      where
        on : Holding (strips_at t text) q (suc (white_length (drop q text))) → ⊥
        on w =
            clash clear
            (any_here (strips_at t text) p (suc (white_length (drop p text))) w.place (omega (arith, w.low)) (omega (arith, w.high, same_end text p q l inside ep eq near)) w.holds)
