-- Following a walk afresh gives the parts of a normalized section and the tokens between them.
use Rattle.std.specs.Prelude.{Option, None, Some}
use Prim.Native.Nat.{ℕ, zero, suc, ◌+◌, ◌-◌, ◌≤◌}
use native.Mathlib.Omega.{arith}
use native.Mathlib.Nat.{add-zero, add-suc}
use mathlib.Core.Path.{◌≡◌, refl, sym, ap, ◌∙◌}
use mathlib.Core.Bool.{Bool, true, false, cond}
use mathlib.Core.List.{List, [], ◌∷◌, ◌++◌}
use borrow.Author.Tests.{ltb-true, ltb-false, lt-ltb, le-ltb}
use lib.Dec.{ltb, eqb-suc-zero}
use lib.ListN.{length, take, drop, length-take, length-drop, drop_of_length-le}
use lib.Seq.{slice, drop-drop}
use Rattle.utf8.specs.Lists.{is_empty}
use Rattle.utf8.specs.WhiteSpace.{trim_end}
use Rattle.utf8.proofs.Starts.{not-empty}
use Rattle.utf8.proofs.Places.{slice_of}
use Rattle.utf8.proofs.Trim.{trim_end_trimmed}
use Rattle.model.specs.Model.{TokenList, contents, token_at}
use Rattle.model.specs.Check.{bad_token}
use Rattle.sections.specs.declared.Match.{Match}
use Rattle.sections.specs.Matches.{end, longest_at, match_or, first_match}
use Rattle.sections.specs.Sections.{Item, token, plain, white_length, stop_before, start_after, is_swallowed}
use Rattle.sections.specs.SecondList.{NormalPart, normal_part_of, normal_parts_around, normal_parts_for, normal_parts}
use Rattle.sections.specs.inner.Seek.{match_by}
use Rattle.sections.specs.inner.Strips.{stop_at, start_at}
use Rattle.sections.specs.inner.Walk.{taken_or, taken_for, token_item, item_at, next_item, parts_start}
use Rattle.sections.specs.declared.Cursor.{Cursor}
use Rattle.sections.specs.declared.Cursor.TheVariants.{Whole, Seek, Held, Done}
use Rattle.sections.specs.declared.Next.{Next}
use Rattle.sections.specs.declared.Next.TheVariants.{Plain, Added, Finished}
use Rattle.sections.proofs.SeekLaws.{Sound, match_first}
use Rattle.sections.proofs.StripLaws.{part_end}
use Rattle.sections.proofs.InsideLaws.{match_inside}

-- What a walk through parts has still to give.
unfoldable pub parts_left : TokenList → List ℕ → Cursor → List (Item NormalPart)
parts_left t text Whole = plain (record { bytes = text; first = true }) ∷ []
parts_left t text (Seek start from turns first) = normal_parts_for turns t first (drop start text)
parts_left t text (Held e row turns) = token (token_at t row).id ∷ normal_parts_for turns t false (drop (start_at (token_at t row).rstrip text e) text)
parts_left t text Done = []

-- What comes next, and what is left then.
abbrev pub parts_given : TokenList → List ℕ → Next → List (Item NormalPart)
parts_given t text (Plain start stop first next) = plain (record { bytes = slice start stop text; first = first }) ∷ parts_left t text next
parts_given t text (Added id next) = token id ∷ parts_left t text next
parts_given t text Finished = []

-- At the start it is all.
pub parts-start : (t : TokenList) (first : Bool) (text : List ℕ) → parts_left t text (parts_start text first) ≡ normal_parts t first text
unfolding parts_left parts_start normal_parts
parts-start t first text = refl

-- ---- a match in the rest of a text, as one in the text

abbrev moved : ℕ → Match → Match
moved n match = record { place = n + match.place; row = match.row }

abbrev moved_if : ℕ → Option Match → Option Match
moved_if n None = None
moved_if n (Some match) = Some (moved n match)

moved_match : (contents : List (List ℕ)) (n place : ℕ) (text : List ℕ) → first_match contents (n + place) text ≡ moved_if n (first_match contents place text)
moved_match contents n place [] = refl
moved_match contents n place (b ∷ text) =
    ap (match_or (n + place) (longest_at contents (b ∷ text))) (ap (λ (p : ℕ). first_match contents p text) (sym (add-suc n place)) ∙ moved_match contents n (suc place) text)
    ∙ go (longest_at contents (b ∷ text)) (first_match contents (suc place) text)
  where
    go : (l : Option (ℕ × List ℕ)) (o : Option Match) → match_or (n + place) l (moved_if n o) ≡ moved_if n (match_or place l o)
    go None o = refl
    go (Some c) o = refl

rest_match : (contents : List (List ℕ)) (n : ℕ) (text : List ℕ) → first_match contents n text ≡ moved_if n (first_match contents 0 text)
rest_match contents n text = ap (λ (p : ℕ). first_match contents p text) (sym (add-zero n)) ∙ moved_match contents n 0 text

module _ (t : TokenList) (text : List ℕ) (n : ℕ) (match : Match) where
  abbrev there : Match
  there = moved n match

  end_moved : end (contents t) there ≡ n + end (contents t) match
  unfolding end
  end_moved = omega arith

  stop_moved : stop_at (token_at t match.row).lstrip text n (n + match.place) ≡ n + stop_before t (drop n text) 0 match
  unfolding stop_at stop_before
  stop_moved = go (token_at t match.row).lstrip
    where
      size : n + match.place - n ≡ match.place
      size = omega arith

      same : slice n (n + match.place) text ≡ take match.place (drop n text)
      same = sym (slice_of n (n + match.place) text) ∙ ap (λ (k : ℕ). take k (drop n text)) size

      go : (b : Bool)
          → cond b (n + length (trim_end (slice n (n + match.place) text))) (n + match.place)
          ≡ n + cond b (0 + length (trim_end (take match.place (drop n text)))) match.place
      go true = rw same (omega arith)
      go false = refl

  start_moved : start_at (token_at t match.row).rstrip text (end (contents t) there) ≡ n + start_after t (drop n text) match
  unfolding start_at start_after
  start_moved = rw end_moved (go (token_at t match.row).rstrip)
    where
      e : ℕ
      e = end (contents t) match

      go : (b : Bool) → cond b (n + e + white_length (drop (n + e) text)) (n + e) ≡ n + cond b (e + white_length (drop e (drop n text))) e
      go true = rw (drop-drop e n text) (omega arith)
      go false = refl

  stop-below : stop_before t (drop n text) 0 match ≤ match.place
  unfolding stop_before
  stop-below = go (token_at t match.row).lstrip
    where
      go : (b : Bool) → cond b (0 + length (trim_end (take match.place (drop n text)))) match.place ≤ match.place
      go true = omega (arith, (trim_end_trimmed (take match.place (drop n text))).short, length-take match.place (drop n text))
      go false = omega arith

-- ---- one step

abbrev part_item : List ℕ → Bool → Item NormalPart
part_item bytes first = plain (record { bytes = bytes; first = first })

module _ (text : List ℕ) (start : ℕ) (first : Bool) where
  -- a part by its places
  part_by_places : (k : ℕ) → k ≤ length (drop start text)
      → normal_part_of (take k (drop start text)) first ≡ cond (ltb start (start + k)) (part_item (slice start (start + k) text) first ∷ []) []
  unfolding normal_part_of
  part_by_places zero h = rw (le-ltb start (start + 0) (omega arith))
  part_by_places (suc k) h = rw (long (drop start text) h, lt-ltb start (start + suc k) (omega arith), bytes)
    where
      size : start + suc k - start ≡ suc k
      size = omega arith

      bytes : slice start (start + suc k) text ≡ take (suc k) (drop start text)
      bytes = sym (slice_of start (start + suc k) text) ∙ ap (λ (n : ℕ). take n (drop start text)) size

      long : (l : List ℕ) → suc k ≤ length l → is_empty (take (suc k) l) ≡ false
      long [] h = absurd (omega arith)
      long (x ∷ l) h = refl

  last-part : normal_part_of (drop start text) first ≡ cond (ltb start (length text)) (part_item (slice start (length text) text) first ∷ []) []
  unfolding normal_part_of
  last-part = go (ltb start (length text)) refl
    where
      go : (b : Bool) → ltb start (length text) ≡ b → cond (is_empty (drop start text)) [] (part_item (drop start text) first ∷ []) ≡ cond b (part_item (slice start (length text) text) first ∷ []) []
      go true e = rw (not-empty (drop start text) (omega (arith, ltb-true start (length text) e, length-drop start text)), part_end text start)
      go false e = rw (drop_of_length-le text (ltb-false start (length text) e))

module _ (t : TokenList) (begins : List ℕ) (sound : Sound begins (contents t)) (fine : bad_token (contents t) ≡ false) (text : List ℕ) where
  module _ (start turns : ℕ) (opening : Bool) where
    abbrev rest : List ℕ
    rest = drop start text

    found : match_by begins (contents t) start rest ≡ moved_if start (first_match (contents t) 0 rest)
    found = match_first begins (contents t) sound fine start rest ∙ rest_match (contents t) start rest

    given : (o : Option Match) → first_match (contents t) 0 rest ≡ o
        → normal_parts_around t (normal_parts_for turns t false) opening rest o
        ≡ parts_given t text (item_at t.ids t.lstrip t.rstrip true text start opening (taken_or (contents t) start turns (taken_for turns begins (contents t) text start) (moved_if start o)))
    unfolding parts_left token_item token_at is_swallowed end
    given None e = last-part text start opening ∙ go (ltb start (length text))
      where
        go : (b : Bool) → cond b (part_item (slice start (length text) text) opening ∷ []) [] ≡ parts_given t text (cond b (Plain start (length text) opening Done) Finished)
        go true = refl
        go false = refl
    given (Some m) e =
        rw (le-ltb (start + m.place) start (omega arith))
        (rw (stop_moved t text start m, part_by_places text start opening k inside, behind) (go (ltb start (start + k))))
      where
        k : ℕ
        k = stop_before t rest 0 m

        next : ℕ
        next = start_at (token_at t m.row).rstrip text (end (contents t) (moved start m))

        inside : k ≤ length rest
        inside =
            omega (arith, stop-below t text start m, match_inside begins (contents t) rest 0 m (match_first begins (contents t) sound fine 0 rest ∙ e))

        behind : drop (start_after t rest m) rest ≡ drop next text
        behind = drop-drop (start_after t rest m) start text ∙ ap (λ (n : ℕ). drop n text) (sym (start_moved t text start m))

        go : (b : Bool)
            → cond b (part_item (slice start (start + k) text) opening ∷ []) [] ++ token (token_at t m.row).id ∷ normal_parts_for turns t false (drop next text)
            ≡ parts_given t text (cond b (Plain start (start + k) opening (Held (end (contents t) (moved start m)) m.row turns)) (token_item t.ids t.rstrip true text (end (contents t) (moved start m)) m.row turns))
        go true = refl
        go false = refl

  -- Each step gives the first of what is left, and leaves the others.
  pub parts_step : (cursor : Cursor) → parts_left t text cursor ≡ parts_given t text (next_item t begins true text cursor)
  unfolding parts_left next_item token_item token_at
  parts_step Whole = rw (part_end text 0)
  parts_step (Seek start from zero opening) = refl
  parts_step (Seek start from (suc turns) opening) =
      rw (eqb-suc-zero turns, found start turns opening) (given start turns opening (first_match (contents t) 0 (drop start text)) refl)
  parts_step (Held e row turns) = refl
  parts_step Done = refl
