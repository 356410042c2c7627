-- Following a walk item by item gives the sections of a text and the tokens between them.
use Rattle.std.specs.Prelude.{Option, None, Some}
use Prim.Native.Nat.{ℕ, zero, suc, ◌-◌}
use mathlib.Core.Path.{◌≡◌, refl, ◌∙◌}
use mathlib.Core.Bool.{Bool, true, false, cond}
use mathlib.Core.List.{List, [], ◌∷◌, ◌++◌}
use lib.Dec.{ltb, eqb}
use lib.ListN.{length, drop}
use Rattle.utf8.proofs.Places.{empty_by_length}
use Rattle.model.specs.Model.{TokenList, contents, token_at}
use Rattle.model.specs.Check.{bad_token}
use Rattle.model.proofs.StringLaws.{length-strings}
use Rattle.sections.specs.declared.Match.{Match}
use Rattle.sections.specs.Matches.{end, first_match, match_then, matches_for, matches}
use Rattle.sections.specs.Sections.{Item, token, plain, Section, stop_before, start_after, section_of, is_swallowed, sections_from, sections}
use Rattle.sections.specs.inner.Strips.{stop_at, start_at}
use Rattle.sections.specs.inner.Walk.{taken_or, taken_for, token_item, item_at, next_item, sections_start}
use Rattle.sections.specs.declared.Taken.{Taken}
use Rattle.sections.specs.declared.Cursor.{Cursor}
use Rattle.sections.specs.declared.Cursor.TheVariants.{Whole, Seek, Held, Done}
use Rattle.sections.specs.declared.Next.{Next}
use Rattle.sections.specs.declared.Next.TheVariants.{Plain, Added, Finished}
use Rattle.sections.proofs.SeekLaws.{Sound, match_first}

-- What a walk through sections has still to give.
unfoldable pub sections_left : TokenList → List ℕ → Cursor → List (Item Section)
sections_left t text Whole = plain (record { start = 0; stop = length text; opening = true }) ∷ []
sections_left t text (Seek start from turns opening) = sections_from t text start opening (matches_for turns (contents t) text from)
sections_left t text (Held e row turns) =
    token (token_at t row).id ∷ sections_from t text (start_at (token_at t row).rstrip text e) false (matches_for turns (contents t) text e)
sections_left t text Done = []

-- What comes next, and what is left then.
abbrev pub sections_given : TokenList → List ℕ → Next → List (Item Section)
sections_given t text (Plain start stop opening next) = plain (record { start = start; stop = stop; opening = opening }) ∷ sections_left t text next
sections_given t text (Added id next) = token id ∷ sections_left t text next
sections_given t text Finished = []

-- At the start it is all.
pub sections-start : (t : TokenList) (text : List ℕ) → sections_left t text (sections_start t.offsets text) ≡ sections t text
unfolding sections_left sections_start sections matches contents
sections-start t text = rw (empty_by_length (contents t), length-strings t.bytes t.offsets) (go (eqb (length t.offsets - 1) 0))
  where
    go : (b : Bool)
        → sections_left t text (cond b Whole (Seek 0 0 (length text) true))
        ≡ cond b (plain (record { start = 0; stop = length text; opening = true }) ∷ []) (sections_from t text 0 true (matches (contents t) text))
    go true = refl
    go false = refl

-- the same from the match that is taken
abbrev sections_taken : TokenList → List ℕ → ℕ → Bool → Option Taken → List (Item Section)
sections_taken t text start opening None = section_of start (length text) opening
sections_taken t text start opening (Some taken) =
    let row = taken.found.row in
    section_of start (stop_at (token_at t row).lstrip text start taken.found.place) opening
    ++ token (token_at t row).id ∷ sections_from t text (start_at (token_at t row).rstrip text taken.end) false (matches_for taken.turns (contents t) text taken.end)

module _ (t : TokenList) (begins : List ℕ) (sound : Sound begins (contents t)) (fine : bad_token (contents t) ≡ false) (text : List ℕ) where
  by_taken : (turns : ℕ) (start from : ℕ) (opening : Bool)
      → sections_from t text start opening (matches_for turns (contents t) text from) ≡ sections_taken t text start opening (taken_for turns begins (contents t) text start from)
  unfolding stop_before start_after stop_at start_at
  by_taken zero start from opening = refl
  by_taken (suc turns) start from opening =
      rw (match_first begins (contents t) sound fine from (drop from text)) (go (λ f. by_taken turns start f opening) (first_match (contents t) from (drop from text)))
    where
      pick : (m : Match) (b : Bool)
          → sections_from t text start opening (matches_for turns (contents t) text (end (contents t) m)) ≡ sections_taken t text start opening (taken_for turns begins (contents t) text start (end (contents t) m))
          → cond b (sections_from t text start opening (matches_for turns (contents t) text (end (contents t) m)))
          (section_of start (stop_before t text start m) opening ++ token (token_at t m.row).id ∷ sections_from t text (start_after t text m) false (matches_for turns (contents t) text (end (contents t) m)))
          ≡ sections_taken t text start opening (cond b (taken_for turns begins (contents t) text start (end (contents t) m)) (Some (record { found = m; end = end (contents t) m; turns = turns })))
      pick m true e = e
      pick m false e = refl

      go : ((f : ℕ) → sections_from t text start opening (matches_for turns (contents t) text f) ≡ sections_taken t text start opening (taken_for turns begins (contents t) text start f))
          → (o : Option Match)
          → sections_from t text start opening (match_then (λ (m : Match). matches_for turns (contents t) text (end (contents t) m)) o)
          ≡ sections_taken t text start opening (taken_or (contents t) start turns (taken_for turns begins (contents t) text start) o)
      go later None = refl
      go later (Some m) = pick m (is_swallowed start m) (later (end (contents t) m))

  given : (start : ℕ) (opening : Bool) (taken : Option Taken)
      → sections_taken t text start opening taken ≡ sections_given t text (item_at t.ids t.lstrip t.rstrip false text start opening taken)
  unfolding sections_left section_of token_item token_at
  given start opening None = go (ltb start (length text))
    where
      go : (b : Bool) → cond b (plain (record { start = start; stop = length text; opening = opening }) ∷ []) [] ≡ sections_given t text (cond b (Plain start (length text) opening Done) Finished)
      go true = refl
      go false = refl
  given start opening (Some taken) = go (ltb start stop)
    where
      row : ℕ
      row = taken.found.row

      e : ℕ
      e = taken.end

      stop : ℕ
      stop = stop_at (token_at t row).lstrip text start taken.found.place

      go : (b : Bool)
          → cond b (plain (record { start = start; stop = stop; opening = opening }) ∷ []) []
          ++ token (token_at t row).id ∷ sections_from t text (start_at (token_at t row).rstrip text e) false (matches_for taken.turns (contents t) text e)
          ≡ sections_given t text (cond b (Plain start stop opening (Held e row taken.turns)) (token_item t.ids t.rstrip false text e row taken.turns))
      go true = refl
      go false = refl

  -- Each step gives the first of what is left, and leaves the others.
  pub sections_step : (cursor : Cursor) → sections_left t text cursor ≡ sections_given t text (next_item t begins false text cursor)
  unfolding sections_left next_item token_item token_at
  sections_step Whole = refl
  sections_step (Seek start from turns opening) = by_taken turns start from opening ∙ given start opening (taken_for turns begins (contents t) text start from)
  sections_step (Held e row turns) = refl
  sections_step Done = refl
