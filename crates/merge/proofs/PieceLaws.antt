-- Laws of the pieces that ids stand for, in an accepted model: merges keep the bytes that ids spell, the starting ids of a character
-- that is not dropped spell it, and ids whose strings no piece reaches across merge apart or joined alike. Assumes nothing.
use Rattle.std.specs.Prelude.{Option, None, Some}
use Rattle.std.proofs.lemmas.Option.{none-some, same_Some}
use Prim.Native.Nat.{ℕ, ◌<◌}
use native.Mathlib.Omega.{arith}
use mathlib.Core.Path.{◌≡◌, refl, sym, ap, ap₂, ◌∙◌, subst}
use mathlib.Core.Bool.{Bool, true, false, not, cond, ◌&&◌, ◌||◌}
use mathlib.Core.List.{List, [], ◌∷◌, ◌++◌, map, append_assoc, append-nil}
use borrow.Author.Tests.{ltb-true, ltb-false, eqb-true, eq-eqb}
use lib.Dec.{eqb, ltb}
use lib.ListN.{length, get_or, length-append, get_or-eq_default}
use Rattle.utf8.specs.Lists.{is_empty, all, any, join, join_map, numbered, zip, same}
use Rattle.utf8.proofs.Tests.{clash, and_left, and_right, and_both, or_left, or_right}
use Rattle.utf8.proofs.Lists.{join-append, all_append}
use Rattle.utf8.proofs.Places.{any_append, all_holds, length-zip, get_or_zip, length-numbered, get_or_numbered}
use Rattle.utf8.proofs.Starts.{same-eq, not-empty}
use Rattle.utf8.proofs.Elements.{all_join, all_one, map-one, not-empty-long}
use Rattle.utf8.proofs.Joins.{find-some, join_map-append, join_map-join}
use Rattle.model.specs.Model.{Model, Row, piece, pieces_of, lookup_id, no_id, fallback_id, rows_of, row_of, merge_rows}
use Rattle.model.specs.Check.{fallback_fits, rows_join}
use Rattle.model.proofs.RowLaws.{length-rows, row_is}
use Rattle.model.proofs.Accepted.{Accepted}
use Rattle.model.proofs.ReachLaws.{NoPieceOver, StringsApart}
use Rattle.merge.specs.Merge.{Candidate, next_merge, merged_at, merged}
use Rattle.merge.specs.Start.{vocabulary_of, if_any, is_missing, own_id, fallback_ids, starting_ids, is_dropped, lacks_byte, starting_ids_by, is_dropped_by}
use Rattle.merge.proofs.NextLaws.{NoRow, next_found, merged-is}
use Rattle.merge.proofs.MergedLaws.{Apart, by_merges, merged-none, merged_step, merged-apart}

-- The bytes that ids stand for.
abbrev pub spelling : List (List ℕ) → List ℕ → List ℕ
spelling pieces ids = join_map (piece pieces) ids

-- Its piece is not empty.
abbrev pub has_bytes : List (List ℕ) → ℕ → Bool
has_bytes pieces id = not (is_empty (piece pieces id))

some_bytes : (pieces : List (List ℕ)) (id : ℕ) → has_bytes pieces id ≡ true → 0 < length (piece pieces id)
some_bytes pieces id e = not-empty-long (piece pieces id) e

bytes-some : (pieces : List (List ℕ)) (id : ℕ) → 0 < length (piece pieces id) → has_bytes pieces id ≡ true
bytes-some pieces id h = ap not (not-empty (piece pieces id) h)

join-join : (units : List (List (List ℕ))) → join (map join units) ≡ join (join units)
join-join [] = refl
join-join (unit ∷ units) = ap (λ (l : List ℕ). join unit ++ l) (join-join units) ∙ sym (join-append unit (join units))

no_row_lem : Row
no_row_lem = record { left = 0; right = 0; result = 0; rank = 0 }

module _ (m : Model) (ok : Accepted m) where
  module _ (i : ℕ) (inside : i < length m.left) where
    result_joins : (ℕ × ℕ) × ℕ → Bool
    result_joins row = same (piece (pieces_of m) row.1) (piece (pieces_of m) row.0.0 ++ piece (pieces_of m) row.0.1)

    joins_at : piece (pieces_of m) (get_or m.result i 0) ≡ piece (pieces_of m) (get_or m.left i 0) ++ piece (pieces_of m) (get_or m.right i 0)
    unfolding rows_join result_joins
    joins_at =
        let rights : i < length m.right = omega (arith, ok.sizes.rows.rights) in
        let results : i < length m.result = omega (arith, ok.sizes.rows.results) in
        let both : i < length (zip (zip m.left m.right) m.result) = rw (length-zip, length-zip) (omega arith) in
        let at =
        get_or_zip (zip m.left m.right) m.result i (0, 0) 0 (rw length-zip (omega arith)) results
        ∙ ap {B = (ℕ × ℕ) × ℕ} (λ (p : ℕ × ℕ). (p, get_or m.result i 0)) (get_or_zip m.left m.right i 0 0 inside rights) in
        same-eq (piece (pieces_of m) (get_or m.result i 0)) (piece (pieces_of m) (get_or m.left i 0) ++ piece (pieces_of m) (get_or m.right i 0))
        (ap result_joins (sym at) ∙ all_holds result_joins (zip (zip m.left m.right) m.result) i ((0, 0), 0) ok.rows_joined both)

  -- A row's result stands for what its pair stands for.
  pub row_joins : (a b : ℕ) (r : Row) → row_of (merge_rows m) a b ≡ Some r → piece (pieces_of m) r.result ≡ piece (pieces_of m) a ++ piece (pieces_of m) b
  unfolding merge_rows row_of
  row_joins a b r e =
      let f = find-some (λ (row : Row). eqb row.left a && eqb row.right b) (rows_of m.left m.right m.result m.rank) no_row_lem r e in
      let inside : f.place < length m.left = omega (arith, f.inside, length-rows m.left m.right m.result m.rank) in
      let is = sym (row_is m.left m.right m.result m.rank f.place no_row_lem inside) ∙ f.there in
      let left : r.left ≡ a = eqb-true r.left a (and_left (eqb r.left a) (eqb r.right b) f.passes) in
      let right : r.right ≡ b = eqb-true r.right b (and_right (eqb r.left a) (eqb r.right b) f.passes) in
      ap (λ (x : Row). piece (pieces_of m) x.result) (sym is)
      ∙ joins_at f.place inside
      ∙ ap (λ (x : Row). piece (pieces_of m) x.left ++ piece (pieces_of m) x.right) is
      ∙ ap₂ (λ (x y : ℕ). piece (pieces_of m) x ++ piece (pieces_of m) y) left right

  -- ---- merges keep what ids spell, and that no piece is empty

  module _ (ids : List ℕ) (c : Candidate) (e : next_merge (row_of (merge_rows m)) ids ≡ Some c) where
    pub merge_spells : spelling (pieces_of m) (merged_at c ids) ≡ spelling (pieces_of m) ids
    merge_spells =
        let f = next_found (row_of (merge_rows m)) ids c e in
        let sp = spelling (pieces_of m) in
        ap sp (merged-is (row_of (merge_rows m)) f)
        ∙ join_map-append (piece (pieces_of m)) f.front (c.row.result ∷ f.back)
        ∙ ap (λ (l : List ℕ). sp f.front ++ (l ++ sp f.back)) (row_joins f.left f.right c.row f.has)
        ∙ ap (λ (l : List ℕ). sp f.front ++ l) (append_assoc (piece (pieces_of m) f.left) (piece (pieces_of m) f.right) (sp f.back))
        ∙ sym (join_map-append (piece (pieces_of m)) f.front (f.left ∷ f.right ∷ f.back))
        ∙ ap sp (sym f.whole)

    pub merge_has_bytes : all (has_bytes (pieces_of m)) ids ≡ true → all (has_bytes (pieces_of m)) (merged_at c ids) ≡ true
    merge_has_bytes h =
        let f = next_found (row_of (merge_rows m)) ids c e in
        let has = has_bytes (pieces_of m) in
        let parts : (all has f.front && (has f.left && (has f.right && all has f.back))) ≡ true =
        sym (all_append has f.front (f.left ∷ f.right ∷ f.back)) ∙ ap (all has) (sym f.whole) ∙ h in
        let pair = and_right (all has f.front) (has f.left && (has f.right && all has f.back)) parts in
        let left = some_bytes (pieces_of m) f.left (and_left (has f.left) (has f.right && all has f.back) pair) in
        let long : 0 < length (piece (pieces_of m) c.row.result) =
        omega (arith, ap length (row_joins f.left f.right c.row f.has), length-append (piece (pieces_of m) f.left) (piece (pieces_of m) f.right)) in
        ap (all has) (merged-is (row_of (merge_rows m)) f)
        ∙ all_append has f.front (c.row.result ∷ f.back)
        ∙ and_both (and_left (all has f.front) (has f.left && (has f.right && all has f.back)) parts)
        (and_both (bytes-some (pieces_of m) c.row.result long)
        (and_right (has f.right) (all has f.back) (and_right (has f.left) (has f.right && all has f.back) pair)))

  -- The merged ids spell what the ids spelled.
  pub merged_spells : (ids : List ℕ) → spelling (pieces_of m) (merged (row_of (merge_rows m)) ids) ≡ spelling (pieces_of m) ids
  merged_spells =
      by_merges (row_of (merge_rows m)) (λ (ids : List ℕ). spelling (pieces_of m) (merged (row_of (merge_rows m)) ids) ≡ spelling (pieces_of m) ids)
      (λ ids e. ap (spelling (pieces_of m)) (merged-none (row_of (merge_rows m)) ids e))
      (λ ids c e h. ap (spelling (pieces_of m)) (merged_step (row_of (merge_rows m)) ids c e) ∙ h ∙ merge_spells ids c e)

  -- ---- lists of ids whose strings no piece reaches across

  -- No piece reaches over a border of what the lists spell, and no id's piece is empty.
  pub record SpelledApart (units : List (List ℕ)) : Type 0 where
    pub apart : StringsApart (pieces_of m) (map (spelling (pieces_of m)) units)
    pub bytes : all (all (has_bytes (pieces_of m))) units ≡ true

  no_row : (ids : List ℕ) (units : List (List ℕ)) → NoPieceOver (pieces_of m) (spelling (pieces_of m) ids) (join (map (spelling (pieces_of m)) units))
      → all (has_bytes (pieces_of m)) ids ≡ true → all (all (has_bytes (pieces_of m))) units ≡ true → NoRow (row_of (merge_rows m)) ids (join units)
  no_row ids units over here there front back a b p q = go (row_of (merge_rows m) a b) refl
    where
      last : all (has_bytes (pieces_of m)) (front ++ (a ∷ [])) ≡ true
      last = ap (all (has_bytes (pieces_of m))) (sym p) ∙ here

      first : all (has_bytes (pieces_of m)) (b ∷ back) ≡ true
      first = ap (all (has_bytes (pieces_of m))) (sym q) ∙ sym (all_join (has_bytes (pieces_of m)) units) ∙ there

      go : (o : Option Row) → row_of (merge_rows m) a b ≡ o → row_of (merge_rows m) a b ≡ None
      go None e = e
      go (Some r) e =
          absurd
          (over (spelling (pieces_of m) front) (piece (pieces_of m) a) (piece (pieces_of m) b) (spelling (pieces_of m) back)
          (some_bytes (pieces_of m) a
          (and_left (has_bytes (pieces_of m) a) true
          (and_right (all (has_bytes (pieces_of m)) front) (has_bytes (pieces_of m) a && true) (sym (all_append (has_bytes (pieces_of m)) front (a ∷ [])) ∙ last))))
          (some_bytes (pieces_of m) b (and_left (has_bytes (pieces_of m) b) (all (has_bytes (pieces_of m)) back) first))
          (ap (spelling (pieces_of m)) p ∙ join_map-append (piece (pieces_of m)) front (a ∷ []) ∙ ap (λ (l : List ℕ). spelling (pieces_of m) front ++ l) (append-nil (piece (pieces_of m) a)))
          (join_map-join (piece (pieces_of m)) units ∙ ap (spelling (pieces_of m)) q)
          r.result (row_joins a b r e))

  spelled_apart : (units : List (List ℕ)) → StringsApart (pieces_of m) (map (spelling (pieces_of m)) units) → all (all (has_bytes (pieces_of m))) units ≡ true → Apart (row_of (merge_rows m)) units
  spelled_apart [] apart bytes = tt
  spelled_apart (ids ∷ units) apart bytes =
      let here = and_left (all (has_bytes (pieces_of m)) ids) (all (all (has_bytes (pieces_of m))) units) bytes in
      let there = and_right (all (has_bytes (pieces_of m)) ids) (all (all (has_bytes (pieces_of m))) units) bytes in
      (no_row ids units apart.0 here there, spelled_apart units apart.1 there)

  kept : (before : List (List ℕ)) (ids : List ℕ) (after : List (List ℕ)) (c : Candidate) → next_merge (row_of (merge_rows m)) ids ≡ Some c
      → SpelledApart (before ++ ids ∷ after) → SpelledApart (before ++ merged_at c ids ∷ after)
  kept before ids after c e k =
      record {
        apart = subst (StringsApart (pieces_of m)) (sym (map-one (spelling (pieces_of m)) before after (merged_at c ids) ids (merge_spells ids c e))) k.apart;
        bytes = all_one (all (has_bytes (pieces_of m))) before after ids (merged_at c ids) (merge_has_bytes ids c e) k.bytes;
      }

  -- Merging such lists apart gives what merging them joined gives.
  pub units-merge : (units : List (List ℕ)) → SpelledApart units → merged (row_of (merge_rows m)) (join units) ≡ join (map (merged (row_of (merge_rows m))) units)
  units-merge = merged-apart (row_of (merge_rows m)) SpelledApart (λ units k. spelled_apart units k.apart k.bytes) kept

  -- ---- starting ids

  own_spells : (char : List ℕ) (id : ℕ) → own_id (vocabulary_of m) char ≡ Some id → piece (pieces_of m) id ≡ char
  unfolding own_id vocabulary_of lookup_id
  own_spells char id e =
      let f = find-some (λ (id : ℕ). same (piece (pieces_of m) id) char) m.lookup 0 id e in
      same-eq (piece (pieces_of m) id) char f.passes

  fallback_spells : (b id : ℕ) → fallback_id m.fallback b ≡ Some id → piece (pieces_of m) id ≡ b ∷ []
  unfolding fallback_id fallback_fits
  fallback_spells b id e = go (ltb b (length m.fallback)) (eqb (get_or m.fallback b no_id) no_id) refl refl e
    where
      go : (x y : Bool) → ltb b (length m.fallback) ≡ x → eqb (get_or m.fallback b no_id) no_id ≡ y → cond y None (Some (get_or m.fallback b no_id)) ≡ Some id → piece (pieces_of m) id ≡ b ∷ []
      go x true p q e = absurd (none-some id e)
      go false false p q e =
          clash q (eq-eqb (get_or m.fallback b no_id) no_id (get_or-eq_default m.fallback no_id (ltb-false b (length m.fallback) p)))
      go true false p q e =
          let inside = ltb-true b (length m.fallback) p in
          let at = get_or_numbered m.fallback b 0 no_id inside in
          let fits : (eqb (get_or m.fallback b no_id) no_id || ltb (get_or m.fallback b no_id) (length (pieces_of m)) && same (piece (pieces_of m) (get_or m.fallback b no_id)) (b ∷ [])) ≡ true =
          ap (fallback_fits (pieces_of m)) (sym at) ∙ all_holds (fallback_fits (pieces_of m)) (numbered m.fallback) b (0, no_id) ok.fallback_fit (omega (arith, length-numbered m.fallback)) in
          let known = ap (λ (t : Bool). t || ltb (get_or m.fallback b no_id) (length (pieces_of m)) && same (piece (pieces_of m) (get_or m.fallback b no_id)) (b ∷ [])) (sym q) ∙ fits in
          ap (piece (pieces_of m)) (sym (same_Some (get_or m.fallback b no_id) id e))
          ∙ same-eq (piece (pieces_of m) (get_or m.fallback b no_id)) (b ∷ [])
          (and_right (ltb (get_or m.fallback b no_id) (length (pieces_of m))) (same (piece (pieces_of m) (get_or m.fallback b no_id)) (b ∷ [])) known)

  -- Ids that spell a string and have no empty piece.
  pub record Spells (string ids : List ℕ) : Type 0 where
    pub spelled : spelling (pieces_of m) ids ≡ string
    pub bytes : all (has_bytes (pieces_of m)) ids ≡ true

  spells_append : (s t xs ys : List ℕ) → Spells s xs → Spells t ys → Spells (s ++ t) (xs ++ ys)
  spells_append s t xs ys p q =
      record {
        spelled = join_map-append (piece (pieces_of m)) xs ys ∙ ap₂ {C = List ℕ} ◌++◌ p.spelled q.spelled;
        bytes = all_append (has_bytes (pieces_of m)) xs ys ∙ and_both p.bytes q.bytes;
      }

  spells_nil : Spells [] []
  spells_nil = record { spelled = refl; bytes = refl }

  one_spells : (string : List ℕ) (id : ℕ) → 0 < length string → piece (pieces_of m) id ≡ string → Spells string (id ∷ [])
  one_spells string id pos e =
      record {
        spelled = append-nil (piece (pieces_of m) id) ∙ e;
        bytes = and_both (bytes-some (pieces_of m) id (omega (arith, ap length e))) refl;
      }

  fallbacks_spell : (bytes : List ℕ) → any (λ (b : ℕ). is_missing (fallback_id m.fallback b)) bytes ≡ false → Spells bytes (join_map (λ (b : ℕ). if_any (fallback_id m.fallback b)) bytes)
  fallbacks_spell [] e = spells_nil
  fallbacks_spell (b ∷ bytes) e =
      spells_append (b ∷ []) bytes (if_any (fallback_id m.fallback b)) (join_map (λ (b : ℕ). if_any (fallback_id m.fallback b)) bytes)
      (go (fallback_id m.fallback b) refl (or_left (is_missing (fallback_id m.fallback b)) (any (λ (b : ℕ). is_missing (fallback_id m.fallback b)) bytes) e))
      (fallbacks_spell bytes (or_right (is_missing (fallback_id m.fallback b)) (any (λ (b : ℕ). is_missing (fallback_id m.fallback b)) bytes) e))
    where
      go : (o : Option ℕ) → fallback_id m.fallback b ≡ o → is_missing o ≡ false → Spells (b ∷ []) (if_any o)
      go None p q = clash q refl
      go (Some id) p q = one_spells (b ∷ []) id (omega arith) (fallback_spells b id p)

  -- The starting ids of a character that is not dropped spell it.
  pub start_spells : (char : List ℕ) → 0 < length char → is_dropped (vocabulary_of m) char ≡ false → Spells char (starting_ids (vocabulary_of m) char)
  unfolding is_dropped is_dropped_by lacks_byte starting_ids starting_ids_by fallback_ids vocabulary_of
  start_spells char pos e = go (own_id (vocabulary_of m) char) refl e
    where
      go : (o : Option ℕ) → own_id (vocabulary_of m) char ≡ o → (is_missing o && any (λ (b : ℕ). is_missing (fallback_id m.fallback b)) char) ≡ false
          → Spells char (cond (is_missing o) (join_map (λ (b : ℕ). if_any (fallback_id m.fallback b)) char) (if_any o))
      go None p q = fallbacks_spell char q
      go (Some id) p q = one_spells char id pos (own_spells char id p)

  pub starts_spell : (chars : List (List ℕ)) → all (λ (c : List ℕ). not (is_empty c)) chars ≡ true → any (is_dropped (vocabulary_of m)) chars ≡ false → Spells (join chars) (join_map (starting_ids (vocabulary_of m)) chars)
  starts_spell [] h e = spells_nil
  starts_spell (c ∷ chars) h e =
      spells_append c (join chars) (starting_ids (vocabulary_of m) c) (join_map (starting_ids (vocabulary_of m)) chars)
      (start_spells c (not-empty-long c (and_left (not (is_empty c)) (all (λ (c : List ℕ). not (is_empty c)) chars) h)) (or_left (is_dropped (vocabulary_of m) c) (any (is_dropped (vocabulary_of m)) chars) e))
      (starts_spell chars (and_right (not (is_empty c)) (all (λ (c : List ℕ). not (is_empty c)) chars) h) (or_right (is_dropped (vocabulary_of m) c) (any (is_dropped (vocabulary_of m)) chars) e))

  -- ---- units as their characters

  record Spelt (units : List (List (List ℕ))) : Type 0 where
    strings : map (spelling (pieces_of m)) (map (join_map (starting_ids (vocabulary_of m))) units) ≡ map join units
    bytes : all (all (has_bytes (pieces_of m))) (map (join_map (starting_ids (vocabulary_of m))) units) ≡ true

  spelt : (units : List (List (List ℕ))) → all (all (λ (c : List ℕ). not (is_empty c))) units ≡ true → any (is_dropped (vocabulary_of m)) (join units) ≡ false → Spelt units
  spelt [] h e = record { strings = refl; bytes = refl }
  spelt (unit ∷ units) h e =
      let nonempty = all (λ (c : List ℕ). not (is_empty c)) in
      let dropped = any (is_dropped (vocabulary_of m)) in
      let parts : (dropped unit || dropped (join units)) ≡ false = sym (any_append (is_dropped (vocabulary_of m)) unit (join units)) ∙ e in
      let here = starts_spell unit (and_left (nonempty unit) (all nonempty units) h) (or_left (dropped unit) (dropped (join units)) parts) in
      let there = spelt units (and_right (nonempty unit) (all nonempty units) h) (or_right (dropped unit) (dropped (join units)) parts) in
      record { strings = ap₂ {C = List (List ℕ)} ◌∷◌ here.spelled there.strings; bytes = and_both here.bytes there.bytes }

  each : (starts : List (List ℕ)) → map (spelling (pieces_of m)) (map (merged (row_of (merge_rows m))) starts) ≡ map (spelling (pieces_of m)) starts
  each [] = refl
  each (ids ∷ starts) = ap₂ {C = List (List ℕ)} ◌∷◌ (merged_spells ids) (each starts)

  -- Units no character of which is dropped, over whose borders no piece reaches.
  module _ (units : List (List (List ℕ))) (nonempty : all (all (λ (c : List ℕ). not (is_empty c))) units ≡ true) (undropped : any (is_dropped (vocabulary_of m)) (join units) ≡ false) where
    -- Merging them apart gives what merging all their starting ids gives.
    pub chars-merge : StringsApart (pieces_of m) (map join units)
        → merged (row_of (merge_rows m)) (join_map (starting_ids (vocabulary_of m)) (join units)) ≡ join (map (merged (row_of (merge_rows m))) (map (join_map (starting_ids (vocabulary_of m))) units))
    chars-merge apart =
        let s = spelt units nonempty undropped in
        ap (merged (row_of (merge_rows m))) (sym (join_map-join (starting_ids (vocabulary_of m)) units))
        ∙ units-merge (map (join_map (starting_ids (vocabulary_of m))) units) (record { apart = subst (StringsApart (pieces_of m)) (sym s.strings) apart; bytes = s.bytes })

    -- The merged ids of all spell their characters.
    pub chars-spell : spelling (pieces_of m) (join (map (merged (row_of (merge_rows m))) (map (join_map (starting_ids (vocabulary_of m))) units))) ≡ join (join units)
    chars-spell =
        let s = spelt units nonempty undropped in
        let starts = map (join_map (starting_ids (vocabulary_of m))) units in
        sym (join_map-join (piece (pieces_of m)) (map (merged (row_of (merge_rows m))) starts))
        ∙ ap join (each starts ∙ s.strings)
        ∙ join-join units
