-- Laws of the crossings that are noted: the places of all pieces are their crossings, a loop that notes them one by one, and the words
-- that name them. Assumes nothing.
use Prim.Native.Nat.{ℕ, suc, ◌+◌, ◌-◌, ◌*◌, ◌%◌, ◌≤◌, ◌<◌}
use native.Mathlib.Numerals.{add-one}
use native.Mathlib.Omega.{arith}
use mathlib.Core.Path.{◌≡◌, refl, sym, ap, ap₂, ◌∙◌}
use mathlib.Core.Bool.{Bool, true, false, cond, ◌||◌}
use mathlib.Core.List.{List, [], ◌∷◌, ◌++◌, map, append_assoc, map-append}
use borrow.Author.Tests.{lt-ltb, le-ltb}
use lib.Dec.{ltb}
use lib.ListN.{length, get_or, take, drop, set, length-append, length-drop, length-map, drop_of_length-le}
use lib.Seq.{drop-cons, take-suc, take_all, length-take-le, set_at}
use Rattle.utf8.specs.Lists.{any, filter, join_map, numbered, numbered_from, below}
use Rattle.utf8.specs.Chars.{valid}
use Rattle.utf8.proofs.Tests.{or_also}
use Rattle.utf8.proofs.Elements.{any-map}
use Rattle.utf8.proofs.Places.{any-one, any_append, length-numbered, get_or_numbered}
use Rattle.model.specs.Answers.{zeros}
use Rattle.model.specs.Model.{piece}
use Rattle.model.specs.declared.Metaspace.{Metaspace}
use Rattle.std.specs.Prelude.{Option, None}
use Rattle.units.specs.Kinds.{Crossing, crosses_at, crossing_at, crossings_of, crossings, is_tangled, splits, word_split}
use Rattle.units.specs.Derived.{Place, places_within, places_in, crossing_places, noted_of, place_words, noted_words, Noting, noting}
use Rattle.units.specs.inner.Read.{crossing_of}
use Rattle.units.specs.declared.WordSplit.TheVariants as split
use Rattle.units.specs.declared.Crossed.TheVariants.{Nowhere, At, Tangled}
use Rattle.units.specs.inner.Crossed.{crossed, no_words, noted_at}
use Rattle.units.proofs.CrossingLaws.{none_within, one-within, TangledFirst, tangled-first, tangled-within}

-- ---- the places are those of the crossings

module _ (pieces : List (List ℕ)) where
  -- the places of one piece
  of_places : (id : ℕ) (bytes : List ℕ) → get_or pieces id [] ≡ bytes → (ps : List ℕ) → map (crossing_of pieces) (map (λ (p : ℕ). (id, p)) ps) ≡ map (crossing_at bytes) ps
  unfolding crossing_of piece
  of_places id bytes e [] = refl
  of_places id bytes e (p ∷ ps) = ap₂ {C = List Crossing} ◌∷◌ (rw e) (of_places id bytes e ps)

  of_piece : (id : ℕ) (bytes : List ℕ) → get_or pieces id [] ≡ bytes → (rest : List (List ℕ)) → map (crossing_of pieces) (places_in (id, bytes)) ++ join_map crossings_of (filter valid rest) ≡ join_map crossings_of (filter valid (bytes ∷ rest))
  unfolding places_in places_within crossings_of
  of_piece id bytes e rest = go (valid bytes) refl
    where
      places : List ℕ
      places = filter (crosses_at bytes) (below (length bytes))

      go : (b : Bool) → valid bytes ≡ b → map (crossing_of pieces) (map (λ (p : ℕ). (id, p)) (cond (valid bytes) places [])) ++ join_map crossings_of (filter valid rest) ≡ join_map crossings_of (filter valid (bytes ∷ rest))
      go true v = rw (v, of_places id bytes e places)
      go false v = rw v

  of_rest : (k : ℕ) (xs : List (List ℕ)) → drop k pieces ≡ xs → map (crossing_of pieces) (join_map places_in (numbered_from k xs)) ≡ join_map crossings_of (filter valid xs)
  of_rest k [] e = refl
  of_rest k (x ∷ xs) e =
      let more : k < length pieces = omega (arith, ap length e, length-drop k pieces) in
      let both : get_or pieces k [] ∷ drop (suc k) pieces ≡ x ∷ xs = sym (drop-cons pieces k [] more) ∙ e in
      let here : get_or pieces k [] ≡ x = cc in
      let there : drop (suc k) pieces ≡ xs = cc in
      map-append (crossing_of pieces) (places_in (k, x)) (join_map places_in (numbered_from (suc k) xs))
      ∙ ap (λ (l : List Crossing). map (crossing_of pieces) (places_in (k, x)) ++ l) (of_rest (suc k) xs there)
      ∙ of_piece k x here xs

  pub crossings_by_place : crossings pieces ≡ map (crossing_of pieces) (crossing_places pieces)
  unfolding crossings crossing_places
  crossings_by_place = sym (of_rest 0 pieces refl)

  -- Whether the crossing at a place is tangled.
  pub tangled_at : Place → Bool
  tangled_at place = is_tangled (crossing_of pieces place)

  tangled-crossings : any is_tangled (crossings pieces) ≡ any tangled_at (crossing_places pieces)
  unfolding tangled_at
  tangled-crossings = ap (any is_tangled) crossings_by_place ∙ any-map is_tangled (crossing_of pieces) (crossing_places pieces)

  count-crossings : length (crossings pieces) ≡ length (crossing_places pieces)
  count-crossings = ap length crossings_by_place ∙ length-map (crossing_places pieces) (crossing_of pieces)

-- ---- one element of a list, at the front of what is left

module _ {A : Type 0} (l : List A) (n : ℕ) (x : A) (r : List A) (e : drop n l ≡ x ∷ r) where
  front-within : n < length l
  front-within = omega (arith, ap length e, length-drop n l)

  front-is : get_or l n x ∷ drop (suc n) l ≡ x ∷ r
  front-is = sym (drop-cons l n x front-within) ∙ e

  front_taken : take (n + 1) l ≡ take n l ++ (x ∷ [])
  front_taken =
      let here : get_or l n x ≡ x = cc front-is in
      ap (λ (k : ℕ). take k l) (add-one n) ∙ take-suc l n x front-within ∙ ap (λ (y : A). take n l ++ (y ∷ [])) here

  front-left : drop (n + 1) l ≡ r
  front-left =
      let there : drop (suc n) l ≡ r = cc front-is in
      ap (λ (k : ℕ). drop k l) (add-one n) ∙ there

-- ---- the words of places

pub words-length : (places : List Place) → length (join_map place_words places) ≡ length places * 2
unfolding place_words
words-length [] = refl
words-length (p ∷ ps) = omega (arith, words-length ps)

words_append : (ps qs : List Place) → join_map place_words (ps ++ qs) ≡ join_map place_words ps ++ join_map place_words qs
words_append [] qs = refl
words_append (p ∷ ps) qs = ap (λ (l : List ℕ). place_words p ++ l) (words_append ps qs) ∙ sym (append_assoc (place_words p) (join_map place_words ps) (join_map place_words qs))

-- two cells behind the front of a row of words
set_two : (front : List ℕ) (n k a b : ℕ) → length front ≡ n * 2 → set (set (front ++ 0 ∷ 0 ∷ zeros k) (n * 2) a) (n * 2 + 1) b ≡ front ++ a ∷ b ∷ zeros k
set_two front n k a b e =
    ap (λ (l : List ℕ). set l (n * 2 + 1) b) (set_at front 0 (0 ∷ zeros k) a (n * 2) e ∙ sym (append_assoc front (a ∷ []) (0 ∷ zeros k)))
    ∙ set_at (front ++ (a ∷ [])) 0 (zeros k) b (n * 2 + 1) (omega (arith, length-append front (a ∷ []), e))
    ∙ append_assoc front (a ∷ []) (b ∷ zeros k)

pub noted-one_more : (places : List Place) (id place : ℕ) → length places < 32 → noted_at (noted_words places) (length places) id place ≡ noted_words (places ++ ((id, place) ∷ []))
unfolding noted_at noted_words place_words
noted-one_more places id place h =
    let n = length places in
    let front = join_map place_words places in
    let room : 64 - length front ≡ suc (suc (62 - n * 2)) = omega (arith, words-length places) in
    let more : join_map place_words (places ++ ((id, place) ∷ [])) ≡ front ++ (id % 4294967296 ∷ place % 4294967296 ∷ []) = words_append places ((id, place) ∷ []) in
    let left : 64 - length (join_map place_words (places ++ ((id, place) ∷ []))) ≡ 62 - n * 2 = omega (arith, ap length more, length-append front (id % 4294967296 ∷ place % 4294967296 ∷ []), words-length places) in
    ap (λ (k : ℕ). set (set (front ++ zeros k) (n * 2) (id % 4294967296)) (n * 2 + 1) (place % 4294967296)) room
    ∙ set_two front n (62 - n * 2) (id % 4294967296) (place % 4294967296) (words-length places)
    ∙ sym (ap₂ (λ (w : List ℕ) (k : ℕ). w ++ zeros k) more left ∙ append_assoc front (id % 4294967296 ∷ place % 4294967296 ∷ []) (zeros (62 - n * 2)))

-- ---- the kind by the places

module _ (pieces : List (List ℕ)) where
  kind_tests : word_split (crossings pieces) None ≡ cond (any (tangled_at pieces) (crossing_places pieces) || ltb 32 (length (crossing_places pieces))) split.None split.SpaceRuns
  unfolding word_split splits
  kind_tests = rw (tangled-crossings pieces, count-crossings pieces)

  no_kind : (w : List ℕ) → w ≡ no_words → (any (tangled_at pieces) (crossing_places pieces) || ltb 32 (length (crossing_places pieces))) ≡ true → ◌≡◌ {A = Noting} (record { kind = split.None; count = 0; noted = w }) (noting pieces (word_split (crossings pieces) None))
  unfolding noting noted_of noted_words no_words
  no_kind w z e =
      let none : word_split (crossings pieces) None ≡ split.None = kind_tests ∙ rw e in
      rw (none, z)

  runs : (n : ℕ) (words : List ℕ) → (any (tangled_at pieces) (crossing_places pieces) || ltb 32 (length (crossing_places pieces))) ≡ false → n ≡ length (crossing_places pieces) → words ≡ noted_words (crossing_places pieces) → ◌≡◌ {A = Noting} (record { kind = split.SpaceRuns; count = n; noted = words }) (noting pieces (word_split (crossings pieces) None))
  unfolding noting noted_of
  runs n words e c w =
      let space-runs : word_split (crossings pieces) None ≡ split.SpaceRuns = kind_tests ∙ rw e in
      rw (space-runs, c, w)

-- ---- a loop over the pieces: n places were noted in words, and those of the pieces from id on are left

pub record Notes (pieces : List (List ℕ)) (id n : ℕ) (words : List ℕ) : Type 0 where
  pub few : n ≤ 32
  pub most : n ≤ length (crossing_places pieces)
  pub rest : drop n (crossing_places pieces) ≡ join_map places_in (drop id (numbered pieces))
  pub plain : any (tangled_at pieces) (take n (crossing_places pieces)) ≡ false
  pub stand : words ≡ noted_words (take n (crossing_places pieces))

pub notes_start : (pieces : List (List ℕ)) (words : List ℕ) → words ≡ no_words → Notes pieces 0 0 words
unfolding crossing_places no_words noted_words
notes_start pieces words e = record { few = omega arith; most = omega arith; rest = refl; plain = refl; stand = e }

module _ (pieces : List (List ℕ)) (id n : ℕ) (words : List ℕ) (s : Notes pieces id n words) (h : id < length pieces) where
  places_here : join_map places_in (drop id (numbered pieces)) ≡ places_in (id, get_or pieces id []) ++ join_map places_in (drop (id + 1) (numbered pieces))
  places_here =
      ap (join_map places_in) (drop-cons (numbered pieces) id (0, []) (omega (arith, length-numbered pieces)) ∙ ap₂ {C = List (ℕ × List ℕ)} ◌∷◌ (get_or_numbered pieces id 0 [] h) (ap (λ (k : ℕ). drop k (numbered pieces)) (sym (add-one id))))

  -- the places of the piece at id
  places_of : (ps : List ℕ) → places_within (get_or pieces id []) ≡ ps → drop n (crossing_places pieces) ≡ map (λ (p : ℕ). (id, p)) ps ++ join_map places_in (drop (id + 1) (numbered pieces))
  unfolding places_in
  places_of ps e = s.rest ∙ places_here ∙ rw e

  pub notes_nowhere : crossed (get_or pieces id []) ≡ Nowhere → Notes pieces (id + 1) n words
  notes_nowhere e = record { few = s.few; most = s.most; rest = places_of [] (none_within (get_or pieces id []) e); plain = s.plain; stand = s.stand }

  -- the place of the piece's one crossing is the next
  next_place : (p : ℕ) → crossed (get_or pieces id []) ≡ At p → drop n (crossing_places pieces) ≡ (id, p) ∷ join_map places_in (drop (id + 1) (numbered pieces))
  next_place p e = places_of (p ∷ []) (one-within (get_or pieces id []) p e).0

  pub notes_place : (p : ℕ) → crossed (get_or pieces id []) ≡ At p → (n ≡ 32 → ⊥) → Notes pieces (id + 1) (n + 1) (noted_at words n id p)
  unfolding tangled_at crossing_of piece
  notes_place p e more =
      let all = crossing_places pieces in
      let left = join_map places_in (drop (id + 1) (numbered pieces)) in
      let next = next_place p e in
      let taken = front_taken all n (id, p) left next in
      let long : length (take n all) ≡ n = length-take-le n all s.most in
      let few : n < 32 = omega (arith, s.few) in
      let untangled : tangled_at pieces (id, p) ≡ false = (one-within (get_or pieces id []) p e).1 in
      record {
        few = omega arith;
        most = omega (arith, front-within all n (id, p) left next);
        rest = front-left all n (id, p) left next;
        plain = ap (any (tangled_at pieces)) taken ∙ any_append (tangled_at pieces) (take n all) ((id, p) ∷ []) ∙ rw (s.plain, untangled);
        stand =
            ap₂ (λ (w : List ℕ) (k : ℕ). noted_at w k id p) s.stand (sym long)
            ∙ noted-one_more (take n all) id p (omega (arith, long))
            ∙ ap noted_words (sym taken);
      }

  -- ---- where the kind is None

  some-tangled : (p : ℕ) (r : List Place) → drop n (crossing_places pieces) ≡ (id, p) ∷ r → is_tangled (crossing_at (get_or pieces id []) p) ≡ true → any (tangled_at pieces) (crossing_places pieces) ≡ true
  unfolding tangled_at crossing_of piece
  some-tangled p r f t =
      let all = crossing_places pieces in
      let front = front-is all n (id, p) r f in
      let here : get_or all n (id, p) ≡ (id, p) = cc front in
      any-one (tangled_at pieces) all n (id, p) (front-within all n (id, p) r f) (ap (tangled_at pieces) here ∙ t)

  pub notes_tangled : (w : List ℕ) → w ≡ no_words → crossed (get_or pieces id []) ≡ Tangled → ◌≡◌ {A = Noting} (record { kind = split.None; count = 0; noted = w }) (noting pieces (word_split (crossings pieces) None))
  notes_tangled w z e = go (tangled-within (get_or pieces id []) e)
    where
      go : TangledFirst (get_or pieces id []) → ◌≡◌ {A = Noting} (record { kind = split.None; count = 0; noted = w }) (noting pieces (word_split (crossings pieces) None))
      go (tangled-first p ps f t) = no_kind pieces w z (ap (λ (b : Bool). b || ltb 32 (length (crossing_places pieces))) (some-tangled p (map (λ (q : ℕ). (id, q)) ps ++ join_map places_in (drop (id + 1) (numbered pieces))) (places_of (p ∷ ps) f) t))

  pub notes_full : (w : List ℕ) → w ≡ no_words → (p : ℕ) → n ≡ 32 → crossed (get_or pieces id []) ≡ At p → ◌≡◌ {A = Noting} (record { kind = split.None; count = 0; noted = w }) (noting pieces (word_split (crossings pieces) None))
  notes_full w z p full e =
      let many : 32 < length (crossing_places pieces) = omega (arith, front-within (crossing_places pieces) n (id, p) (join_map places_in (drop (id + 1) (numbered pieces))) (next_place p e)) in
      no_kind pieces w z (or_also (any (tangled_at pieces) (crossing_places pieces)) (lt-ltb 32 (length (crossing_places pieces)) many))

-- all pieces were looked at
pub notes_ended : (pieces : List (List ℕ)) (id n : ℕ) (words : List ℕ) → Notes pieces id n words → length pieces ≤ id → ◌≡◌ {A = Noting} (record { kind = split.SpaceRuns; count = n; noted = words }) (noting pieces (word_split (crossings pieces) None))
notes_ended pieces id n words s h =
    let all = crossing_places pieces in
    let none_left : drop n all ≡ [] = s.rest ∙ ap (join_map places_in) (drop_of_length-le (numbered pieces) {i = id} (omega (arith, length-numbered pieces))) in
    let count : n ≡ length all = omega (arith, ap length none_left, length-drop n all, s.most) in
    let whole : take n all ≡ all = take_all n all (omega arith) in
    let plain : any (tangled_at pieces) all ≡ false = ap (any (tangled_at pieces)) (sym whole) ∙ s.plain in
    runs pieces n words (rw (plain, le-ltb 32 (length all) (omega (arith, s.few)))) count (s.stand ∙ ap noted_words whole)

-- ---- the kind by metaspace

module _ (pieces : List (List ℕ)) (metaspace : Option Metaspace) where
  pub every_mark : (w : List ℕ) → w ≡ no_words → splits metaspace ≡ true → ◌≡◌ {A = Noting} (record { kind = split.EveryMark; count = 0; noted = w }) (noting pieces (word_split (crossings pieces) metaspace))
  unfolding noting noted_of noted_words no_words word_split
  every_mark w z e = rw (e, z)

  pub as_without : splits metaspace ≡ false → noting pieces (word_split (crossings pieces) None) ≡ noting pieces (word_split (crossings pieces) metaspace)
  unfolding word_split splits
  as_without e = rw e
