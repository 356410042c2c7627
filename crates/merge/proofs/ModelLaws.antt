-- What the searches from derived tables give on an accepted model is what its tables hold; so starting ids and merges by them are the
-- model's. Assumes nothing.
use Rattle.std.specs.Prelude.{Option, None, Some}
use Prim.Native.Nat.{ℕ, zero, suc, ◌+◌, ◌<◌, max}
use native.Mathlib.Omega.{arith}
use mathlib.Core.Path.{◌≡◌, refl, ap, ap₂, ◌∙◌}
use mathlib.Core.Bool.{Bool, true, false, cond, ◌&&◌}
use mathlib.Core.List.{List, [], ◌∷◌, ◌++◌, map}
use borrow.Author.Tests.{lt-ltb, ltb-true}
use lib.Dec.{ltb}
use lib.ListN.{length, take, drop, get_or, length-drop}
use lib.Seq.{get_or-take, get_or-drop}
use Rattle.utf8.specs.Lists.{all, same, join_map}
use Rattle.utf8.specs.Lists as lists
use Rattle.utf8.specs.Chars.{chars, char_width}
use Rattle.utf8.proofs.Tests.{and_left, and_right, and_both}
use Rattle.utf8.proofs.Lists.{by_length}
use Rattle.utf8.proofs.Characters.{chars-nil, chars_step}
use Rattle.model.specs.Model.{Model, Row, pieces_of, row_of, merge_rows}
use Rattle.model.specs.Mark.{mark, space}
use Rattle.model.proofs.Accepted.{Accepted}
use Rattle.index.specs.Index.{mark_id, piece_index, bucket_shift, row_index}
use Rattle.index.proofs.IndexLaws.{id_by_index, row_by_index}
use Rattle.merge.specs.Start.{vocabulary_of, own_id, starting_ids_by, starting_ids, is_dropped_by, is_dropped, as_mark, unit_chars}
use Rattle.merge.specs.Merge.{Candidate, candidate_at, candidates_from, candidates, next_merge, merge_then, merged_for, merged}
use Rattle.merge.specs.inner.Laid.{own_found, marked_chars, symbols_in, laid_in, unit_laid, unit_symbols}
use Rattle.merge.specs.inner.Turns.{row_in, merged_front}

-- ---- two functions that give the same row to every pair merge alike

module _ (f g : ℕ → ℕ → Option Row) (agree : (a b : ℕ) → f a b ≡ g a b) where
  candidates_alike : (place : ℕ) (pairs : List (ℕ × ℕ)) → candidates_from f place pairs ≡ candidates_from g place pairs
  candidates_alike place [] = refl
  candidates_alike place (pair ∷ pairs) =
      ap₂ {C = List Candidate} ◌++◌ (ap (candidate_at place) (agree pair.0 pair.1)) (candidates_alike (suc place) pairs)

  pub next_alike : (ids : List ℕ) → next_merge f ids ≡ next_merge g ids
  unfolding next_merge candidates
  next_alike ids = rw (candidates_alike 0 (lists.neighbours ids))

  merged_for_lem : (turns : ℕ) (ids : List ℕ) → merged_for turns f ids ≡ merged_for turns g ids
  merged_for_lem zero ids = refl
  merged_for_lem (suc turns) ids = ap (λ (o : Option Candidate). merge_then o (merged_for turns f) ids) (next_alike ids) ∙ go (merged_for_lem turns) (next_merge g ids)
    where
      go : ((l : List ℕ) → merged_for turns f l ≡ merged_for turns g l) → (o : Option Candidate) → merge_then o (merged_for turns f) ids ≡ merge_then o (merged_for turns g) ids
      go less None = refl
      go less (Some c) = less _

  pub merged_alike : (ids : List ℕ) → merged f ids ≡ merged g ids
  unfolding merged
  merged_alike ids = merged_for_lem (length ids) ids

-- ---- the characters of a text of bytes begin with bytes

small : List ℕ → Bool
small char = ltb (get_or char 0 0) 256

chars-small : (t : List ℕ) → ((i : ℕ) → get_or t i 0 < 256) → all small (chars t) ≡ true
unfolding small
chars-small = by_length (λ (t : List ℕ). ((i : ℕ) → get_or t i 0 < 256) → all small (chars t) ≡ true) turn
  where
    turn : (t : List ℕ) → ((u : List ℕ) → length u < length t → ((i : ℕ) → get_or u i 0 < 256) → all small (chars u) ≡ true) → ((i : ℕ) → get_or t i 0 < 256) → all small (chars t) ≡ true
    turn [] less bytes = ap (all small) chars-nil
    turn (b ∷ u) less bytes =
        let t = b ∷ u in
        let w = max 1 (char_width t) in
        let first : get_or (take w t) 0 0 < 256 = rw (get_or-take w t 0 0 (omega arith)) (bytes 0) in
        let rest = less (drop w t) (omega (arith, length-drop w t)) (λ i. rw (get_or-drop w t i 0) (bytes (w + i))) in
        ap (all small) (chars_step t (omega arith)) ∙ and_both (lt-ltb (get_or (take w t) 0 0) 256 first) rest

module _ (raw : Bool) where
  mark-small : (char : List ℕ) → small char ≡ true → small (as_mark raw char) ≡ true
  unfolding as_mark mark small
  mark-small char e = go (raw && same char space)
    where
      go : (b : Bool) → ltb (get_or (cond b mark char) 0 0) 256 ≡ true
      go true = refl
      go false = e

  map-small : (cs : List (List ℕ)) → all small cs ≡ true → all small (map (as_mark raw) cs) ≡ true
  map-small [] e = refl
  map-small (c ∷ cs) e = and_both (mark-small c (and_left (small c) (all small cs) e)) (map-small cs (and_right (small c) (all small cs) e))

  unit-small : (virtual : Bool) (unit : List ℕ) → ((i : ℕ) → get_or unit i 0 < 256) → all small (marked_chars virtual raw unit) ≡ true
  unfolding marked_chars unit_chars mark small
  unit-small true unit bytes = map-small (chars unit) (chars-small unit bytes)
  unit-small false unit bytes = map-small (chars unit) (chars-small unit bytes)

-- ---- two ways to find an own id that agree on what begins with a byte

module _ (own other : List ℕ → Option ℕ) (fallback : List ℕ) (agree : (char : List ℕ) → get_or char 0 0 < 256 → own char ≡ other char) where
  same_own : (char : List ℕ) → small char ≡ true → own char ≡ other char
  unfolding small
  same_own char e = agree char (ltb-true (get_or char 0 0) 256 e)

  ids_alike : (cs : List (List ℕ)) → all small cs ≡ true → join_map (starting_ids_by own fallback) cs ≡ join_map (starting_ids_by other fallback) cs
  unfolding starting_ids_by
  ids_alike [] e = refl
  ids_alike (c ∷ cs) e = rw (same_own c (and_left (small c) (all small cs) e), ids_alike cs (and_right (small c) (all small cs) e))

  dropped : (char : List ℕ) → own char ≡ other char → is_dropped_by own fallback char ≡ is_dropped_by other fallback char
  unfolding is_dropped_by
  dropped char e = rw e

  drops_alike : (cs : List (List ℕ)) → all small cs ≡ true → lists.count (is_dropped_by own fallback) cs ≡ lists.count (is_dropped_by other fallback) cs
  drops_alike cs e = ap length (go cs e)
    where
      go : (cs : List (List ℕ)) → all small cs ≡ true → lists.filter (is_dropped_by own fallback) cs ≡ lists.filter (is_dropped_by other fallback) cs
      go [] e = refl
      go (c ∷ cs) e =
          let here : is_dropped_by own fallback c ≡ is_dropped_by other fallback c = dropped c (same_own c (and_left (small c) (all small cs) e)) in
          rw (here, go cs (and_right (small c) (all small cs) e))

-- ---- by what is derived from an accepted model

module _ (m : Model) (ok : Accepted m) where
  -- The model's own lookup and rows, as the code finds them.
  abbrev pub own_by : List ℕ → Option ℕ
  own_by = own_found m.piece_bytes m.piece_offsets m.lookup (piece_index (pieces_of m) m.lookup) (mark_id (pieces_of m) m.lookup)

  abbrev pub row_by : ℕ → ℕ → Option Row
  row_by = row_in m.left m.right m.result m.rank (row_index m.left m.right m.rank (bucket_shift (length (pieces_of m)))) (bucket_shift (length (pieces_of m)))

  pub own_by_model : (char : List ℕ) → get_or char 0 0 < 256 → own_by char ≡ own_id (vocabulary_of m) char
  unfolding own_found own_id vocabulary_of pieces_of
  own_by_model char byte = id_by_index m ok char byte

  pub row_by_model : (l r : ℕ) → row_by l r ≡ row_of (merge_rows m) l r
  unfolding row_in merge_rows
  row_by_model l r = row_by_index m ok l r

  -- A merge in place by the index is that by the model's rows.
  pub front_by_model : (count : ℕ) (ids : List ℕ) → merged_front row_by count ids ≡ merged_front (row_of (merge_rows m)) count ids
  unfolding merged_front
  front_by_model count ids = rw (merged_alike row_by (row_of (merge_rows m)) row_by_model (take count ids))

  -- The starting ids of a unit of bytes by the index are the model's.
  module _ (virtual raw : Bool) (unit : List ℕ) (bytes : (i : ℕ) → get_or unit i 0 < 256) where
    ids_by_model : join_map (starting_ids_by own_by m.fallback) (marked_chars virtual raw unit) ≡ join_map (starting_ids (vocabulary_of m)) (marked_chars virtual raw unit)
    unfolding starting_ids vocabulary_of
    ids_by_model = ids_alike own_by (own_id (vocabulary_of m)) m.fallback own_by_model (marked_chars virtual raw unit) (unit-small raw virtual unit bytes)

    drops_by_model : lists.count (is_dropped_by own_by m.fallback) (marked_chars virtual raw unit) ≡ lists.count (is_dropped (vocabulary_of m)) (marked_chars virtual raw unit)
    unfolding is_dropped vocabulary_of
    drops_by_model = drops_alike own_by (own_id (vocabulary_of m)) m.fallback own_by_model (marked_chars virtual raw unit) (unit-small raw virtual unit bytes)

    pub laid_by_model : (out : List ℕ)
        → unit_laid own_by m.fallback (marked_chars virtual raw unit) out
        ≡ laid_in (join_map (starting_ids (vocabulary_of m)) (marked_chars virtual raw unit)) (lists.count (is_dropped (vocabulary_of m)) (marked_chars virtual raw unit)) out
    unfolding unit_laid
    laid_by_model out = rw (ids_by_model, drops_by_model)

    pub symbols_by_model : (room : ℕ)
        → unit_symbols own_by m.fallback (marked_chars virtual raw unit) room
        ≡ symbols_in (join_map (starting_ids (vocabulary_of m)) (marked_chars virtual raw unit)) (lists.count (is_dropped (vocabulary_of m)) (marked_chars virtual raw unit)) room
    unfolding unit_symbols
    symbols_by_model room = rw (ids_by_model, drops_by_model)
