-- Laws of the lookup list: from entry to entry, and what a search in it gives.
use Rattle.std.specs.Prelude.{Option, is_some}
use Rattle.std.specs.declared.cmp.Ordering.TheVariants.{Less}
use mathlib.Core.Path.{◌≡◌, refl, sym, ◌∙◌}
use mathlib.Core.Bool.{Bool, true, false, not, ◌&&◌}
use mathlib.Core.List.{List, [], ◌∷◌}
use Prim.Native.Nat.{ℕ, ◌+◌, ◌≤◌, ◌<◌}
use native.Mathlib.Omega.{arith}
use borrow.Author.Tests.{leb-true, ne_eqb}
use lib.Dec.{leb, eqb}
use lib.ListN.{length, get_or, drop, get_or-eq_default}
use Rattle.utf8.specs.Lists.{is_empty, all, any, neighbours}
use Rattle.utf8.proofs.Places.{any_found, any_next, any-ended, all_pair_next, all_pair_broken, all_pair_ended, all_pair_holds}
use Rattle.model.specs.Model.{piece, lookup_id}
use Rattle.model.specs.ByteOrder.{byte_order, is_before}
use Rattle.model.specs.inner.Search.{piece_order, found_piece, id_at}
use Rattle.model.specs.Check.{names_no_piece, lookup_ascends, is_listed, piece_missing}
use Rattle.model.proofs.OrderLaws.{same-is-equal, less_is, keys_ascend}
use Rattle.model.proofs.SearchLaws.{Falls, entry_found, found_any, keys_fall}

-- An id that names no piece has the empty one, and the other way round.
pub no_piece : (pieces : List (List ℕ)) (id : ℕ) → names_no_piece pieces id ≡ is_empty (piece pieces id)
unfolding names_no_piece piece
no_piece pieces id = go (leb (length pieces) id) refl
  where
    go : (b : Bool) → leb (length pieces) id ≡ b → names_no_piece pieces id ≡ is_empty (piece pieces id)
    go true e = rw (e, get_or-eq_default pieces [] {n = id} (leb-true (length pieces) id e))
    go false e = rw e

pub empty-is : (xs : List ℕ) → eqb (length xs) 0 ≡ is_empty xs
empty-is [] = refl
empty-is (x ∷ xs) = ne_eqb (length (x ∷ xs)) 0 (omega arith)

-- ---- entries in order

module _ (pieces : List (List ℕ)) (lookup : List ℕ) (i : ℕ) where
  -- Whether the entries from a place on ascend.
  pub ascend_from : Bool
  ascend_from = all (λ (p : ℕ × ℕ). is_before (piece pieces p.0) (piece pieces p.1)) (drop i (neighbours lookup))

module _ (pieces : List (List ℕ)) (lookup : List ℕ) where
  pub ascend_start : lookup_ascends pieces lookup ≡ ascend_from pieces lookup 0
  unfolding lookup_ascends ascend_from
  ascend_start = refl

  module _ (i : ℕ) where
    -- whether the piece at a place stands before the next
    abbrev pub before_next : Bool
    before_next = is_before (piece pieces (get_or lookup i 0)) (piece pieces (get_or lookup (i + 1) 0))

    pub ascend_next : i + 1 < length lookup → before_next ≡ true → ascend_from pieces lookup i ≡ ascend_from pieces lookup (i + 1)
    unfolding ascend_from
    ascend_next h e = all_pair_next _ lookup i 0 h e

    pub ascend_broken : i + 1 < length lookup → before_next ≡ false → ascend_from pieces lookup i ≡ false
    unfolding ascend_from
    ascend_broken h e = all_pair_broken _ lookup i 0 h e

    pub ascend_ended : length lookup ≤ i + 1 → ascend_from pieces lookup i ≡ true
    unfolding ascend_from
    ascend_ended h = all_pair_ended _ lookup i 0 h

-- ---- a search in a list that ascends

module _ (pieces : List (List ℕ)) (lookup : List ℕ) (ascends : lookup_ascends pieces lookup ≡ true) where
  entry_step : (i : ℕ) → i + 1 < length lookup → byte_order (piece pieces (get_or lookup i 0)) (piece pieces (get_or lookup (i + 1) 0)) ≡ Less
  unfolding lookup_ascends is_before
  entry_step i h = less_is (byte_order (piece pieces (get_or lookup i 0)) (piece pieces (get_or lookup (i + 1) 0))) (all_pair_holds _ lookup i 0 ascends h)

  -- The piece of an entry stands before those of all later ones.
  pub entries_rise : (i j : ℕ) → i < j → j < length lookup → byte_order (piece pieces (get_or lookup i 0)) (piece pieces (get_or lookup j 0)) ≡ Less
  entries_rise = keys_ascend (λ i. piece pieces (get_or lookup i 0)) (length lookup) entry_step

  module _ (bytes : List ℕ) where
    pub pieces_fall : Falls (piece_order pieces lookup bytes) (length lookup)
    unfolding piece_order
    pieces_fall = keys_fall (λ i. piece pieces (get_or lookup i 0)) (length lookup) entry_step bytes

    -- It gives the id of the piece.
    pub id_found : id_at lookup (found_piece pieces lookup bytes) ≡ lookup_id pieces lookup bytes
    unfolding id_at found_piece lookup_id piece_order
    id_found =
        entry_found (piece_order pieces lookup bytes) (length lookup) lookup 0 _ refl pieces_fall
        (λ i h. same-is-equal (piece pieces (get_or lookup i 0)) bytes)

    -- It finds a place exactly if the piece is listed.
    pub listed_found : is_listed pieces lookup bytes ≡ is_some (found_piece pieces lookup bytes)
    unfolding is_listed found_piece piece_order
    listed_found =
        sym
        (found_any (piece_order pieces lookup bytes) (length lookup) lookup 0 _ refl pieces_fall
        (λ i h. same-is-equal (piece pieces (get_or lookup i 0)) bytes))

    -- what a search for the same bytes gave says whether they are listed
    pub listed_by : (key : List ℕ) (f : Option ℕ) → f ≡ found_piece pieces lookup key → key ≡ bytes → is_listed pieces lookup bytes ≡ is_some f
    listed_by key f e q = listed_found ∙ rw (e, q)

-- ---- pieces that are not listed

-- Whether a string is not empty and not listed.
abbrev pub is_missing : List (List ℕ) → List ℕ → List ℕ → Bool
is_missing pieces lookup bytes = not (is_empty bytes) && not (is_listed pieces lookup bytes)

module _ (pieces : List (List ℕ)) (lookup : List ℕ) (id : ℕ) where
  -- Whether one is missing of the pieces from a place on.
  pub missing_from : Bool
  missing_from = any (is_missing pieces lookup) (drop id pieces)

module _ (pieces : List (List ℕ)) (lookup : List ℕ) where
  pub missing_start : piece_missing pieces lookup ≡ missing_from pieces lookup 0
  unfolding piece_missing missing_from
  missing_start = refl

  module _ (id : ℕ) where
    pub missing_found : id < length pieces → is_missing pieces lookup (piece pieces id) ≡ true → missing_from pieces lookup id ≡ true
    unfolding missing_from piece
    missing_found h e = any_found (is_missing pieces lookup) pieces id [] h e

    pub missing_next : id < length pieces → is_missing pieces lookup (piece pieces id) ≡ false → missing_from pieces lookup id ≡ missing_from pieces lookup (id + 1)
    unfolding missing_from piece
    missing_next h e = any_next (is_missing pieces lookup) pieces id [] h e

    pub missing_ended : length pieces ≤ id → missing_from pieces lookup id ≡ false
    unfolding missing_from
    missing_ended h = any-ended (is_missing pieces lookup) pieces id h
