-- A lookup list that ascends and has as many entries of long pieces as there are such pieces leaves none of them out.
use Rattle.std.specs.declared.cmp.Ordering.TheVariants.{Less}
use mathlib.Core.Path.{◌≡◌, refl, ap, ◌∙◌}
use mathlib.Core.Bool.{Bool, true, false, not, ◌&&◌}
use mathlib.Core.List.{List, [], ◌∷◌}
use Prim.Native.Nat.{ℕ, zero-le, suc-le-suc, ◌≤◌, ◌<◌}
use native.Mathlib.Nat.{le_trans}
use borrow.Author.Tests.{leb-true, ltb-true, leb-false}
use lib.Dec.{leb}
use lib.ListN.{length, get_or}
use Rattle.utf8.specs.Lists.{is_empty, any, count, same}
use Rattle.utf8.proofs.Tests.{clash, or_left, or_right, or_also, and_left, and_right, and_both}
use Rattle.utf8.proofs.Places.{any-one, any_none}
use Rattle.utf8.proofs.Counts.{count_most, count_fewer, count_same, count-within}
use Rattle.model.specs.Model.{piece}
use Rattle.model.specs.ByteOrder.{byte_order, is_before}
use Rattle.model.specs.Check.{names_no_piece, lookup_ascends, is_listed}
use Rattle.model.specs.inner.Tests.{is_long, long_missing}
use Rattle.model.proofs.OrderLaws.{is_equal, same-is-equal, less_is, order_self, order_trans, turned, order_turned}
use Rattle.model.proofs.CheckLaws.{has_id}

module _ (pieces : List (List ℕ)) where
  first_step : (x y : ℕ) (rest : List ℕ) → lookup_ascends pieces (x ∷ y ∷ rest) ≡ true → byte_order (piece pieces x) (piece pieces y) ≡ Less
  unfolding lookup_ascends is_before
  first_step x y rest e = less_is (byte_order (piece pieces x) (piece pieces y)) (and_left _ _ e)

  others_ascend : (x : ℕ) (rest : List ℕ) → lookup_ascends pieces (x ∷ rest) ≡ true → lookup_ascends pieces rest ≡ true
  unfolding lookup_ascends
  others_ascend x [] e = refl
  others_ascend x (y ∷ rest) e = and_right (is_before (piece pieces x) (piece pieces y)) (lookup_ascends pieces (y ∷ rest)) e

  unlike : (bytes : List ℕ) (x : ℕ) → byte_order bytes (piece pieces x) ≡ Less → same (piece pieces x) bytes ≡ false
  unlike bytes x l = same-is-equal (piece pieces x) bytes ∙ ap is_equal (order_turned bytes (piece pieces x) ∙ ap turned l)

  -- What stands before the first entry is not listed.
  before-unlisted : (bytes : List ℕ) (x : ℕ) (rest : List ℕ) → byte_order bytes (piece pieces x) ≡ Less → lookup_ascends pieces (x ∷ rest) ≡ true → is_listed pieces (x ∷ rest) bytes ≡ false
  unfolding is_listed
  before-unlisted bytes x [] l e = rw (unlike bytes x l)
  before-unlisted bytes x (y ∷ rest) l e =
      rw (unlike bytes x l) (before-unlisted bytes y rest (order_trans bytes (piece pieces x) (piece pieces y) l (first_step x y rest e)) (others_ascend x (y ∷ rest) e))

  -- The first piece is not listed again.
  first_once : (x : ℕ) (rest : List ℕ) → lookup_ascends pieces (x ∷ rest) ≡ true → is_listed pieces rest (piece pieces x) ≡ false
  unfolding is_listed
  first_once x [] e = refl
  first_once x (y ∷ rest) e = before-unlisted (piece pieces x) y rest (first_step x y rest e) (others_ascend x (y ∷ rest) e)

  names_piece : (x : ℕ) → names_no_piece pieces x ≡ false → x < length pieces
  unfolding names_no_piece
  names_piece x e = leb-false (length pieces) x (or_left (leb (length pieces) x) (is_empty (piece pieces x)) e)

  listed_self : (x : ℕ) (rest : List ℕ) → is_listed pieces (x ∷ rest) (piece pieces x) ≡ true
  unfolding is_listed
  listed_self x rest = rw (same-is-equal (piece pieces x) (piece pieces x), order_self (piece pieces x))

  listed_more : (x : ℕ) (rest bytes : List ℕ) → is_listed pieces rest bytes ≡ true → is_listed pieces (x ∷ rest) bytes ≡ true
  unfolding is_listed
  listed_more x rest bytes e = or_also (same (piece pieces x) bytes) e

  -- A long piece that is listed.
  abbrev long_listed : List ℕ → List ℕ → Bool
  long_listed lookup bytes = is_long bytes && is_listed pieces lookup bytes

  more_listed : (x : ℕ) (rest bytes : List ℕ) → long_listed rest bytes ≡ true → long_listed (x ∷ rest) bytes ≡ true
  more_listed x rest bytes e =
      and_both (and_left (is_long bytes) (is_listed pieces rest bytes) e) (listed_more x rest bytes (and_right (is_long bytes) (is_listed pieces rest bytes) e))

  -- Each entry of a long piece lists one piece more.
  listed_count : (lookup : List ℕ) → any (names_no_piece pieces) lookup ≡ false → lookup_ascends pieces lookup ≡ true → count (λ (id : ℕ). is_long (piece pieces id)) lookup ≤ count (long_listed lookup) pieces
  unfolding piece
  listed_count [] n e = zero-le
  listed_count (x ∷ rest) n e = go (is_long (piece pieces x)) refl (listed_count rest (or_right (names_no_piece pieces x) (any (names_no_piece pieces) rest) n) (others_ascend x rest e))
    where
      go : (b : Bool) → is_long (piece pieces x) ≡ b → count (λ (id : ℕ). is_long (piece pieces id)) rest ≤ count (long_listed rest) pieces → count (λ (id : ℕ). is_long (piece pieces id)) (x ∷ rest) ≤ count (long_listed (x ∷ rest)) pieces
      go true l others =
          let fewer : count (long_listed rest) pieces < count (long_listed (x ∷ rest)) pieces =
          count_fewer (long_listed (x ∷ rest)) (long_listed rest) (more_listed x rest) pieces x []
          (names_piece x (or_left (names_no_piece pieces x) (any (names_no_piece pieces) rest) n))
          (and_both l (listed_self x rest))
          (rw (l, first_once x rest e)) in
          rw l (le_trans (suc-le-suc others) fewer)
      go false l others = rw l (le_trans others (count_most (long_listed (x ∷ rest)) (long_listed rest) (more_listed x rest) pieces))

  -- There are no more entries than pieces that are listed.
  entry_count : (lookup : List ℕ) → any (names_no_piece pieces) lookup ≡ false → lookup_ascends pieces lookup ≡ true → length lookup ≤ count (is_listed pieces lookup) pieces
  unfolding piece
  entry_count [] n e = zero-le
  entry_count (x ∷ rest) n e =
      let others = entry_count rest (or_right (names_no_piece pieces x) (any (names_no_piece pieces) rest) n) (others_ascend x rest e) in
      let fewer : count (is_listed pieces rest) pieces < count (is_listed pieces (x ∷ rest)) pieces =
      count_fewer (is_listed pieces (x ∷ rest)) (is_listed pieces rest) (listed_more x rest) pieces x []
      (names_piece x (or_left (names_no_piece pieces x) (any (names_no_piece pieces) rest) n))
      (listed_self x rest)
      (first_once x rest e) in
      le_trans (suc-le-suc others) fewer

  -- A lookup list is no longer than the table of pieces.
  pub lookup-length : (lookup : List ℕ) → any (names_no_piece pieces) lookup ≡ false → lookup_ascends pieces lookup ≡ true → length lookup ≤ length pieces
  lookup-length lookup n e = le_trans (entry_count lookup n e) (count-within (is_listed pieces lookup) pieces)

  -- As many entries as there are long pieces leave none of them out.
  pub none_missing : (lookup : List ℕ) → any (names_no_piece pieces) lookup ≡ false → lookup_ascends pieces lookup ≡ true → count is_long pieces ≡ count (λ (id : ℕ). is_long (piece pieces id)) lookup → long_missing pieces lookup ≡ false
  unfolding long_missing
  none_missing lookup n e h = any_none _ pieces [] at
    where
      at : (i : ℕ) → i < length pieces → (is_long (get_or pieces i []) && not (is_listed pieces lookup (get_or pieces i []))) ≡ false
      at i k = go (is_long (get_or pieces i [])) refl
        where
          go : (b : Bool) → is_long (get_or pieces i []) ≡ b → (is_long (get_or pieces i []) && not (is_listed pieces lookup (get_or pieces i []))) ≡ false
          go false l = rw l
          go true l =
              let both : long_listed lookup (get_or pieces i []) ≡ true = count_same is_long (long_listed lookup) (λ bytes. and_left (is_long bytes) (is_listed pieces lookup bytes)) pieces i [] (rw h (listed_count lookup n e)) k l in
              rw (l, and_right (is_long (get_or pieces i [])) (is_listed pieces lookup (get_or pieces i [])) both)

  long_inside : (id : ℕ) → is_long (piece pieces id) ≡ true → id < length pieces
  unfolding is_long
  long_inside id l = has_id pieces id (le_trans (leb-true 1 2 refl) (ltb-true 1 (length (piece pieces id)) l))

  pub spared : (lookup : List ℕ) (id : ℕ) → long_missing pieces lookup ≡ false → is_long (piece pieces id) ≡ true → is_listed pieces lookup (piece pieces id) ≡ true
  unfolding long_missing piece
  spared lookup id none l = go (is_listed pieces lookup (piece pieces id)) refl
    where
      go : (b : Bool) → is_listed pieces lookup (piece pieces id) ≡ b → is_listed pieces lookup (piece pieces id) ≡ true
      go true f = f
      go false f = clash none (any-one (λ (bytes : List ℕ). is_long bytes && not (is_listed pieces lookup bytes)) pieces id [] (long_inside id l) (rw (l, f)))
