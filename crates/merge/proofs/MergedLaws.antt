-- Laws of the whole merge, over any function from pairs to rows: one merge more changes nothing of its result, it ends where no
-- merge is left, and lists that never have a row over their borders can be merged apart or joined. Assumes nothing.
use Rattle.std.specs.Prelude.{Option, None, Some, option_map}
use Rattle.std.proofs.lemmas.Option.{none-some, same_Some}
use Prim.Native.Nat.{ℕ, zero, suc, ◌<◌}
use native.Mathlib.Omega.{arith}
use mathlib.Core.Path.{◌≡◌, refl, sym, ap, ◌∙◌, subst}
use mathlib.Core.Bool.{Bool, true, false, cond}
use mathlib.Core.List.{List, [], ◌∷◌, ◌++◌, map}
use lib.Dec.{leb}
use lib.ListN.{length}
use Rattle.utf8.specs.Lists.{join}
use Rattle.utf8.proofs.Lists.{by_length}
use Rattle.model.specs.Model.{Row}
use Rattle.merge.specs.Merge.{Candidate, candidates, lower_rank, next_merge, merged_at, merge_then, merged_for, merged}
use Rattle.merge.proofs.NextLaws.{lower_of, later, NoRow, next-append, next_found, merged_shorter, merged-front, merged_later}

module _ (row : ℕ → ℕ → Option Row) where
  next-nil : next_merge row [] ≡ None
  unfolding next_merge candidates
  next-nil = refl

  -- The next merge leads to the same result.
  pub merged_step : (ids : List ℕ) (c : Candidate) → next_merge row ids ≡ Some c → merged row ids ≡ merged row (merged_at c ids)
  unfolding merged
  merged_step ids c e =
      let shorter : suc (length (merged_at c ids)) ≡ length ids = merged_shorter row (next_found row ids c e) in
      ap (λ (n : ℕ). merged_for n row ids) (sym shorter)
      ∙ ap (λ (o : Option Candidate). merge_then o (merged_for (length (merged_at c ids)) row) ids) e

  -- Where no merge is left the ids stay.
  pub merged-none : (ids : List ℕ) → next_merge row ids ≡ None → merged row ids ≡ ids
  unfolding merged
  merged-none ids e = go (length ids)
    where
      go : (n : ℕ) → merged_for n row ids ≡ ids
      go zero = refl
      go (suc n) = ap (λ (o : Option Candidate). merge_then o (merged_for n row) ids) e

  -- What holds of ids that have no merge left, and of ids where it holds after their next merge, holds of all.
  pub by_merges : (P : List ℕ → Type 0) → ((ids : List ℕ) → next_merge row ids ≡ None → P ids)
      → ((ids : List ℕ) (c : Candidate) → next_merge row ids ≡ Some c → P (merged_at c ids) → P ids) → (ids : List ℕ) → P ids
  by_merges P stop step = by_length P turn
    where
      turn : (ids : List ℕ) → ((l : List ℕ) → length l < length ids → P l) → P ids
      turn ids less = go (next_merge row ids) refl
        where
          go : (o : Option Candidate) → next_merge row ids ≡ o → P ids
          go None e = stop ids e
          go (Some c) e =
              let shorter : suc (length (merged_at c ids)) ≡ length ids = merged_shorter row (next_found row ids c e) in
              step ids c e (less (merged_at c ids) (omega arith))

  -- ---- lists side by side

  -- No row stands over a border.
  abbrev pub Apart : List (List ℕ) → Type 0
  Apart [] = Unit {0}
  Apart (ids ∷ units) = NoRow row ids (join units) × Apart units

  -- The next merge of the joined lists is some list's own.
  pub record Inside (units : List (List ℕ)) (c : Candidate) : Type 0 where
    pub before : List (List ℕ)
    pub ids : List ℕ
    pub after : List (List ℕ)
    pub own : Candidate
    pub whole : units ≡ before ++ ids ∷ after
    pub next : next_merge row ids ≡ Some own
    pub then : merged_at c (join units) ≡ join (before ++ merged_at own ids ∷ after)

  in_first : (ids : List ℕ) (units : List (List ℕ)) (c : Candidate) → next_merge row ids ≡ Some c → Inside (ids ∷ units) c
  in_first ids units c e =
      record { before = []; ids = ids; after = units; own = c; whole = refl; next = e; then = merged-front row (next_found row ids c e) (join units) }

  in_later : (ids : List ℕ) (units : List (List ℕ)) (c d : Candidate) → Inside units d → later (length ids) d ≡ c → Inside (ids ∷ units) c
  in_later ids units c d i e =
      record {
        before = ids ∷ i.before;
        ids = i.ids;
        after = i.after;
        own = i.own;
        whole = ap {B = List (List ℕ)} (λ l. ids ∷ l) i.whole;
        next = i.next;
        then =
            ap (λ (x : Candidate). merged_at x (ids ++ join units)) (sym e)
            ∙ merged_later row d ids (join units)
            ∙ ap (λ (l : List ℕ). ids ++ l) i.then;
      }

  pub next_inside : (units : List (List ℕ)) (c : Candidate) → Apart units → next_merge row (join units) ≡ Some c → Inside units c
  next_inside [] c apart e = absurd (none-some c (sym next-nil ∙ e))
  next_inside (ids ∷ units) c apart e =
      go (λ d. next_inside units d apart.1) (next_merge row ids) (next_merge row (join units)) refl refl (sym (next-append row ids (join units) apart.0) ∙ e)
    where
      go : ((d : Candidate) → next_merge row (join units) ≡ Some d → Inside units d) → (o p : Option Candidate) → next_merge row ids ≡ o → next_merge row (join units) ≡ p
          → lower_of o (option_map (later (length ids)) p) ≡ Some c → Inside (ids ∷ units) c
      go rest None None q r s = absurd (none-some c s)
      go rest None (Some d) q r s = in_later ids units c d (rest d r) (same_Some (later (length ids) d) c s)
      go rest (Some b) None q r s = in_first ids units c (q ∙ s)
      go rest (Some b) (Some d) q r s = pick (leb b.row.rank d.row.rank) (same_Some (lower_rank b (Some (later (length ids) d))) c s)
        where
          pick : (t : Bool) → cond t b (later (length ids) d) ≡ c → Inside (ids ∷ units) c
          pick true s = in_first ids units c (q ∙ ap {B = Option Candidate} Some s)
          pick false s = in_later ids units c d (rest d r) s

  -- No list has a merge left.
  abbrev pub NoneLeft : List (List ℕ) → Type 0
  NoneLeft [] = Unit {0}
  NoneLeft (ids ∷ units) = (next_merge row ids ≡ None) × NoneLeft units

  pub none_inside : (units : List (List ℕ)) → Apart units → next_merge row (join units) ≡ None → NoneLeft units
  none_inside [] apart e = tt
  none_inside (ids ∷ units) apart e =
      go (none_inside units apart.1) (next_merge row ids) (next_merge row (join units)) refl refl (sym (next-append row ids (join units) apart.0) ∙ e)
    where
      go : (next_merge row (join units) ≡ None → NoneLeft units) → (o p : Option Candidate) → next_merge row ids ≡ o → next_merge row (join units) ≡ p
          → lower_of o (option_map (later (length ids)) p) ≡ None → NoneLeft (ids ∷ units)
      go rest None None q r s = (q, rest r)
      go rest None (Some d) q r s = absurd (none-some (later (length ids) d) (sym s))
      go rest (Some b) p q r s = absurd (none-some (lower_rank b (option_map (later (length ids)) p)) (sym s))

  -- Lists that have no merge left stay as they are.
  pub none-left_stays : (units : List (List ℕ)) → NoneLeft units → map (merged row) units ≡ units
  none-left_stays [] none_left = refl
  none-left_stays (ids ∷ units) none_left =
      ap (λ (l : List ℕ). l ∷ map (merged row) units) (merged-none ids none_left.0)
      ∙ ap {B = List (List ℕ)} (λ l. ids ∷ l) (none-left_stays units none_left.1)

  -- A list's next merge changes nothing of what the lists come to.
  pub turn-same : (before : List (List ℕ)) (ids : List ℕ) (after : List (List ℕ)) (c : Candidate) → next_merge row ids ≡ Some c
      → map (merged row) (before ++ ids ∷ after) ≡ map (merged row) (before ++ merged_at c ids ∷ after)
  turn-same [] ids after c e = ap (λ (l : List ℕ). l ∷ map (merged row) after) (merged_step ids c e)
  turn-same (b ∷ before) ids after c e = ap {B = List (List ℕ)} (λ l. merged row b ∷ l) (turn-same before ids after c e)

  -- Where something that is kept by every list's next merge says that no row stands over a border, merging the lists apart gives
  -- what merging them joined gives.
  module _ (P : List (List ℕ) → Type 0) (apart : (units : List (List ℕ)) → P units → Apart units)
      (kept : (before : List (List ℕ)) (ids : List ℕ) (after : List (List ℕ)) (c : Candidate) → next_merge row ids ≡ Some c → P (before ++ ids ∷ after) → P (before ++ merged_at c ids ∷ after)) where
    pub merged-apart : (units : List (List ℕ)) → P units → merged row (join units) ≡ join (map (merged row) units)
    merged-apart units p =
        by_merges (λ (ids : List ℕ). (units : List (List ℕ)) → join units ≡ ids → P units → merged row ids ≡ join (map (merged row) units)) stop step (join units) units refl p
      where
        stop : (ids : List ℕ) → next_merge row ids ≡ None → (units : List (List ℕ)) → join units ≡ ids → P units → merged row ids ≡ join (map (merged row) units)
        stop ids e units q p =
            merged-none ids e ∙ sym q ∙ ap join (sym (none-left_stays units (none_inside units (apart units p) (ap (next_merge row) q ∙ e))))

        step : (ids : List ℕ) (c : Candidate) → next_merge row ids ≡ Some c
            → ((units : List (List ℕ)) → join units ≡ merged_at c ids → P units → merged row (merged_at c ids) ≡ join (map (merged row) units))
            → (units : List (List ℕ)) → join units ≡ ids → P units → merged row ids ≡ join (map (merged row) units)
        step ids c e ih units q p =
            let i = next_inside units c (apart units p) (ap (next_merge row) q ∙ e) in
            merged_step ids c e
            ∙ ih (i.before ++ merged_at i.own i.ids ∷ i.after) (sym i.then ∙ ap (merged_at c) q) (kept i.before i.ids i.after i.own i.next (subst P i.whole p))
            ∙ ap join (sym (turn-same i.before i.ids i.after i.own i.next) ∙ ap (map (merged row)) (sym i.whole))
