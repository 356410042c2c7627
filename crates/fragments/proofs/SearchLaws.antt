-- What the look back and the search ahead say of a place. Assumes nothing.
use Rattle.std.specs.Prelude.{None, Some}
use Rattle.std.proofs.lemmas.Option.{none-some, same_Some}
use Prim.Native.Nat.{ℕ, suc, ◌+◌, ◌-◌, ◌≤◌, ◌<◌, max}
use native.Mathlib.Omega.{arith}
use mathlib.Core.Path.{◌≡◌, refl, sym, ap, ◌∙◌}
use mathlib.Core.Bool.{Bool, true, false, cond}
use mathlib.Core.Logic.{⊎_elim}
use mathlib.Core.List.{List}
use borrow.Author.Tests.{leb-true, leb-false}
use lib.Dec.{leb}
use lib.ListN.{length, drop}
use Rattle.utf8.specs.Lists.{find, count_from}
use Rattle.model.specs.Model.{TokenList, token_at}
use Rattle.sections.specs.Sections.{white_length}
use Rattle.sections.specs.inner.Strips.{start_at}
use Rattle.fragments.specs.Safe.{block_end}
use Rattle.fragments.specs.inner.Most.{most}
use Rattle.fragments.specs.inner.Reach.{Edge, places_ahead, strips_at, blocked_ahead, reach_at, reach}
use Rattle.fragments.proofs.GivenLaws.{Fine}
use Rattle.fragments.specs.inner.Search.{Known, BlockedTo, FreeAt}
use Rattle.fragments.proofs.ChoiceLaws.{lt-or-le}
use Rattle.fragments.proofs.Bounded.{most-split, find_where, find-nothing}
use Rattle.fragments.proofs.WhiteLaws.{white_end, white_end-le}
use Rattle.fragments.proofs.BlockLaws.{standing, Reaching, reach_where, reach_blocks, ahead_blocks, free, ahead_kept}

ahead_nothing : (t : TokenList) (text : List ℕ) (p : ℕ) → find (strips_at t text) (places_ahead text p) ≡ None → blocked_ahead t text p ≡ false
unfolding blocked_ahead
ahead_nothing t text p e = find-nothing (strips_at t text) (places_ahead text p) e

-- ---- how far blocks reach

module _ (unguarded : Bool) (t : TokenList) (text : List ℕ) where
  -- Blocks reach no further than the text.
  pub reach-within : Fine t text → (from to : ℕ) → reach unguarded t text from to ≤ length text
  unfolding block_end
  reach-within fine from to = ⊎_elim (λ (h : 0 < reach unguarded t text from to). by (reach_where unguarded t text from to h)) (λ h. omega arith) (lt-or-le 0 (reach unguarded t text from to))
    where
      by : Reaching unguarded t text from to (reach unguarded t text from to) → reach unguarded t text from to ≤ length text
      by f =
          let k = standing t text fine f.at f.row f.occurs.listed f.occurs.stands in
          let e = f.at + length (token_at t f.row).content in
          omega (arith, f.is, short (token_at t f.row).rstrip unguarded e k.inside)
        where
          short : (r u : Bool) (e : ℕ) → e ≤ length text → cond r (e + white_length (drop e text)) (cond u e (e - 1)) ≤ length text
          short true u e h = white_end-le text e h
          short false true e h = h
          short false false e h = omega arith

  reach_split : (at p : ℕ) → at ≤ p → reach unguarded t text 0 p ≡ max (reach unguarded t text 0 at) (reach unguarded t text at p)
  unfolding reach
  reach_split at p h =
      let whole : p - 0 ≡ at + (p - at) = omega arith in
      let front : at - 0 ≡ at = omega arith in
      let start : 0 + at ≡ at = omega arith in
      ap (λ (n : ℕ). most (reach_at unguarded t text) (count_from 0 n)) whole
      ∙ most-split (reach_at unguarded t text) 0 at (p - at)
      ∙ rw (front, start)

-- ---- the verdict

-- A place that is to be judged, and what is known before it.
pub record Looking (unguarded : Bool) (t : TokenList) (text : List ℕ) (at ahead p : ℕ) : Type 0 where
  pub fine : Fine t text
  pub above : 0 < p
  pub inside : p < length text
  pub edge : Edge text p
  pub known : Known unguarded t text at ahead p

module _ {unguarded : Bool} {t : TokenList} {text : List ℕ} {at ahead p : ℕ} (l : Looking unguarded t text at ahead p) where
  abbrev here : ℕ
  here = reach unguarded t text at p

  -- It is blocked from before it,
  pub judged_back : (r : ℕ) → cond (leb p here) (Some here) None ≡ Some r → BlockedTo unguarded t text p r
  judged_back r e = go (leb p here) refl e
    where
      go : (b : Bool) → leb p here ≡ b → cond b (Some here) None ≡ Some r → BlockedTo unguarded t text p r
      go false n e = absurd (none-some r e)
      go true q e =
          let is : here ≡ r = same_Some here r e in
          let far : p ≤ here = leb-true p here q in
          record {
            low = omega arith;
            high = omega (arith, reach-within unguarded t text l.fine at p);
            all_blocked = λ q h k. reach_blocks unguarded t text l.fine at p q l.above h (omega arith);
            past = omega (arith, reach_split unguarded t text at p l.known.low, l.known.past);
          }

  -- or not:
  pub not_back : cond (leb p here) (Some here) None ≡ None → reach unguarded t text 0 p < p
  not_back e = go (leb p here) refl e
    where
      go : (b : Bool) → leb p here ≡ b → cond b (Some here) None ≡ None → reach unguarded t text 0 p < p
      go true y e = absurd (none-some here (sym e))
      go false n e = omega (arith, leb-false p here n, reach_split unguarded t text at p l.known.low, l.known.past)

  module _ (short : reach unguarded t text 0 p < p) where
    -- it may be known that it has no token ahead,
    pub judged_kept : p < ahead → FreeAt unguarded t text p ahead
    judged_kept h =
        record {
          free = free unguarded t text l.fine p (omega (arith, l.inside)) l.edge short (l.known.clear p l.known.low h l.edge);
          known = record { low = omega arith; edge = l.edge; past = short; clear = λ q h k e. l.known.clear q (omega (arith, l.known.low)) k e };
        }

    -- or one is found,
    pub judged_ahead : (s : ℕ) → find (strips_at t text) (places_ahead text p) ≡ Some s → BlockedTo unguarded t text p s
    unfolding places_ahead
    judged_ahead s e =
        let f = find_where (strips_at t text) p (suc (white_length (drop p text))) s e in
        let near : s ≤ white_end text p = omega (arith, f.high) in
        record {
          low = f.low;
          high = omega (arith, white_end-le text p (omega (arith, l.inside)));
          all_blocked = λ q h k. ahead_blocks unguarded t text l.fine p s q l.edge f.holds f.low near h k;
          past = omega (arith, f.low);
        }

    -- or there is none.
    pub judged_free : (end : ℕ) → find (strips_at t text) (places_ahead text p) ≡ None → end ≡ start_at true text p → FreeAt unguarded t text p (end + 1)
    unfolding start_at
    judged_free end e is =
        let none_ahead : blocked_ahead t text p ≡ false = ahead_nothing t text p e in
        record {
          free = free unguarded t text l.fine p (omega (arith, l.inside)) l.edge short none_ahead;
          known = record {
            low = omega arith;
            edge = l.edge;
            past = short;
            clear = λ q h k e. ahead_kept unguarded t text l.fine p q l.edge e h (omega (arith, white_end-le text p (omega (arith, l.inside)), is)) (omega (arith, is)) none_ahead;
          };
        }
