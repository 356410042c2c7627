-- The two passes over the cuts of a text: the one that counts them, and the one that writes the ranges between them. Assumes nothing.
use Prim.Native.Nat.{ℕ, ◌+◌, ◌-◌, ◌≤◌, ◌<◌, max}
use native.Mathlib.Omega.{arith}
use mathlib.Core.Path.{◌≡◌, refl, sym, ap, ◌∙◌}
use mathlib.Core.Bool.{true, false}
use Rattle.utf8.specs.Chars.{valid}
use mathlib.Core.List.{List, [], ◌∷◌, ◌++◌}
use lib.ListN.{length, take, drop}
use Rattle.fragments.specs.inner.Reach.{reach}
use Rattle.fragments.specs.inner.Search.{first_from, safe_in, cuts_in, numbers_in}
use Rattle.fragments.specs.declared.Cut.{Cut}
use Rattle.fragments.proofs.BlockLaws.{valid-edge}
use Rattle.fragments.proofs.FirstLaws.{First, first-at, first_ended}
use Rattle.fragments.proofs.CutLaws.{Over, safe_over, KnownOver, NextOver, known_later}
use Rattle.fragments.proofs.RangeLaws.{cuts_after, Cutting, ended, more, cut-next, cuts-start, numbers_after, numbers-start, length-numbers, Writing, writing_start, writing_more, written_all, writing_done}

module _ (o : Over) where
  abbrev n : ℕ
  n = length o.text

  -- Nothing is safe at the start, and nothing stands before it.
  unsafe_start : safe_over o 0 ≡ false
  unfolding safe_in
  unsafe_start = refl

  known_start : valid o.text ≡ true → KnownOver o 0 0 1
  unfolding reach
  known_start v = record { low = omega arith; edge = valid-edge o.text v; past = omega arith; clear = λ q l m e. absurd (omega arith) }

  -- Too close to the end: no cut follows.
  pub none_after : (last step : ℕ) → n - last ≤ step → first_from (safe_over o) n (last + step) ≡ n
  none_after last step h = first_ended (safe_over o) n (last + step) (omega arith)

  module _ (step : ℕ) (pos : 0 < step) where
    abbrev after : ℕ → List ℕ
    after = cuts_after (safe_over o) n step

    -- What a search says of the cuts behind the last: there are none,
    module _ (last : ℕ) where
      cut-none : first_from (safe_over o) n (last + step) ≡ n → after last ≡ []
      cut-none e = go (cut-next (safe_over o) n step pos last n (sym e))
        where
          go : Cutting (safe_over o) n step n (after last) → after last ≡ []
          go (ended q e) = e
          go (more q e) = absurd (omega arith)

      -- or it is the next.
      module _ {cut : Cut} (next : NextOver o (last + step) cut) where
        cut-one : after last ≡ cut.place ∷ after cut.place
        cut-one = go (cut-next (safe_over o) n step pos last cut.place next.1.is)
          where
            go : Cutting (safe_over o) n step cut.place (after last) → after last ≡ cut.place ∷ after cut.place
            go (ended q e) = absurd (omega (arith, next.0))
            go (more q e) = e

        first : First (safe_over o) n (last + step) cut.place
        first = rw next.1.is (first-at (safe_over o) n (last + step))

        pub cut_beyond : last < cut.place
        cut_beyond = omega (arith, first.low next.0)

        known_next : KnownOver o cut.place cut.ahead (cut.place + 1)
        known_next = known_later o cut.place cut.ahead cut.place (cut.place + 1) (omega arith) (next.1.known next.0)

    -- ---- counting

    pub record Counting (cuts last ahead : ℕ) : Type 0 where
      pub within : last ≤ n
      pub known : KnownOver o last ahead (last + 1)
      pub few : cuts ≤ last
      pub sum : cuts + length (after last) ≡ length (cuts_in (safe_over o) n step)

    pub counting_start : valid o.text ≡ true → Counting 0 0 0
    counting_start v =
        record { within = omega arith; known = known_start v; few = omega arith; sum = omega (arith, ap length (cuts-start (safe_over o) n step unsafe_start)) }

    module _ {cuts last ahead : ℕ} (c : Counting cuts last ahead) where
      pub counting_next : {cut : Cut} → NextOver o (last + step) cut → Counting (cuts + 1) cut.place cut.ahead
      counting_next next =
          record {
            within = omega (arith, next.0);
            known = known_next last next;
            few = omega (arith, c.few, cut_beyond last next);
            sum = omega (arith, c.sum, ap length (cut-one last next));
          }

      pub counting_done : first_from (safe_over o) n (last + step) ≡ n → cuts ≡ length (cuts_in (safe_over o) n step)
      counting_done e = omega (arith, c.sum, ap length (cut-none last e))

    -- ---- writing

    abbrev numbers : List ℕ
    numbers = numbers_in (safe_over o) n step

    pub record Ranging (before out : List ℕ) (written last ahead : ℕ) : Type 0 where
      pub within : last ≤ n
      pub known : KnownOver o last ahead (last + 1)
      pub writing : Writing numbers before out written (numbers_after n last (after last))

    pub ranging_start : (out : List ℕ) → valid o.text ≡ true → length numbers ≤ length out → Ranging out out 0 0 0
    ranging_start out v h =
        record { within = omega arith; known = known_start v; writing = rw (← numbers-start (safe_over o) n step unsafe_start) (writing_start numbers out h) }

    -- A range needs two cells, and there is room.
    pub ranging_room : {before out : List ℕ} {written last ahead : ℕ} → Ranging before out written last ahead → written + 2 ≤ length out
    ranging_room {last = last} r = omega (arith, r.writing.room, length-numbers n last (after last))

    module _ {before out : List ℕ} {written last ahead : ℕ} (r : Ranging before out written last ahead) {put : List ℕ} where
      pub ranging_next : {cut : Cut} → NextOver o (last + step) cut → put ≡ take written out ++ (last ∷ cut.place ∷ drop (written + 2) out) → Ranging before put (written + 2) cut.place cut.ahead
      ranging_next {cut} next is =
          record {
            within = omega (arith, next.0);
            known = known_next last next;
            writing = writing_more numbers before out written last cut.place (numbers_after n cut.place (after cut.place)) put (rw (cut-one last next) at r.writing) is;
          }

      module _ (none : first_from (safe_over o) n (last + step) ≡ n) (is : put ≡ take written out ++ (last ∷ n ∷ drop (written + 2) out)) where
        last_one : Writing numbers before put (written + 2) []
        last_one = writing_more numbers before out written last n [] put (rw (cut-none last none) at r.writing) is

        pub ranging_count : written + 2 ≡ length numbers
        ranging_count = written_all numbers before put (written + 2) last_one

        pub ranging_done : put ≡ numbers ++ drop (written + 2) before
        ranging_done = writing_done numbers before put (written + 2) last_one ∙ ap (λ (k : ℕ). numbers ++ drop k before) (sym ranging_count)

-- Cuts are one byte apart at least.
pub some_step : (target : ℕ) → 0 < max target 1
some_step target = omega arith
