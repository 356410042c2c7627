-- Laws of a stretch's units, one after the other. Assumes nothing.
use Rattle.std.specs.Prelude.{Option}
use Prim.Native.Nat.{ℕ, suc, ◌+◌, ◌-◌, ◌≤◌, ◌<◌}
use native.Mathlib.Omega.{arith}
use mathlib.Core.Path.{◌≡◌, refl, sym, ap, ◌∙◌}
use mathlib.Core.Bool.{Bool, false}
use mathlib.Core.Logic.{⊎_elim}
use mathlib.Core.List.{List, [], ◌∷◌, ◌++◌, map}
use borrow.Author.Tests.{leb-true, leb-false}
use lib.Dec.{leb}
use lib.ListN.{length, take, drop}
use lib.Seq.{slice}
use Rattle.utf8.specs.Lists.{filter, between, count_from}
use Rattle.utf8.proofs.Tests.{either}
use Rattle.utf8.proofs.Places.{slice_of}
use Rattle.model.specs.Model.{Row}
use Rattle.units.specs.inner.Next.{next_unit, units_from}
use Rattle.units.proofs.NextLaws.{next_past, next_above, next-within, units_more, units-last}
use Rattle.merge.specs.Start.{unit_chars, with_virtual_mark}
use Rattle.merge.specs.inner.Laid.{marked_chars}
use Rattle.merge.specs.inner.Turns.{Merged}
use Rattle.stretches.specs.inner.Writers.{Writer, in_turn, unit_writer, unit_writers, stretch_writer}
use Rattle.stretches.proofs.WriterLaws.{Keeps, keeps_all, keeps_unit, turn_one, turn_two}

-- The unit that starts at from ends at next, where the next one starts or the section ends.
pub record NextUnit (cuts : ℕ → Bool) (section : List ℕ) (from next : ℕ) : Type 0 where
  pub starts : from ≤ next
  pub ends : next ≤ length section
  pub above : next < length section → from < next
  pub more : next < length section → units_from cuts section from ≡ slice from next section ∷ units_from cuts section next
  pub last : length section ≤ next → units_from cuts section from ≡ slice from next section ∷ []

module _ (cuts : ℕ → Bool) (section : List ℕ) where
  past-last : (from : ℕ) → length section ≤ from → units_from cuts section from ≡ slice from (length section) section ∷ []
  unfolding units_from
  past-last from h =
      let none_left : length section - suc from ≡ 0 = omega arith in
      ap (λ (n : ℕ). between (from ∷ filter cuts (count_from (suc from) n) ++ (length section ∷ [])) section) none_left

  pub next-unit : (from next : ℕ) → from ≤ length section → next ≡ next_unit cuts section from → NextUnit cuts section from next
  next-unit from next h e =
      ⊎_elim
      (λ t.
      let past : length section ≤ from = leb-true (length section) from t in
      let is : next ≡ length section = e ∙ next_past cuts section from past in
      record {
        starts = omega arith;
        ends = omega arith;
        above = λ l. absurd (omega arith);
        more = λ l. absurd (omega arith);
        last = λ l. past-last from past ∙ rw is;
      })
      (λ t.
      let inside : from < length section = leb-false (length section) from t in
      record {
        starts = omega (arith, next_above cuts section from inside);
        ends = omega (arith, next-within cuts section from inside);
        above = λ l. omega (arith, next_above cuts section from inside);
        more = λ l. rw e (units_more cuts section from inside (rw e at l));
        last = λ l.
            let is : next ≡ length section = omega (arith, next-within cuts section from inside) in
            units-last cuts section from inside (omega arith) ∙ rw is;
      })
      (either (leb (length section) from))

-- ---- the writers of units, the first apart from the others

unmarked : (us : List (List (List ℕ))) → with_virtual_mark false us ≡ us
unfolding with_virtual_mark
unmarked [] = refl
unmarked (u ∷ us) = refl

module _ (row : ℕ → ℕ → Option Row) (own : List ℕ → Option ℕ) (fallback : List ℕ) (virtual raw : Bool) (section : List ℕ) (from next : ℕ) where
  pub first_writer : (units rest : List (List ℕ)) → units ≡ slice from next section ∷ rest
      → unit_writers row own fallback virtual raw units ≡ unit_writer row own fallback (marked_chars virtual raw (take (next - from) (drop from section))) ∷ unit_writers row own fallback false raw rest
  unfolding unit_writers with_virtual_mark marked_chars
  first_writer units rest is = rw (is, unmarked (map (unit_chars raw) rest), slice_of from next section)

module _ (row : ℕ → ℕ → Option Row) (own : List ℕ → Option ℕ) (fallback : List ℕ) (raw : Bool) where
  pub keeps_units : (us : List (List ℕ)) → Keeps (in_turn (unit_writers row own fallback false raw us))
  unfolding unit_writers
  keeps_units us = keeps_all (unit_writer row own fallback) (keeps_unit row own fallback) (with_virtual_mark false (map (unit_chars raw) us))

  pub keeps_stretch_by : (virtual : Bool) (cuts : ℕ → Bool) (section : List ℕ) → Keeps (stretch_writer row own fallback cuts virtual raw section)
  unfolding stretch_writer unit_writers
  keeps_stretch_by virtual cuts section = keeps_all (unit_writer row own fallback) (keeps_unit row own fallback) (with_virtual_mark virtual (map (unit_chars raw) (units_from cuts section 0)))

  -- A stretch of one unit, and one of several.
  module _ (virtual : Bool) (cuts : ℕ → Bool) (section : List ℕ) (next : ℕ) (u : NextUnit cuts section 0 next) (out : List ℕ) {n : ℕ} {one : List ℕ}
      (is : ◌≡◌ {A = Merged} (record { count = n; ids = one }) (unit_writer row own fallback (marked_chars virtual raw (take (next - 0) (drop 0 section))) out)) where
    pub one_unit : length section ≤ next → ◌≡◌ {A = Merged} (record { count = n; ids = one }) (stretch_writer row own fallback cuts virtual raw section out)
    unfolding stretch_writer unit_writers with_virtual_mark
    one_unit h =
        is ∙ sym (ap (λ (ws : List Writer). in_turn ws out) (first_writer row own fallback virtual raw section 0 next _ [] (u.last h)) ∙ turn_one (unit_writer row own fallback (marked_chars virtual raw (take (next - 0) (drop 0 section)))) out)

    pub more_units : next < length section → {k : ℕ} {after : List ℕ}
        → ◌≡◌ {A = Merged} (record { count = k; ids = after }) (in_turn (unit_writers row own fallback false raw (units_from cuts section next)) (take (length one - n) (drop n one)))
        → ◌≡◌ {A = Merged} (record { count = n + k; ids = take n one ++ (after ++ drop (length one - n) (drop n one)) }) (stretch_writer row own fallback cuts virtual raw section out)
    unfolding stretch_writer
    more_units h e =
        turn_two (unit_writer row own fallback (marked_chars virtual raw (take (next - 0) (drop 0 section)))) (unit_writers row own fallback false raw (units_from cuts section next)) out is e
        ∙ sym (ap (λ (ws : List Writer). in_turn ws out) (first_writer row own fallback virtual raw section 0 next _ (units_from cuts section next) (u.more h)))
