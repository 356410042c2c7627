-- Ids written into a buffer one unit after the other, each behind what the ones before left, on any tables and into a buffer of any length.
use Rattle.std.specs.Prelude.{ℕ, ◌+◌, min, Bool, List, [], ◌∷◌, ◌++◌, map, length, take, drop, Option}
use Rattle.utf8.specs.Lists.{join_map}
use Rattle.model.specs.Model.{Row}
use Rattle.units.specs.inner.Next.{units_from}
use Rattle.merge.specs.Start.{starting_ids_by, unit_chars, with_virtual_mark}
use Rattle.merge.specs.inner.Laid.{laid}
use Rattle.merge.specs.inner.Turns.{Merged, merged_front}

-- What a buffer becomes, and how many ids then stand at its front.
abbrev pub Writer : Type 0
Writer = List ℕ → Merged

-- Starting ids, laid into the buffer as far as it goes and merged there.
unfoldable pub merging : (ℕ → ℕ → Option Row) → List ℕ → Writer
merging row starts out = merged_front row (min (length starts) (length out)) (laid starts out)

-- A unit, given as its characters.
unfoldable pub unit_writer : (ℕ → ℕ → Option Row) → (List ℕ → Option ℕ) → List ℕ → List (List ℕ) → Writer
unit_writer row own fallback chars = merging row (join_map (starting_ids_by own fallback) chars)

-- What was written, and then the next in the buffer behind it.
unfoldable pub then_writes : Merged → Writer → Merged
then_writes one next =
    let more = next (drop one.count one.ids) in
    record { count = one.count + more.count; ids = take one.count one.ids ++ more.ids }

unfoldable pub in_turn : List Writer → Writer
in_turn [] out = record { count = 0; ids = out }
in_turn (writer ∷ writers) out = then_writes (writer out) (in_turn writers)

-- Units, with a virtual mark in the first where there is one.
unfoldable pub unit_writers : (ℕ → ℕ → Option Row) → (List ℕ → Option ℕ) → List ℕ → Bool → Bool → List (List ℕ) → List Writer
unit_writers row own fallback virtual raw units = map (unit_writer row own fallback) (with_virtual_mark virtual (map (unit_chars raw) units))

-- A stretch of bytes; cuts says where a unit starts.
unfoldable pub stretch_writer : (ℕ → ℕ → Option Row) → (List ℕ → Option ℕ) → List ℕ → (ℕ → Bool) → Bool → Bool → List ℕ → Writer
stretch_writer row own fallback cuts virtual raw bytes = in_turn (unit_writers row own fallback virtual raw (units_from cuts bytes 0))
