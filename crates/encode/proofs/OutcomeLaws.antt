-- Laws of what encoding leaves: by the two passes, and by an accepted model with its derived rows. Assumes nothing.
use Prim.Native.Nat.{ℕ, ◌+◌, ◌-◌, ◌≤◌, ◌<◌, min}
use native.Mathlib.Omega.{arith}
use Rattle.std.specs.Prelude.{Option, Some, None}
use mathlib.Core.Path.{◌≡◌, sym, ap, ◌∙◌}
use mathlib.Core.Bool.{Bool, false, cond}
use mathlib.Core.Logic.{⊎_elim}
use mathlib.Core.List.{List, ◌++◌, map}
use borrow.Author.Tests.{lt-ltb, le-ltb, ltb-true, ltb-false}
use lib.Dec.{ltb}
use lib.ListN.{length, take, length-append, length-take, length-replicate}
use Rattle.utf8.specs.Lists.{join_map, sum}
use Rattle.utf8.proofs.Tests.{either}
use Rattle.model.specs.Answers.{zeros, done, refused, filled, place_of, Outcome, outcome}
use Rattle.model.specs.Check.{check_number}
use Rattle.model.specs.Model.{Model, TokenList}
use Rattle.model.specs.declared.Answer.{Answer}
use Rattle.units.specs.Kinds.{raw_path}
use Rattle.units.specs.declared.RawPrepend.{RawPrepend}
use Rattle.units.proofs.AdjacencyLaws.{Small}
use Rattle.merge.specs.inner.Turns.{Merged}
use Rattle.merge.specs.declared.Symbols.{Symbols}
use Rattle.normalise.specs.Normalise.{outgrows}
use Rattle.prepare.specs.Prepare.{derived_adjacency, derived_index}
use Rattle.sections.specs.Sections.{Item, taken_apart, sections}
use Rattle.stretches.specs.Stretches.{Stretch, ids_of, drops_of, starts_of, held}
use Rattle.stretches.specs.inner.Tables.{Tables, own_in}
use Rattle.stretches.specs.inner.Parts.{parts_symbols, parts_writer}
use Rattle.stretches.proofs.WriterLaws.{Each}
use Rattle.stretches.proofs.PartLaws.{keeps_parts}
use Rattle.stretches.proofs.DerivedLaws.{tables_with, tables_of, OfBytes, parts-counted, parts-written}
use Rattle.encode.specs.Parts.{raw_stretch, stretches_of, parts}
use Rattle.encode.specs.Encode.{encoded_ids, drops, starting_count}
use Rattle.encode.specs.inner.Passes.{parts_outcome, counted, text_stretches, text_outputs, text_outcome}
use Rattle.encode.proofs.ItemLaws.{counts_found, long_found}
use Rattle.encode.proofs.BytesLaws.{raw-bytes}

module _ (t : Tables) (parts : List (Item Stretch)) (out : List ℕ) where
  module _ {s : Symbols} (counted : s ≡ parts_symbols (own_in t) t.fallback parts (length out + 1)) where
    pub outcome_short : {r : Answer} → r ≡ refused 12 0 → length out < s.count → ◌≡◌ {A = Outcome} (record { answer = r; out = out }) (parts_outcome t parts out)
    unfolding parts_outcome
    outcome_short e h = rw (← counted, lt-ltb (length out) s.count h, e)

    pub outcome-written : {r : Answer} {k : ℕ} {middle last : List ℕ} → ◌≡◌ {A = Merged} (record { count = k; ids = middle }) (parts_writer t parts out) → last ≡ take k middle ++ zeros (length middle - k)
        → r ≡ done k s.drops 0 → s.count ≤ length out → ◌≡◌ {A = Outcome} (record { answer = r; out = last }) (parts_outcome t parts out)
    unfolding parts_outcome
    outcome-written {k = k} {middle = middle} written is e h =
        let long : length middle ≡ length out = ap (λ (d : Merged). length d.ids) written ∙ (keeps_parts t parts).long out in
        rw (← counted, le-ltb (length out) s.count h, ← written, e, is, long)

  module _ {k : ℕ} {middle : List ℕ} (written : ◌≡◌ {A = Merged} (record { count = k; ids = middle }) (parts_writer t parts out)) where
    pub written_inside : k ≤ length middle
    written_inside = omega (arith, ap (λ (d : Merged). d.count) written, (keeps_parts t parts).inside out, ap (λ (d : Merged). length d.ids) written, (keeps_parts t parts).long out)

    pub cleared_long : {last : List ℕ} → last ≡ take k middle ++ zeros (length middle - k) → length last ≡ length out
    cleared_long e =
        omega
        (arith, ap length e, length-append (take k middle) (zeros (length middle - k)), length-take k middle, length-replicate {A = ℕ} (length middle - k) 0, written_inside, ap (λ (d : Merged). length d.ids) written, (keeps_parts t parts).long out)

-- A text, by what the first pass found.
module _ (t : Tables) (outputs : Bool → List ℕ → List (List ℕ)) (stretches : Bool → List ℕ → List (Item Stretch)) (first : TokenList) (text : List ℕ) (room : ℕ) (out : List ℕ) where
  abbrev long : Bool
  long = outgrows (text_outputs outputs first text) room

  abbrev parts_of : List (Item Stretch)
  parts_of = text_stretches stretches first text

  abbrev symbols : Symbols
  symbols = parts_symbols (own_in t) t.fallback parts_of (length out + 1)

  module _ {r : Option Symbols} (e : r ≡ counted long symbols) where
    pub text_long : r ≡ None → {x : Answer} → x ≡ refused 11 0 → ◌≡◌ {A = Outcome} (record { answer = x; out = out }) (text_outcome t outputs stretches first text room out)
    unfolding text_outcome
    text_long f g = rw (long_found long symbols (sym f ∙ e), g)

    module _ {s : Symbols} (f : r ≡ Some s) where
      pub text_fine : long ≡ false
      text_fine = (counts_found long symbols (sym f ∙ e)).0

      told : s ≡ symbols
      told = (counts_found long symbols (sym f ∙ e)).1

      pub text_short : {x : Answer} → x ≡ refused 12 0 → length out < s.count → ◌≡◌ {A = Outcome} (record { answer = x; out = out }) (text_outcome t outputs stretches first text room out)
      unfolding text_outcome
      text_short g h = rw text_fine (outcome_short t parts_of out told g h)

      pub text_written : {x : Answer} {k : ℕ} {middle last : List ℕ} → ◌≡◌ {A = Merged} (record { count = k; ids = middle }) (parts_writer t parts_of out) → last ≡ take k middle ++ zeros (length middle - k)
          → x ≡ done k s.drops 0 → s.count ≤ length out → ◌≡◌ {A = Outcome} (record { answer = x; out = last }) (text_outcome t outputs stretches first text room out)
      unfolding text_outcome
      text_written written is g h = rw text_fine (outcome-written t parts_of out told written is g h)

-- On an accepted model with its derived rows it is what the definitions say of these parts.
pub outcome_meant : (m : Model) → check_number m ≡ 0 → (parts : List (Item Stretch)) → Each OfBytes parts → (text out : List ℕ)
    → let number = cond {A = ℕ} (ltb (length out) (sum (map (starts_of m) parts))) 12 0 in
    parts_outcome (tables_of m) parts out ≡ outcome number (place_of number text) (done (length (join_map (ids_of m) parts)) (held (sum (map (drops_of m) parts))) 0) (join_map (ids_of m) parts) out
unfolding parts_outcome outcome place_of filled
outcome_meant m fine parts small text out =
    rw (parts-counted m fine parts small (length out + 1))
    (⊎_elim
    (λ t.
    let h : length out < sum (map (starts_of m) parts) = ltb-true (length out) (sum (map (starts_of m) parts)) t in
    let more : length out < min (sum (map (starts_of m) parts)) (length out + 1) = omega arith in
    rw (t, lt-ltb (length out) (min (sum (map (starts_of m) parts)) (length out + 1)) more))
    (λ f.
    let h : sum (map (starts_of m) parts) ≤ length out = ltb-false (length out) (sum (map (starts_of m) parts)) f in
    let fewer : min (sum (map (starts_of m) parts)) (length out + 1) ≤ length out = omega arith in
    let w = parts-written m fine parts small in
    rw (f, le-ltb (length out) (min (sum (map (starts_of m) parts)) (length out + 1)) fewer, w.count out h, w.front out h))
    (either (ltb (length out) (sum (map (starts_of m) parts)))))

-- So on the raw path it is the outcome of the text.
pub raw_meant : (m : Model) → check_number m ≡ 0 → (prepend : RawPrepend) → raw_path m ≡ Some prepend → (continuation : Bool) (text : List ℕ) → Small text → (out : List ℕ)
    → let number = cond {A = ℕ} (ltb (length out) (starting_count m continuation text)) 12 0 in
    parts_outcome (tables_of m) (taken_apart (raw_stretch prepend continuation text) (sections m.first text)) out
    ≡ outcome number (place_of number text) (done (length (encoded_ids m continuation text)) (held (drops m continuation text)) 0) (encoded_ids m continuation text) out
unfolding starting_count encoded_ids drops parts stretches_of
raw_meant m fine prepend e continuation text small out =
    rw e (outcome_meant m fine (taken_apart (raw_stretch prepend continuation text) (sections m.first text)) (raw-bytes prepend continuation text small (sections m.first text)) text out)

-- The same where the two rows are lent.
module _ (m : Model) {adjacency index : List ℕ} (rows : adjacency ≡ derived_adjacency m) (is : index ≡ derived_index m) where
  abbrev pub lent_tables : Tables
  lent_tables = tables_with adjacency index m

  pub text_lent : (outputs : Bool → List ℕ → List (List ℕ)) (stretches : Bool → List ℕ → List (Item Stretch)) (first : TokenList) (text : List ℕ) (room : ℕ) (out : List ℕ)
      → text_outcome lent_tables outputs stretches first text room out ≡ text_outcome (tables_of m) outputs stretches first text room out
  text_lent outputs stretches first text room out = rw (rows, is)
