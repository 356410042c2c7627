-- Laws of units that come again: what is remembered of a unit, and its ids copied. Assumes nothing.
use Rattle.std.specs.Prelude.{Option}
use Prim.Native.Nat.{ℕ, ◌+◌, ◌-◌, ◌≤◌, ◌<◌, min}
use native.Mathlib.Omega.{arith}
use mathlib.Core.Path.{◌≡◌, refl, sym, ap, ap₂, ◌∙◌}
use mathlib.Core.Bool.{Bool, true, false, ◌&&◌}
use mathlib.Core.Logic.{⊎_elim}
use mathlib.Core.List.{List, [], ◌∷◌, ◌++◌, append_assoc, append-nil}
use borrow.Author.Tests.{eqb-true, eqb-false, ltb-true}
use lib.Dec.{eqb, ltb}
use lib.ListN.{length, take, drop, get_or, set, replicate, length-append, length-take, length-drop, length-set, length-replicate, get_or-replicate, drop_of_length-le}
use lib.Seq.{length-take-le, take-append-le, take_at, drop_at, drop-drop, take-take, get_or-set_same, get_or-set_other}
use Rattle.utf8.specs.Lists.{join_map, same}
use Rattle.utf8.specs.Chars.{chars}
use Rattle.utf8.proofs.Tests.{either, and_left, and_right}
use Rattle.utf8.proofs.Lists.{part_to_end}
use Rattle.utf8.proofs.Places.{slice_of}
use Rattle.utf8.proofs.Starts.{same-eq}
use Rattle.model.specs.Model.{Row}
use Rattle.model.specs.Answers.{zeros}
use Rattle.merge.specs.Start.{starting_ids_by, unit_chars}
use Rattle.merge.specs.Merge.{merged}
use Rattle.merge.specs.inner.Laid.{marked_chars}
use Rattle.merge.specs.inner.Turns.{Merged, merged_front}
use Rattle.merge.proofs.Laying.{laid_fits}
use Rattle.stretches.specs.declared.repeats.Seen.{Seen}
use Rattle.stretches.specs.inner.Writers.{Writer, merging, unit_writer}
use Rattle.stretches.proofs.WriterLaws.{merged_few, keeps_unit, fits_merging, Going, going_next}

-- ---- cells copied within a buffer

module _ (out : List ℕ) (at count to : ℕ) (behind : at + count ≤ to) (fits : to + count ≤ length out) where
  pub length_copied : length (take count (drop at out)) ≡ count
  length_copied = length-take-le count (drop at out) (omega (arith, length-drop at out))

-- Zeros behind what was copied, in a part that was lent.
pub zeroed : (out copy : List ℕ) (to count starts : ℕ) → length copy ≡ count → count ≤ starts → to + starts ≤ length out
    → {now ys : List ℕ} → now ≡ take to out ++ copy ++ drop (to + count) out → ys ≡ zeros (length (take (to + starts - (to + count)) (drop (to + count) now)))
    → take (to + count) now ++ (ys ++ drop (to + starts - (to + count)) (drop (to + count) now)) ≡ take to out ++ copy ++ zeros (starts - count) ++ drop (to + starts) out
zeroed out copy to count starts long few fits {now} {ys} e z =
    let head = take to out ++ copy in
    let rest = drop (to + count) out in
    let k = to + starts - (to + count) in
    let size : length head ≡ to + count = omega (arith, length-append (take to out) copy, length-take-le to out (omega arith)) in
    let first : take (to + count) now ≡ head = ap (take (to + count)) e ∙ take_at head rest (to + count) size in
    let left : drop (to + count) now ≡ rest = ap (drop (to + count)) e ∙ drop_at head rest (to + count) size in
    let free : length (take k rest) ≡ starts - count = omega (arith, length-take k rest, length-drop (to + count) out) in
    let last : drop k rest ≡ drop (to + starts) out = drop-drop k (to + count) out ∙ ap (λ (n : ℕ). drop n out) (let s : to + count + k ≡ to + starts = omega arith in s) in
    let blank : ys ≡ zeros (starts - count) = z ∙ ap (λ (l : List ℕ). zeros (length (take k l))) left ∙ ap zeros free in
    rw (first, left, blank, last) (sym (append_assoc head (zeros (starts - count)) (drop (to + starts) out)))

-- ---- what is remembered of a unit

-- A unit's starting ids.
abbrev pub starts_of : (List ℕ → Option ℕ) → List ℕ → Bool → List ℕ → ℕ → ℕ → List ℕ
starts_of own fallback raw section from next = join_map (starting_ids_by own fallback) (marked_chars false raw (take (next - from) (drop from section)))

-- The ids that were kept are those of the unit, unless the buffer was too short for its starting ids.
pub record Ids (row : ℕ → ℕ → Option Row) (starts out : List ℕ) (at many count : ℕ) : Type 0 where
  pub whole : length starts ≡ many
  pub ids : merged row starts ≡ take count (drop at out)
  pub left : length (merged row starts) ≡ count

pub record Kept (row : ℕ → ℕ → Option Row) (own : List ℕ → Option ℕ) (fallback : List ℕ) (raw : Bool) (section out : List ℕ) (n : ℕ) (s : Seen) : Type 0 where
  pub starts : s.start ≤ s.end
  pub ends : s.end ≤ length section
  pub before : s.at + s.count ≤ n
  pub ids : s.starts < length out - s.at → Ids row (starts_of own fallback raw section s.start s.end) out s.at s.starts s.count

-- A unit of the same bytes as one that was kept, where there is room for it.
pub record Again (section out : List ℕ) (n : ℕ) (s : Seen) (from next : ℕ) : Type 0 where
  pub room : s.starts < length out - n
  pub alike : take (s.end - s.start) (drop s.start section) ≡ take (next - from) (drop from section)
  pub few : s.count ≤ s.starts

-- A part before n stays as it is where the first n elements do.
part_stays : (a k n : ℕ) (l l' : List ℕ) → a + k ≤ n → take n l' ≡ take n l → take k (drop a l) ≡ take k (drop a l')
part_stays a k n l l' h e = near l ∙ ap (λ (m : List ℕ). take k (drop a m)) (sym e) ∙ sym (near l')
  where
    near : (m : List ℕ) → take k (drop a m) ≡ take k (drop a (take n m))
    near m = sym (take-take k (n - a) (drop a m) (omega arith)) ∙ ap (take k) (slice_of a n m)

unit_in_room : (row : ℕ → ℕ → Option Row) (starts out : List ℕ) → length starts ≤ length out
    → merging row starts out ≡ record { count = length (merged row starts); ids = merged row starts ++ zeros (length starts - length (merged row starts)) ++ drop (length starts) out }
unfolding merging merged_front
unit_in_room row starts out h =
    let all : min (length starts) (length out) ≡ length starts = omega arith in
    rw (all, laid_fits starts out h, take_at starts (drop (length starts) out) (length starts) refl, drop_at starts (drop (length starts) out) (length starts) refl)

module _ {row : ℕ → ℕ → Option Row} {own : List ℕ → Option ℕ} {fallback : List ℕ} {raw : Bool} {section : List ℕ} where
  -- Nothing is a unit of no bytes.
  pub kept-none : (out : List ℕ) (n : ℕ) → Kept row own fallback raw section out n (record { start = 0; end = 0; at = 0; starts = 0; count = 0 })
  unfolding marked_chars unit_chars chars merged
  kept-none out n = record { starts = omega arith; ends = omega arith; before = omega arith; ids = λ h. record { whole = refl; ids = refl; left = refl } }

  -- What was kept stays so while cells behind it are written.
  pub kept_on : {out out' : List ℕ} {n n' : ℕ} {s : Seen} → Kept row own fallback raw section out n s → length out' ≡ length out → take n out' ≡ take n out → n ≤ n' → Kept row own fallback raw section out' n' s
  kept_on {out} {out'} {n} {n'} {s} k long front le = record {
    starts = k.starts;
    ends = k.ends;
    before = omega (arith, k.before);
    ids = λ h.
        let i = k.ids (omega arith) in
        record { whole = i.whole; ids = i.ids ∙ part_stays s.at s.count n out out' k.before front; left = i.left };
  }

  -- A unit that was just encoded.
  pub kept_new : (from next : ℕ) (out : List ℕ) {n m k : ℕ} {after : List ℕ} → from ≤ next → next ≤ length section → n ≤ length out
      → ◌≡◌ {A = Merged} (record { count = k; ids = after }) (unit_writer row own fallback (marked_chars false raw (take (next - from) (drop from section))) (take (length out - n) (drop n out)))
      → m ≡ min (length (starts_of own fallback raw section from next)) (length (take (length out - n) (drop n out)))
      → Kept row own fallback raw section (take n out ++ (after ++ drop (length out - n) (drop n out))) (n + k) (record { start = from; end = next; at = n; starts = m; count = k })
  unfolding unit_writer
  kept_new from next out {n} {m} {k} {after} h₁ h₂ within e f =
      let tail = take (length out - n) (drop n out) in
      let starts = starts_of own fallback raw section from next in
      let keeps = keeps_unit row own fallback (marked_chars false raw (take (next - from) (drop from section))) in
      let long : length after ≡ length tail = ap (λ (d : Merged). length d.ids) e ∙ keeps.long tail in
      let inside : k ≤ length tail = omega (arith, ap (λ (d : Merged). d.count) e, keeps.inside tail) in
      let size : length (take n out) ≡ n = length-take-le n out within in
      let rest = after ++ drop (length out - n) (drop n out) in
      let whole : length (take n out ++ rest) ≡ length out = omega (arith, length-append (take n out) rest, length-append after (drop (length out - n) (drop n out)), length-drop (length out - n) (drop n out), length-drop n out, length-take (length out - n) (drop n out)) in
      record {
        starts = h₁;
        ends = h₂;
        before = omega arith;
        ids = λ h.
            let room : length starts ≤ length tail = omega (arith, length-take (length out - n) (drop n out), length-drop n out) in
            let fits = fits_merging row starts in
            let left : length (merged row starts) ≡ k = sym (ap (λ (d : Merged). d.count) e ∙ fits.count tail room) in
            let part : take k (drop n (take n out ++ rest)) ≡ take k after = ap (take k) (drop_at (take n out) rest n size) ∙ take-append-le k after (drop (length out - n) (drop n out)) (omega arith) in
            record {
              whole = omega arith;
              ids = sym (part ∙ ap (λ (d : Merged). take k d.ids) e ∙ ap (λ (j : ℕ). take j (merging row starts tail).ids) (sym left) ∙ fits.front tail room);
              left = left;
            };
      }

  -- No more ids are left than there were.
  kept_few : {out : List ℕ} {n : ℕ} {s : Seen} → Kept row own fallback raw section out n s → s.starts < length out - n → s.count ≤ s.starts
  kept_few {s = s} k room =
      let i = k.ids (omega (arith, k.before)) in
      omega (arith, i.whole, i.left, merged_few row (starts_of own fallback raw section s.start s.end))

  pub again : {out : List ℕ} {n : ℕ} {s : Seen} (from next : ℕ) {r : Bool} → Kept row own fallback raw section out n s
      → r ≡ (ltb s.starts (length out - n) && same (take (s.end - s.start) (drop s.start section)) (take (next - from) (drop from section))) → r ≡ true
      → Again section out n s from next
  again {out} {n} {s} from next k e t =
      let both = sym e ∙ t in
      let room : s.starts < length out - n = ltb-true s.starts (length out - n) (and_left (ltb s.starts (length out - n)) (same (take (s.end - s.start) (drop s.start section)) (take (next - from) (drop from section))) both) in
      record {
        room = room;
        alike = same-eq (take (s.end - s.start) (drop s.start section)) (take (next - from) (drop from section)) (and_right (ltb s.starts (length out - n)) (same (take (s.end - s.start) (drop s.start section)) (take (next - from) (drop from section))) both);
        few = kept_few k room;
      }

  -- Its ids, copied.
  pub going_repeated : {whole rest ws : List Writer} {before out after : List ℕ} {n : ℕ} {s : Seen} {from next : ℕ} → Going whole rest before out n → Kept row own fallback raw section out n s → Again section out n s from next
      → rest ≡ unit_writer row own fallback (marked_chars false raw (take (next - from) (drop from section))) ∷ ws
      → after ≡ take n out ++ take s.count (drop s.at out) ++ zeros (s.starts - s.count) ++ drop (n + s.starts) out
      → Going whole ws before after (n + s.count)
  unfolding unit_writer
  going_repeated {ws = ws} {out = out} {after = after} {n = n} {s = s} {from = from} {next = next} g k a is as-copied =
      let u = take (next - from) (drop from section) in
      let w = unit_writer row own fallback (marked_chars false raw u) in
      let room = a.room in
      let i = k.ids (omega (arith, k.before)) in
      let tail = drop n out in
      let ids = take s.count (drop s.at out) in
      let starts = join_map (starting_ids_by own fallback) (marked_chars false raw u) in
      let like : starts_of own fallback raw section s.start s.end ≡ starts = ap (λ (l : List ℕ). join_map (starting_ids_by own fallback) (marked_chars false raw l)) a.alike in
      let many : length starts ≡ s.starts = ap length (sym like) ∙ i.whole in
      let done : merged row starts ≡ ids = ap (merged row) (sym like) ∙ i.ids in
      let left : length (merged row starts) ≡ s.count = ap (λ (l : List ℕ). length (merged row l)) (sym like) ∙ i.left in
      let put = ids ++ zeros (s.starts - s.count) ++ drop s.starts tail in
      let written : ◌≡◌ {A = Merged} (record { count = s.count; ids = put }) (w (take (length out - n) tail)) =
      sym
      (ap w (part_to_end out n)
      ∙ unit_in_room row starts tail (omega (arith, length-drop n out))
      ∙ rw (left, many, done)) in
      let none' : drop (length out - n) tail ≡ [] = drop_of_length-le tail {i = length out - n} (omega (arith, length-drop n out)) in
      let shape : take n out ++ (put ++ drop (length out - n) tail) ≡ after =
      ap (λ (l : List ℕ). take n out ++ (put ++ l)) none'
      ∙ ap (λ (l : List ℕ). take n out ++ l) (append-nil put)
      ∙ sym (append_assoc (take n out) (ids ++ zeros (s.starts - s.count)) (drop s.starts tail))
      ∙ ap₂ (λ (x y : List ℕ). x ++ y) (sym (append_assoc (take n out) ids (zeros (s.starts - s.count)))) (drop-drop s.starts n out)
      ∙ sym as-copied in
      ap_going shape (going_next g w ws is (keeps_unit row own fallback (marked_chars false raw u)) written)
    where
      ap_going : {whole ws : List Writer} {before x y : List ℕ} {m : ℕ} → x ≡ y → Going whole ws before x m → Going whole ws before y m
      ap_going e h = rw e at h

-- ---- the slots

-- How many there are, and what each holds.
pub record Table (row : ℕ → ℕ → Option Row) (own : List ℕ → Option ℕ) (fallback : List ℕ) (raw : Bool) (section out : List ℕ) (n size : ℕ) (seen : List Seen) : Type 0 where
  pub long : length seen ≡ size
  pub each : (i : ℕ) (d : Seen) → i < size → Kept row own fallback raw section out n (get_or seen i d)

module _ {row : ℕ → ℕ → Option Row} {own : List ℕ → Option ℕ} {fallback : List ℕ} {raw : Bool} {section : List ℕ} {size : ℕ} where
  pub table-start : (out : List ℕ) → Table row own fallback raw section out 0 size (replicate size (record { start = 0; end = 0; at = 0; starts = 0; count = 0 }))
  table-start out = record {
    long = length-replicate size _;
    each = λ i d h. rw (get_or-replicate size i (record { start = 0; end = 0; at = 0; starts = 0; count = 0 }) d h) (kept-none out 0);
  }

  -- Where cells behind the n-th are written.
  pub table_on : {out out' : List ℕ} {n n' : ℕ} {seen : List Seen} → Table row own fallback raw section out n size seen → n ≤ length out → (rest : List ℕ) → out' ≡ take n out ++ rest → length out' ≡ length out → n ≤ n' → Table row own fallback raw section out' n' size seen
  table_on {out} {out'} {n} t within rest e long le =
      let front : take n out' ≡ take n out = ap (take n) e ∙ take_at (take n out) rest n (length-take-le n out within) in
      record { long = t.long; each = λ i d h. kept_on (t.each i d h) long front le }

  pub table-put : {out : List ℕ} {n : ℕ} {seen : List Seen} (slot : ℕ) (s : Seen) → Table row own fallback raw section out n size seen → slot < size → Kept row own fallback raw section out n s → Table row own fallback raw section out n size (set seen slot s)
  table-put {seen = seen} slot s t inside k = record {
    long = length-set seen slot s ∙ t.long;
    each = λ i d h.
        ⊎_elim
        (λ e. let here : i ≡ slot = eqb-true i slot e in rw (here, get_or-set_same seen slot s d (omega (arith, t.long))) k)
        (λ e. rw (get_or-set_other seen slot i s d (eqb-false i slot e)) (t.each i d h))
        (either (eqb i slot));
  }

  -- After ids were copied.
  pub table_repeated : {whole rest ws : List Writer} {before out after : List ℕ} {n : ℕ} {seen : List Seen} (s : Seen) → Table row own fallback raw section out n size seen → Going whole rest before out n → Going whole ws before after (n + s.count)
      → after ≡ take n out ++ take s.count (drop s.at out) ++ zeros (s.starts - s.count) ++ drop (n + s.starts) out → Table row own fallback raw section after (n + s.count) size seen
  table_repeated {out = out} {n = n} s t g h e =
      let ids = take s.count (drop s.at out) in
      let free = zeros (s.starts - s.count) in
      let behind = drop (n + s.starts) out in
      table_on t g.within (ids ++ free ++ behind)
      (e
      ∙ ap (λ (l : List ℕ). l ++ behind) (append_assoc (take n out) ids free)
      ∙ append_assoc (take n out) (ids ++ free) behind)
      (h.long ∙ sym g.long) (omega arith)
