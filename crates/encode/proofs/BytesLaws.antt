-- A text of bytes is one of bytes after the steps, after the second list and after metaspace. Assumes nothing.
use Rattle.std.specs.Prelude.{Option, None, Some}
use Prim.Native.Nat.{ℕ, zero, suc, ◌-◌, ◌≤◌, ◌<◌, max}
use native.Mathlib.Omega.{arith}
use mathlib.Core.Path.{◌≡◌, refl, sym, ◌∙◌, subst}
use mathlib.Core.Bool.{Bool, true, false, not, cond, ◌&&◌, ◌||◌}
use mathlib.Core.List.{List, [], ◌∷◌, ◌++◌}
use lib.Dec.{eqb, leb, ltb}
use lib.ListN.{length, take, drop, length-drop, take-append-drop}
use lib.Seq.{slice}
use Rattle.utf8.specs.Lists.{all, any, Range, within, is_empty, join_map, cut_for, same, starts_with, last_or}
use Rattle.utf8.specs.Chars.{chars, char_width, char_forms, has_form, width_among, is_char, valid}
use Rattle.utf8.specs.WhiteSpace.{trim_start, trim_end}
use Rattle.utf8.proofs.Trim.{trim_start_trimmed, trim_end_trimmed}
use Rattle.model.specs.Model.{TokenList, contents, step_string, spans_of}
use Rattle.model.specs.Check.{step_spans, no_text, bad_step}
use Rattle.utf8.proofs.Tests.{and_left, and_right, or_left, or_right, within-high}
use Rattle.utf8.proofs.Places.{any_append}
use borrow.Author.Tests.{not-false, ltb-true}
use Rattle.model.specs.Mark.{mark}
use Rattle.model.specs.declared.Span.{Span}
use Rattle.model.specs.declared.Step.{Step}
use Rattle.model.specs.declared.Step.TheVariants.{Prepend, Replace, CollapseSpaces, Strip}
use Rattle.model.specs.declared.Metaspace.{Metaspace}
use Rattle.normalise.specs.Steps.{prepended, occurrences, replaced, space_run, collapsed, stripped, applied, outputs_of}
use Rattle.normalise.specs.Spaces.{spaces_marked, scheme_prepends, mark_prepended, metaspace_output, metaspaced}
use Rattle.units.specs.declared.RawPrepend.{RawPrepend}
use Rattle.units.proofs.AdjacencyLaws.{Small}
use Rattle.sections.specs.declared.Match.{Match}
use Rattle.sections.specs.Matches.{first_match}
use Rattle.sections.specs.Sections.{Item, token, plain, taken_apart, stop_before, start_after, Section, bytes_of}
use Rattle.sections.specs.SecondList.{NormalPart, normal_part_of, normal_parts_around, normal_parts_for, normal_parts}
use Rattle.stretches.specs.Stretches.{Stretch, stretch}
use Rattle.stretches.proofs.WriterLaws.{Each, none_left, one_more, each, each_append}
use Rattle.stretches.proofs.DerivedLaws.{OfBytes, token-fine, bytes-fine}
use Rattle.encode.specs.Parts.{virtual_mark, raw_stretch}
use Rattle.encode.specs.inner.Passes.{Normal, part_stretch, parts_in, stretches_in, section_stretches}

-- ---- what holds of each element

pub on_cond : {A : Type 0} (P : A → Type 0) (b : Bool) {x y : A} → P x → P y → P (cond b x y)
on_cond P true p q = p
on_cond P false p q = q

module _ {A : Type 0} {P : A → Type 0} where
  pub each_take : (n : ℕ) {xs : List A} → Each P xs → Each P (take n xs)
  each_take zero ps = none_left
  each_take (suc n) none_left = none_left
  each_take (suc n) (one_more p ps) = one_more p (each_take n ps)

  pub each_drop : (n : ℕ) {xs : List A} → Each P xs → Each P (drop n xs)
  each_drop zero ps = ps
  each_drop (suc n) none_left = none_left
  each_drop (suc n) (one_more p ps) = each_drop n ps

  pub each_slice : (from to : ℕ) {xs : List A} → Each P xs → Each P (slice from to xs)
  each_slice from to ps = each_drop from (each_take to ps)

  each_cut : (turns : ℕ) (width : List A → ℕ) {xs : List A} → Each P xs → Each (Each P) (cut_for turns width xs)
  each_cut zero width ps = none_left
  each_cut (suc turns) width none_left = none_left
  each_cut (suc turns) width (one_more {x} {xs} p ps) =
      let w = max 1 (width (x ∷ xs)) in one_more (each_take w (one_more p ps)) (each_cut turns width (each_drop w (one_more p ps)))

pub each_joined : {A B : Type 0} {P : A → Type 0} {Q : B → Type 0} (f : A → List B) → ((x : A) → P x → Each Q (f x)) → {xs : List A} → Each P xs → Each Q (join_map f xs)
each_joined f holds none_left = none_left
each_joined f holds (one_more p ps) = each_append (holds _ p) (each_joined f holds ps)

-- ---- lists of bytes

abbrev pub Bytes : List ℕ → Type 0
Bytes l = Each (λ (b : ℕ). b < 256) l

pub bytes_small : {l : List ℕ} → Bytes l → Small l
bytes_small none_left i = omega arith
bytes_small (one_more p ps) zero = p
bytes_small (one_more p ps) (suc i) = bytes_small ps i

pub small_bytes : (l : List ℕ) → Small l → Bytes l
small_bytes [] small = none_left
small_bytes (x ∷ l) small = one_more (small 0) (small_bytes l (λ i. small (suc i)))

mark-bytes : Bytes mark
unfolding mark
mark-bytes = one_more {x = 0xE2} (omega arith) (one_more {x = 0x96} (omega arith) (one_more {x = 0x81} (omega arith) none_left))

-- ---- what is valid UTF-8 is of bytes

abbrev small_form : List Range → Bool
small_form form = all (λ (range : Range). ltb range.1 256) form

form-bytes : (form : List Range) (text : List ℕ) → small_form form ≡ true → has_form form text ≡ true → Bytes (take (length form) text)
form-bytes [] text r h = none_left
form-bytes (range ∷ form) [] r h = none_left
form-bytes (range ∷ form) (b ∷ text) r h =
    let high : b ≤ range.1 = within-high range b (and_left (within range b) (has_form form text) h) in
    let small : range.1 < 256 = ltb-true range.1 256 (and_left (ltb range.1 256) (small_form form) r) in
    one_more (omega arith) (form-bytes form text (and_right (ltb range.1 256) (small_form form) r) (and_right (within range b) (has_form form text) h))

width-bytes : (forms : List (List Range)) (text : List ℕ) → all small_form forms ≡ true → Bytes (take (width_among forms text) text)
width-bytes [] text r = none_left
width-bytes (form ∷ forms) text r = go (has_form form text) refl (width-bytes forms text (and_right (small_form form) (all small_form forms) r))
  where
    go : (b : Bool) → has_form form text ≡ b → Bytes (take (width_among forms text) text) → Bytes (take (cond b (length form) (width_among forms text)) text)
    go true e others = form-bytes form text (and_left (small_form form) (all small_form forms) r) e
    go false e others = others

char-bytes : (text : List ℕ) → Bytes (take (char_width text) text)
unfolding char_width char_forms
char-bytes text = width-bytes char_forms text refl

single : (x w : ℕ) → 0 < w → Bytes (take w (x ∷ [])) → Bytes (x ∷ [])
single x zero h b = absurd (omega arith)
single x (suc w) h (one_more p ps) = one_more p none_left

lone : (text : List ℕ) → is_char (take 1 text) ≡ true → Bytes (take 1 text)
unfolding is_char
lone [] h = none_left
lone (x ∷ text) h = single x (char_width (x ∷ [])) (ltb-true 0 (char_width (x ∷ [])) h) (char-bytes (x ∷ []))

piece-bytes : (text : List ℕ) → is_char (take (max 1 (char_width text)) text) ≡ true → Bytes (take (max 1 (char_width text)) text)
piece-bytes text = go (char_width text) refl
  where
    go : (w : ℕ) → char_width text ≡ w → is_char (take (max 1 w) text) ≡ true → Bytes (take (max 1 w) text)
    go zero z = let one : max 1 0 ≡ 1 = omega arith in rw one (lone text)
    go (suc k) z = let same : max 1 (suc k) ≡ suc k = omega arith in rw same (λ h. subst (λ (n : ℕ). Bytes (take n text)) z (char-bytes text))

text-bytes : (turns : ℕ) (text : List ℕ) → length text ≤ turns → all is_char (cut_for turns char_width text) ≡ true → Bytes text
text-bytes zero [] h e = none_left
text-bytes zero (x ∷ text) h e = absurd (omega arith)
text-bytes (suc turns) [] h e = none_left
text-bytes (suc turns) (x ∷ text) h e =
    let w = max 1 (char_width (x ∷ text)) in
    let less : length (drop w (x ∷ text)) ≤ turns = omega (arith, length-drop w (x ∷ text)) in
    subst Bytes (take-append-drop w (x ∷ text))
    (each_append (piece-bytes (x ∷ text) (and_left (is_char (take w (x ∷ text))) (all is_char (cut_for turns char_width (drop w (x ∷ text)))) e))
    (text-bytes turns (drop w (x ∷ text)) less (and_right (is_char (take w (x ∷ text))) (all is_char (cut_for turns char_width (drop w (x ∷ text)))) e)))

pub valid_bytes : (text : List ℕ) → valid text ≡ true → Bytes text
unfolding valid chars
valid_bytes text e = text-bytes (length text) text (omega arith) e

-- ---- the steps

module _ {content : List ℕ} (c : Bytes content) where
  prepended-bytes : {text : List ℕ} → Bytes text → Bytes (prepended content text)
  unfolding prepended
  prepended-bytes {text} h = on_cond Bytes (is_empty text) h (each_append c h)

  replaced-bytes : (pattern : List ℕ) {text : List ℕ} → Bytes text → Bytes (replaced pattern content text)
  unfolding replaced occurrences chars
  replaced-bytes pattern {text} h =
      on_cond Bytes (is_empty pattern)
      (each_append (each_joined (λ (c : List ℕ). content ++ c) (λ char q. each_append c q) (each_cut (length text) char_width h)) c)
      (each_joined (λ (part : List ℕ). cond (same part pattern) content part) (λ part q. on_cond Bytes (same part pattern) c q)
      (each_cut (length text) (λ (rest : List ℕ). cond (starts_with pattern rest) (length pattern) 1) h))

  collapsed-bytes : {text : List ℕ} → Bytes text → Bytes (collapsed content text)
  unfolding collapsed
  collapsed-bytes {text} h =
      each_joined (λ (part : List ℕ). cond (leb 2 (length part)) content part) (λ part q. on_cond Bytes (leb 2 (length part)) c q)
      (each_cut (length text) (λ (rest : List ℕ). length (space_run rest)) h)

trim_start-bytes : {text : List ℕ} → Bytes text → Bytes (trim_start text)
trim_start-bytes {text} h = rw (trim_start_trimmed text).part (each_drop (length text - length (trim_start text)) h)

trim_end-bytes : {text : List ℕ} → Bytes text → Bytes (trim_end text)
trim_end-bytes {text} h = rw (trim_end_trimmed text).part (each_take (length (trim_end text)) h)

stripped-bytes : (left right : Bool) {text : List ℕ} → Bytes text → Bytes (stripped left right text)
unfolding stripped
stripped-bytes left right {text} h =
    let rest = on_cond Bytes left (trim_start-bytes h) h in
    on_cond Bytes right (trim_end-bytes rest) rest

module _ (bytes : List ℕ) where
  string_bytes : (span : Span) → no_text bytes span ≡ false → Bytes (step_string bytes span)
  unfolding no_text
  string_bytes span e = valid_bytes (step_string bytes span) (not-false (valid (step_string bytes span)) e)

  pub applied-bytes : (step : Step) → any (no_text bytes) (spans_of step) ≡ false → {text : List ℕ} → Bytes text → Bytes (applied bytes step text)
  unfolding applied spans_of
  applied-bytes (Prepend content) e h = prepended-bytes (string_bytes content (or_left (no_text bytes content) false e)) h
  applied-bytes (Replace pattern content) e h =
      replaced-bytes (string_bytes content (or_left (no_text bytes content) false (or_right (no_text bytes pattern) (no_text bytes content || false) e))) (step_string bytes pattern) h
  applied-bytes (CollapseSpaces content) e h = collapsed-bytes (string_bytes content (or_left (no_text bytes content) false e)) h
  applied-bytes (Strip left right) e h = stripped-bytes left right h

  pub stepped-bytes : (steps : List Step) → any (no_text bytes) (join_map spans_of steps) ≡ false → {text : List ℕ} → Bytes text → Bytes (last_or text (outputs_of bytes steps text))
  stepped-bytes [] e h = h
  stepped-bytes (step ∷ steps) e h =
      let both = sym (any_append (no_text bytes) (spans_of step) (join_map spans_of steps)) ∙ e in
      stepped-bytes steps (or_right (any (no_text bytes) (spans_of step)) (any (no_text bytes) (join_map spans_of steps)) both)
      (applied-bytes step (or_left (any (no_text bytes) (spans_of step)) (any (no_text bytes) (join_map spans_of steps)) both) h)

-- ---- metaspace

marked_bytes : {text : List ℕ} → Bytes text → Bytes (spaces_marked text)
unfolding spaces_marked
marked_bytes h = each_joined (λ (b : ℕ). cond (eqb b 0x20) mark (b ∷ [])) (λ b q. on_cond Bytes (eqb b 0x20) mark-bytes (one_more q none_left)) h

pub metaspaced-bytes : (metaspace : Option Metaspace) (first : Bool) {text : List ℕ} → Bytes text → Bytes (metaspaced metaspace first text)
unfolding metaspaced metaspace_output mark_prepended
metaspaced-bytes None first h = h
metaspaced-bytes (Some m) first {text} h =
    on_cond Bytes (scheme_prepends m.prepend first && not (is_empty (spaces_marked text)) && not (starts_with mark (spaces_marked text))) (each_append mark-bytes (marked_bytes h)) (marked_bytes h)

-- ---- items

-- What holds of that which stands between tokens.
pub data Between {A : Type 0} (P : A → Type 0) : Item A → Type 0 where
  token-is : {id : ℕ} → Between P (token id)
  plain-is : {a : A} → P a → Between P (plain a)

taken_bytes : {A : Type 0} {P : A → Type 0} (f : A → List (Item Stretch)) → ((a : A) → P a → Each OfBytes (f a)) → {items : List (Item A)} → Each (Between P) items → Each OfBytes (taken_apart f items)
taken_bytes f holds none_left = none_left
taken_bytes f holds (one_more token-is ps) = one_more token-fine (taken_bytes f holds ps)
taken_bytes f holds (one_more (plain-is p) ps) = each_append (holds _ p) (taken_bytes f holds ps)

abbrev PartOfBytes : NormalPart → Type 0
PartOfBytes part = Bytes part.bytes

part_bytes : (first : Bool) {text : List ℕ} → Bytes text → Each (Between PartOfBytes) (normal_part_of text first)
unfolding normal_part_of
part_bytes first {text} h = on_cond (Each (Between PartOfBytes)) (is_empty text) none_left (one_more (plain-is h) none_left)

parts_for : (turns : ℕ) (t : TokenList) (first : Bool) {text : List ℕ} → Bytes text → Each (Between PartOfBytes) (normal_parts_for turns t first text)
parts_for zero t first h = none_left
parts_for (suc turns) t first {text} h = go (first_match (contents t) 0 text) (λ rest b. parts_for turns t false {text = rest} b)
  where
    go : (found : Option Match) → ((rest : List ℕ) → Bytes rest → Each (Between PartOfBytes) (normal_parts_for turns t false rest)) → Each (Between PartOfBytes) (normal_parts_around t (normal_parts_for turns t false) first text found)
    go None go_on = part_bytes first h
    go (Some match) go_on =
        each_append (part_bytes first (each_take (stop_before t text 0 match) h)) (one_more token-is (go_on (drop (start_after t text match) text) (each_drop (start_after t text match) h)))

stretch-bytes : (virtual raw : Bool) {bytes : List ℕ} → Bytes bytes → Each OfBytes (stretch bytes virtual raw)
unfolding stretch
stretch-bytes virtual raw {bytes} h = on_cond (Each OfBytes) (is_empty bytes) none_left (one_more (bytes-fine (bytes_small h)) none_left)

-- A section of bytes comes to stretches of bytes,
pub stretches_bytes : (n : Normal) → bad_step n.step_bytes n.steps ≡ false → (opening : Bool) {section : List ℕ} → Bytes section → Each OfBytes (stretches_in n opening section)
unfolding stretches_in parts_in part_stretch normal_parts bad_step step_spans
stretches_bytes n steps opening {section} h =
    taken_bytes (part_stretch n.metaspace) (λ part p. stretch-bytes false false (metaspaced-bytes n.metaspace part.first p))
    (parts_for (length (last_or section (outputs_of n.step_bytes n.steps section))) n.second opening (stepped-bytes n.step_bytes n.steps steps h))

any_section : (item : Item Section) → Between (λ (section : Section). section ≡ section) item
any_section (token id) = token-is
any_section (plain section) = plain-is refl

-- and so do the sections of a text, off the raw path
pub normal_bytes : (n : Normal) (text : List ℕ) → bad_step n.step_bytes n.steps ≡ false → Small text → (items : List (Item Section)) → Each OfBytes (taken_apart (section_stretches (stretches_in n) text) items)
unfolding bytes_of
normal_bytes n text steps small items =
    taken_bytes {P = λ (section : Section). section ≡ section} (section_stretches (stretches_in n) text)
    (λ section p. stretches_bytes n steps section.opening (each_slice section.start section.stop (small_bytes text small))) (each any_section items)

-- and on it.
pub raw-bytes : (prepend : RawPrepend) (continuation : Bool) (text : List ℕ) → Small text → (items : List (Item Section)) → Each OfBytes (taken_apart (raw_stretch prepend continuation text) items)
unfolding raw_stretch bytes_of
raw-bytes prepend continuation text small items =
    taken_bytes {P = λ (section : Section). section ≡ section} (raw_stretch prepend continuation text)
    (λ section p. stretch-bytes (virtual_mark prepend continuation section.opening (slice section.start section.stop text)) true (each_slice section.start section.stop (small_bytes text small)))
    (each any_section items)
