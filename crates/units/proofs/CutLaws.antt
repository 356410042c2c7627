-- Where a unit starts, no piece reaches from the spelling of what stands before into that of what follows. Assumes nothing.
use Prim.Native.Nat.{ℕ, suc, ◌+◌, ◌-◌, ◌<◌}
use native.Mathlib.Omega.{arith}
use native.Mathlib.Nat.{zero-add}
use mathlib.Core.Path.{◌≡◌, refl, sym, ap, ap₂, ◌∙◌}
use mathlib.Core.Bool.{Bool, true, false, not, cond, ◌&&◌, ◌||◌, and-false}
use mathlib.Core.Logic.{◌⊎◌, inl, inr, ⊎_elim}
use mathlib.Core.List.{List, [], ◌∷◌, ◌++◌, append_assoc, append-nil}
use borrow.Author.Tests.{eqb-true, eq-eqb, ltb-true, ltb-false, lt-ltb, not-true}
use lib.Dec.{eqb, ltb}
use lib.ListN.{length, take, drop, get_or, length-append, take-append-drop, drop_of_length-le, get_or-eq_default}
use lib.Seq.{take-append_seam, drop-append_seam, drop-append-add, drop-drop, length-take-le, drop-cons, take-suc}
use Rattle.utf8.specs.Lists.{any, filter, last_or, neighbours, neighbours_from, below, starts_with, ends_with, within}
use Rattle.utf8.specs.Chars.{tail, char_forms, char_width, chars, is_char, valid}
use Rattle.utf8.proofs.Tests.{either, clash, and_left, and_right, and_both, or_left, or_right, or_also}
use Rattle.utf8.proofs.Lists.{last_or-append}
use Rattle.utf8.proofs.Places.{any-one, get_or_count_from, length-count_from}
use Rattle.utf8.proofs.Characters.{starts_in_tail}
use Rattle.utf8.proofs.Valid.{valid-append, valid-cut}
use Rattle.utf8.proofs.Elements.{any-false-at, any-filter, any-map, any-join_map, any_has}
use Rattle.utf8.proofs.Joins.{append_cancel, starts_rest, ends_append, ends_split, snoc, valid_starts}
use Rattle.model.specs.Model.{Model, piece, pieces_of}
use Rattle.model.specs.Check.{bad_piece}
use Rattle.model.specs.Mark.{mark, space, mark_width, starts_with_mark, ends_with_mark}
use Rattle.model.proofs.CheckLaws.{has_id}
use Rattle.model.proofs.ReachLaws.{piece-valid, NoPieceOver}
use Rattle.units.specs.Kinds.{Crossing, crosses_at, crossing_at, crossings_of, crossings, holds_mark, is_tangled, splits, word_split, is_none, kind_of}
use Rattle.units.specs.Units.{spanned, mark_cuts, punctuation, holds_pair, byte_before, punctuation_cuts, begins_unit, cut}
use Rattle.units.specs.declared.WordSplit.{WordSplit}
use Rattle.units.specs.declared.WordSplit.TheVariants.{SpaceRuns, EveryMark, None}
use Rattle.units.proofs.ShownLaws.{shown_byte, shown, prefix, shown-append, shown-mark, shown-unmarked, mark-held, Complete, shown-start, shown-end, shown-plain, shown_ends_mark}

and_rest : {a b : Bool} → a ≡ true → (a && b) ≡ false → b ≡ false
and_rest {a} {b} p e = ap (λ (x : Bool). x && b) (sym p) ∙ e

-- ---- pieces of an accepted model

-- What no noted crossing passes, no crossing of a valid piece passes.
pub crossing_tested : (pieces : List (List ℕ)) (test : Crossing → Bool) → any test (crossings pieces) ≡ false → (id k : ℕ) → valid (piece pieces id) ≡ true
    → k < length (piece pieces id) → crosses_at (piece pieces id) k ≡ true → test (crossing_at (piece pieces id) k) ≡ false
unfolding crossings crossings_of piece
crossing_tested pieces test none id k v h c =
    let w = piece pieces id in
    let listed : any (λ (bytes : List ℕ). valid bytes && any test (crossings_of bytes)) pieces ≡ false =
    sym (any-filter (λ (bytes : List ℕ). any test (crossings_of bytes)) valid pieces) ∙ sym (any-join_map test crossings_of (filter valid pieces)) ∙ none in
    let here : any test (crossings_of w) ≡ false = and_rest v (any-false-at (λ (bytes : List ℕ). valid bytes && any test (crossings_of bytes)) pieces id [] listed (has_id pieces id (omega arith))) in
    let places : any (λ (p : ℕ). crosses_at w p && test (crossing_at w p)) (below (length w)) ≡ false =
    sym (any-filter (λ (p : ℕ). test (crossing_at w p)) (crosses_at w) (below (length w))) ∙ sym (any-map test (crossing_at w) (filter (crosses_at w) (below (length w)))) ∙ here in
    let at : get_or (below (length w)) k 0 ≡ k = get_or_count_from 0 (length w) k 0 h ∙ zero-add k in
    and_rest c
    (ap (λ (p : ℕ). crosses_at w p && test (crossing_at w p)) (sym at)
    ∙ any-false-at (λ (p : ℕ). crosses_at w p && test (crossing_at w p)) (below (length w)) k 0 places (omega (arith, length-count_from 0 (length w))))

-- ---- a mark that is no mark's neighbour and is not spanned

no_one : valid (0xE2 ∷ []) ≡ false
unfolding valid chars char_width char_forms is_char
no_one = refl

no_two : valid (0xE2 ∷ 0x96 ∷ []) ≡ false
unfolding valid chars char_width char_forms is_char
no_two = refl

mark-valid : valid mark ≡ true
unfolding valid chars char_width char_forms is_char mark
mark-valid = refl

-- A valid text ends within no mark.
valid_complete : (y : List ℕ) → valid y ≡ true → Complete y
valid_complete y v =
    record {
      one = λ front e. clash (valid-cut front (0xE2 ∷ []) refl ∙ ap (λ (b : Bool). valid front && b) no_one ∙ and-false (valid front)) (ap valid (sym e) ∙ v);
      two = λ front e. clash (valid-cut front (0xE2 ∷ 0x96 ∷ []) refl ∙ ap (λ (b : Bool). valid front && b) no_two ∙ and-false (valid front)) (ap valid (sym e) ∙ v);
    }

record AfterMark (q back rest : List ℕ) : Type 0 where
  post : List ℕ
  whole : q ≡ mark ++ post
  follows : rest ≡ post ++ back

at_0 : List ℕ → ℕ
at_0 l = get_or l 0 0

-- A valid beginning of a mark and what follows it holds the mark.
after-mark : (q back rest : List ℕ) → 0 < length q → mark ++ rest ≡ q ++ back → valid q ≡ true → AfterMark q back rest
unfolding mark at_0
after-mark [] back rest pos e v = absurd (omega arith)
after-mark (x ∷ []) back rest pos e v = clash no_one (ap (λ (x : ℕ). valid (x ∷ [])) (ap at_0 e) ∙ v)
after-mark (x ∷ y ∷ []) back rest pos e v = clash no_two (ap₂ (λ (x y : ℕ). valid (x ∷ y ∷ [])) (ap at_0 e) (ap at_0 (ap (drop 1) e)) ∙ v)
after-mark (x ∷ y ∷ z ∷ post) back rest pos e v =
    record {
      post = post;
      whole =
          ap {B = List ℕ} (λ (a : ℕ). a ∷ y ∷ z ∷ post) (sym (ap at_0 e))
          ∙ ap₂ {C = List ℕ} (λ (a b : ℕ). 0xE2 ∷ a ∷ b ∷ post) (sym (ap at_0 (ap (drop 1) e))) (sym (ap at_0 (ap (drop 2) e)));
      follows = ap (drop 3) e;
    }

mark-clear : (q back rest : List ℕ) → 0 < length q → mark ++ rest ≡ q ++ back → starts_in_tail q ≡ false
unfolding mark at_0
mark-clear [] back rest pos e = absurd (omega arith)
mark-clear (x ∷ q) back rest pos e = ap (λ (a : ℕ). starts_in_tail (a ∷ q)) (sym (ap at_0 e))

crossing_is : (p post : List ℕ) → crossing_at (p ++ (mark ++ post)) (length p) ≡ record { pre = p; post = post }
unfolding crossing_at mark
crossing_is p post =
    ap₂ {C = Crossing} (λ (a b : List ℕ). record { pre = a; post = b }) (take-append_seam p (mark ++ post)) (drop-append-add p (mark ++ post) 3)

crosses : (p post : List ℕ) → 0 < length p → ends_with mark p ≡ false → crosses_at (p ++ (mark ++ post)) (length p) ≡ true
unfolding crosses_at starts_with_mark mark_width ends_with_mark mark
crosses p post pos e =
    and_both
    (and_both (lt-ltb 0 (length p) pos) (ap (starts_with_mark false) (drop-append_seam p (mark ++ post))))
    (ap (λ (l : List ℕ). not (ends_with_mark false l)) (take-append_seam p (mark ++ post)) ∙ ap (λ (b : Bool). not (cond b true false)) e)

module _ (raw virtual : Bool) (s : List ℕ) (some : 0 < length s) where
  -- An end of the spelling of a text that ends with no mark does not end with one either.
  ends_unmarked : (front p : List ℕ) → ends_with_mark raw s ≡ false → prefix virtual ++ shown raw s ≡ front ++ p → ends_with mark p ≡ false
  unfolding mark
  ends_unmarked front p apart e = ⊎_elim (λ t. absurd (marked (ends_split mark p t))) (λ t. t) (either (ends_with mark p))
    where
      marked : p ≡ take (length p - length mark) p ++ mark → ⊥
      marked q = ⊎_elim whole part (shown-end raw virtual s (front ++ take (length p - length mark) p) mark (e ∙ ap (λ (l : List ℕ). front ++ l) q ∙ sym (append_assoc front (take (length p - length mark) p) mark)) refl)
        where
          whole : mark ≡ mark ++ shown raw s → ⊥
          whole w =
              let nothing : s ≡ [] = shown-plain raw s [] (sym (append_cancel mark [] (shown raw s) w)) refl in
              omega (arith, ap length nothing)

          part : (n : ℕ) × (mark ≡ shown raw (drop n s)) → ⊥
          part w = clash apart (ap (ends_with_mark raw) (sym (take-append-drop w.0 s)) ∙ shown_ends_mark raw (take w.0 s) (drop w.0 s) (sym w.1))

  -- An end of a spelling that holds no mark is an end of the text.
  ends_itself : (front p : List ℕ) → starts_in_tail p ≡ false → holds_mark p ≡ false → prefix virtual ++ shown raw s ≡ front ++ p → ends_with p s ≡ true
  ends_itself front p clear none e = ⊎_elim whole part (shown-end raw virtual s front p e clear)
    where
      whole : p ≡ mark ++ shown raw s → ends_with p s ≡ true
      whole w = clash (ap holds_mark (sym w) ∙ none) (mark-held (shown raw s))

      part : (n : ℕ) × (p ≡ shown raw (drop n s)) → ends_with p s ≡ true
      part w =
          let is : p ≡ drop w.0 s = w.1 ∙ shown-unmarked raw (drop w.0 s) (ap holds_mark (sym w.1) ∙ none) in
          ap (ends_with p) (sym (take-append-drop w.0 s) ∙ ap (λ (l : List ℕ). take w.0 s ++ l) (sym is)) ∙ ends_append (take w.0 s) p

module _ (pieces : List (List ℕ)) (fine : bad_piece pieces ≡ false) (raw virtual : Bool) (section : List ℕ) (i : ℕ) (pos : 0 < i) (inside : i < length section) where
  before-some : 0 < length (take i section)
  before-some = omega (arith, length-take-le i section (omega arith))

  -- The crossing of a piece at a mark is noted, and is spanned there.
  pub mark_uncrossed : any is_tangled (crossings pieces) ≡ false → starts_with_mark raw (drop i section) ≡ true → ends_with_mark raw (take i section) ≡ false
      → spanned (crossings pieces) raw section i ≡ false → NoPieceOver pieces (prefix virtual ++ shown raw (take i section)) (shown raw (drop i section))
  unfolding spanned is_tangled
  mark_uncrossed untangled marks apart unspanned front p q back p-some q-some before after id is =
      let rest = drop (i + mark_width raw (drop i section)) section in
      let here : mark ++ shown raw rest ≡ q ++ back =
      ap (λ (l : List ℕ). mark ++ shown raw l) (sym (drop-drop (mark_width raw (drop i section)) i section)) ∙ sym (shown-mark raw (drop i section) marks) ∙ after in
      let whole : valid (piece pieces id) ≡ true = piece-valid pieces id fine (omega (arith, ap length is, length-append p q)) in
      let both : (valid p && valid q) ≡ true = sym (valid-cut p q (mark-clear q back (shown raw rest) q-some here)) ∙ ap valid (sym is) ∙ whole in
      let left : valid p ≡ true = and_left (valid p) (valid q) both in
      let right : valid q ≡ true = and_right (valid p) (valid q) both in
      let a = after-mark q back (shown raw rest) q-some here right in
      let post = a.post in
      let spelt : piece pieces id ≡ p ++ (mark ++ post) = is ∙ ap (λ (l : List ℕ). p ++ l) a.whole in
      let post-valid : valid post ≡ true = sym (valid-append mark post mark-valid) ∙ ap valid (sym a.whole) ∙ right in
      let ends : ends_with mark p ≡ false = ends_unmarked raw virtual (take i section) before-some front p apart before in
      let tested : (test : Crossing → Bool) → any test (crossings pieces) ≡ false → test (record { pre = p; post = post }) ≡ false =
      λ test none.
      ap test (sym (crossing_is p post) ∙ ap (λ (l : List ℕ). crossing_at l (length p)) (sym spelt))
      ∙ crossing_tested pieces test none id (length p) whole (omega (arith, ap length is, length-append p q)) (ap (λ (l : List ℕ). crosses_at l (length p)) spelt ∙ crosses p post p-some ends) in
      let clear : (holds_mark p || holds_mark post) ≡ false = tested is_tangled untangled in
      clash
      (tested (λ (c : Crossing). ends_with c.pre (take i section) && starts_with c.post rest) unspanned)
      (and_both
      (ends_itself raw virtual (take i section) before-some front p (valid_starts p p-some left) (or_left (holds_mark p) (holds_mark post) clear) before)
      (shown-start raw rest post back a.follows (or_right (holds_mark p) (holds_mark post) clear) (valid_complete post post-valid)))

-- ---- punctuation after a byte that no piece holds before it

neighbour : (x y : ℕ) (p q : List ℕ) → any (λ (n : ℕ × ℕ). eqb n.0 x && eqb n.1 y) (neighbours (p ++ x ∷ y ∷ q)) ≡ true
neighbour x y [] q = ap (λ (b : Bool). b || any (λ (n : ℕ × ℕ). eqb n.0 x && eqb n.1 y) (neighbours_from y q)) (and_both (eq-eqb x x refl) (eq-eqb y y refl))
neighbour x y (a ∷ []) q = or_also (eqb a x && eqb x y) (neighbour x y [] q)
neighbour x y (a ∷ b ∷ p) q = or_also (eqb a x && eqb b y) (neighbour x y (b ∷ p) q)

-- A piece holds its neighbours.
piece_holds : (pieces : List (List ℕ)) (id x y : ℕ) (p q : List ℕ) → piece pieces id ≡ p ++ x ∷ y ∷ q → holds_pair pieces x y ≡ true
unfolding holds_pair piece
piece_holds pieces id x y p q e =
    any-one (λ (bytes : List ℕ). any (λ (n : ℕ × ℕ). eqb n.0 x && eqb n.1 y) (neighbours bytes)) pieces id []
    (has_id pieces id (omega (arith, ap length e, length-append p (x ∷ y ∷ q))))
    (ap (λ (bytes : List ℕ). any (λ (n : ℕ × ℕ). eqb n.0 x && eqb n.1 y) (neighbours bytes)) e ∙ neighbour x y p q)

-- A byte's spelling ends with the byte, or with 0x81 for a raw space.
record ShownLast (raw : Bool) (b : ℕ) : Type 0 where
  front : List ℕ
  whole : shown_byte raw b ≡ front ++ (cond (raw && eqb b 0x20) 0x81 b ∷ [])

shown-last : (raw : Bool) (b : ℕ) → ShownLast raw b
unfolding mark
shown-last raw b = go (raw && eqb b 0x20) refl
  where
    go : (x : Bool) → (raw && eqb b 0x20) ≡ x → ShownLast raw b
    go true e = record { front = 0xE2 ∷ 0x96 ∷ []; whole = rw e }
    go false e = record { front = []; whole = rw e }

not-space : (b : ℕ) → any (eqb b) punctuation ≡ true → eqb b 0x20 ≡ false
unfolding punctuation
not-space b e = ⊎_elim (λ t. clash refl (ap (λ (x : ℕ). any (eqb x) punctuation) (sym (eqb-true b 0x20 t)) ∙ e)) (λ t. t) (either (eqb b 0x20))

pub punctuation_inside : (section : List ℕ) (i : ℕ) → any (eqb (get_or section i 0)) punctuation ≡ true → i < length section
unfolding punctuation
punctuation_inside section i e = ⊎_elim (λ t. ltb-true i (length section) t) (λ t. clash refl (ap (λ (x : ℕ). any (eqb x) punctuation) (sym (get_or-eq_default section 0 (ltb-false i (length section) t))) ∙ e)) (either (ltb i (length section)))

module _ (pieces : List (List ℕ)) (raw virtual : Bool) (section : List ℕ) (i : ℕ) (pos : 0 < i) (is_one : any (eqb (get_or section i 0)) punctuation ≡ true) where
  first-shown : shown raw (drop i section) ≡ get_or section i 0 ∷ shown raw (drop (suc i) section)
  first-shown =
      ap (shown raw) (drop-cons section i 0 (punctuation_inside section i is_one))
      ∙ ap (λ (b : Bool). cond (raw && b) mark (get_or section i 0 ∷ []) ++ shown raw (drop (suc i) section)) (not-space (get_or section i 0) is_one)
      ∙ ap (λ (b : Bool). cond b mark (get_or section i 0 ∷ []) ++ shown raw (drop (suc i) section)) (and-false raw)

  last-shown : (f : ShownLast raw (get_or section (i - 1) 0)) → prefix virtual ++ shown raw (take i section) ≡ (prefix virtual ++ (shown raw (take (i - 1) section) ++ f.front)) ++ (byte_before raw section i ∷ [])
  unfolding byte_before
  last-shown f =
      let next : i ≡ suc (i - 1) = omega arith in
      let x = get_or section (i - 1) 0 in
      let β = cond (raw && eqb x 0x20) 0x81 x in
      ap (λ (n : ℕ). prefix virtual ++ shown raw (take n section)) next
      ∙ ap (λ (l : List ℕ). prefix virtual ++ shown raw l) (take-suc section (i - 1) 0 (omega (arith, punctuation_inside section i is_one)))
      ∙ ap (λ (l : List ℕ). prefix virtual ++ l) (shown-append raw (take (i - 1) section) (x ∷ []))
      ∙ ap (λ (l : List ℕ). prefix virtual ++ (shown raw (take (i - 1) section) ++ l)) (append-nil (shown_byte raw x) ∙ f.whole)
      ∙ ap (λ (l : List ℕ). prefix virtual ++ l) (sym (append_assoc (shown raw (take (i - 1) section)) f.front (β ∷ [])))
      ∙ sym (append_assoc (prefix virtual) (shown raw (take (i - 1) section) ++ f.front) (β ∷ []))

  pub punctuation_uncrossed : holds_pair pieces (byte_before raw section i) (get_or section i 0) ≡ false → NoPieceOver pieces (prefix virtual ++ shown raw (take i section)) (shown raw (drop i section))
  punctuation_uncrossed none front p [] back p-some q-some before after id is = omega arith
  punctuation_uncrossed none front p (y ∷ q) back p-some q-some before after id is =
      let s = snoc p p-some in
      let f = shown-last raw (get_or section (i - 1) 0) in
      let last : s.last ≡ byte_before raw section i =
      sym (last_or-append 0 s.last (front ++ s.front))
      ∙ ap (last_or 0) (append_assoc front s.front (s.last ∷ []) ∙ ap (λ (l : List ℕ). front ++ l) (sym s.whole) ∙ sym before ∙ last-shown f)
      ∙ last_or-append 0 (byte_before raw section i) (prefix virtual ++ (shown raw (take (i - 1) section) ++ f.front)) in
      let first : y ≡ get_or section i 0 = ap (λ (l : List ℕ). get_or l 0 0) (sym after ∙ first-shown) in
      clash none
      (piece_holds pieces id (byte_before raw section i) (get_or section i 0) s.front q
      (is
      ∙ ap (λ (l : List ℕ). l ++ y ∷ q) s.whole
      ∙ append_assoc s.front (s.last ∷ []) (y ∷ q)
      ∙ ap₂ {C = List ℕ} (λ (a b : ℕ). s.front ++ a ∷ b ∷ q) last first))

-- ---- where a unit starts

punctuation-clear : (section : List ℕ) (i : ℕ) → any (eqb (get_or section i 0)) punctuation ≡ true → starts_in_tail (drop i section) ≡ false
unfolding punctuation
punctuation-clear section i e =
    let b = get_or section i 0 in
    ap starts_in_tail (drop-cons section i 0 (punctuation_inside section i e))
    ∙ ap (λ (t : Bool). t && true) (not-true (within tail b) (any_has b (λ (c : ℕ). not (within tail c)) punctuation e refl))

mark_starts_clear : (raw : Bool) (t : List ℕ) → starts_with_mark raw t ≡ true → starts_in_tail t ≡ false
unfolding starts_with_mark mark_width mark space
mark_starts_clear raw t e = go (starts_with mark t) refl e
  where
    one : (raw : Bool) (t : List ℕ) (b : Bool) → (raw && starts_with space t) ≡ b → ltb 0 (cond b 1 0) ≡ true → starts_in_tail t ≡ false
    one raw t false p e = clash refl e
    one false t true p e = clash refl p
    one true t true p e = ap starts_in_tail (starts_rest space t p)

    go : (b : Bool) → starts_with mark t ≡ b → ltb 0 (cond b 3 (cond (raw && starts_with space t) 1 0)) ≡ true → starts_in_tail t ≡ false
    go true p e = ap starts_in_tail (starts_rest mark t p)
    go false p e = one raw t (raw && starts_with space t) refl e

mark_inside : (raw : Bool) (section : List ℕ) (i : ℕ) → starts_with_mark raw (drop i section) ≡ true → i < length section
unfolding starts_with_mark mark_width mark space
mark_inside raw section i e = ⊎_elim (λ t. ltb-true i (length section) t) (λ t. nothing raw (ap (starts_with_mark raw) (sym (drop_of_length-le section (ltb-false i (length section) t))) ∙ e)) (either (ltb i (length section)))
  where
    nothing : (raw : Bool) {A : Type 0} → starts_with_mark raw [] ≡ true → A
    nothing true e = clash refl e
    nothing false e = clash refl e

or_cases : (a b : Bool) → (a || b) ≡ true → (a ≡ true) ⊎ (b ≡ true)
or_cases true b e = inl refl
or_cases false b e = inr e

-- A place at which a unit starts: punctuation that no piece holds after the byte before it, or a mark that the kind cuts at.
pub record PunctuationAt (holds : ℕ → ℕ → Bool) (raw : Bool) (section : List ℕ) (i : ℕ) : Type 0 where
  pub is_one : any (eqb (get_or section i 0)) punctuation ≡ true
  pub unheld : holds (byte_before raw section i) (get_or section i 0) ≡ false

pub record CutAt (kind : WordSplit) (noted : List Crossing) (holds : ℕ → ℕ → Bool) (raw : Bool) (section : List ℕ) (i : ℕ) : Type 0 where
  pub behind : 0 < i
  pub either : (mark_cuts kind noted raw section i ≡ true) ⊎ PunctuationAt holds raw section i

pub cut_at : (kind : WordSplit) (noted : List Crossing) (holds : ℕ → ℕ → Bool) (raw : Bool) (section : List ℕ) (i : ℕ) → begins_unit kind noted holds raw section i ≡ true → CutAt kind noted holds raw section i
unfolding begins_unit punctuation_cuts
cut_at kind noted holds raw section i e =
    let marks = mark_cuts kind noted raw section i in
    let points = punctuation_cuts kind holds raw section i in
    let b = any (eqb (get_or section i 0)) punctuation in
    let h = holds (byte_before raw section i) (get_or section i 0) in
    record {
      behind = ltb-true 0 i (and_left (ltb 0 i) (marks || points) e);
      either =
          ⊎_elim (λ m. inl m)
          (λ (p : points ≡ true). inr (record { is_one = and_right (not (is_none kind)) b (and_left (not (is_none kind) && b) (not h) p); unheld = not-true h (and_right (not (is_none kind) && b) (not h) p) }))
          (or_cases marks points (and_right (ltb 0 i) (marks || points) e));
    }

pub mark-is : (kind : WordSplit) (noted : List Crossing) (raw : Bool) (section : List ℕ) (i : ℕ) → mark_cuts kind noted raw section i ≡ true → starts_with_mark raw (drop i section) ≡ true
unfolding mark_cuts
mark-is SpaceRuns noted raw section i e =
    let a = starts_with_mark raw (drop i section) in
    let b = not (ends_with_mark raw (take i section)) in
    and_left a b (and_left (a && b) (not (spanned noted raw section i)) e)
mark-is EveryMark noted raw section i e = e
mark-is None noted raw section i e = clash refl e

-- Units start between characters.
pub cut-clear : (m : Model) (raw : Bool) (section : List ℕ) (i : ℕ) → cut m raw section i ≡ true → starts_in_tail (drop i section) ≡ false
unfolding cut
cut-clear m raw section i e =
    ⊎_elim (λ m. mark_starts_clear raw (drop i section) (mark-is _ _ raw section i m)) (λ p. punctuation-clear section i p.is_one)
    (cut_at (kind_of m) (crossings (pieces_of m)) (holds_pair (pieces_of m)) raw section i e).either

-- A section whose units no piece reaches across: of kind EveryMark, one with no mark behind its first byte; of another kind, any.
abbrev pub Closed : Model → Bool → List ℕ → Type 0
Closed m raw section = kind_of m ≡ EveryMark → (p : ℕ) → 0 < p → starts_with_mark raw (drop p section) ≡ false

untangled : (m : Model) → kind_of m ≡ SpaceRuns → any is_tangled (crossings (pieces_of m)) ≡ false
unfolding kind_of word_split
untangled m e = go (splits m.metaspace) (any is_tangled (crossings (pieces_of m))) (ltb 32 (length (crossings (pieces_of m)))) e
  where
    runs : WordSplit → Bool
    runs SpaceRuns = true
    runs EveryMark = false
    runs None = false

    go : (s t n : Bool) → cond s EveryMark (cond (t || n) None SpaceRuns) ≡ SpaceRuns → t ≡ false
    go true t n e = clash refl (ap runs e)
    go false true n e = clash refl (ap runs e)
    go false false n e = refl

-- Where a unit starts, no piece reaches from before into what follows.
pub cut_uncrossed : (m : Model) → bad_piece (pieces_of m) ≡ false → (raw virtual : Bool) (section : List ℕ) → Closed m raw section → (i : ℕ) → cut m raw section i ≡ true
    → NoPieceOver (pieces_of m) (prefix virtual ++ shown raw (take i section)) (shown raw (drop i section))
unfolding cut mark_cuts
cut_uncrossed m fine raw virtual section closed i e =
    let c = cut_at (kind_of m) (crossings (pieces_of m)) (holds_pair (pieces_of m)) raw section i e in
    ⊎_elim (λ marks. at_mark (kind_of m) refl c.behind marks)
    (λ p. punctuation_uncrossed (pieces_of m) raw virtual section i c.behind p.is_one p.unheld) c.either
  where
    at_mark : (k : WordSplit) → kind_of m ≡ k → 0 < i → mark_cuts k (crossings (pieces_of m)) raw section i ≡ true
        → NoPieceOver (pieces_of m) (prefix virtual ++ shown raw (take i section)) (shown raw (drop i section))
    at_mark None k pos marks = clash refl marks
    at_mark EveryMark k pos marks = clash (closed k i pos) marks
    at_mark SpaceRuns k pos marks =
        let noted = crossings (pieces_of m) in
        let a = starts_with_mark raw (drop i section) in
        let b = not (ends_with_mark raw (take i section)) in
        let s = not (spanned noted raw section i) in
        let two : (a && b) ≡ true = and_left (a && b) s marks in
        mark_uncrossed (pieces_of m) fine raw virtual section i pos (mark_inside raw section i (and_left a b two)) (untangled m k) (and_left a b two)
        (not-true (ends_with_mark raw (take i section)) (and_right a b two)) (not-true (spanned noted raw section i) (and_right (a && b) s marks))
