-- Laws of the pass over all ids: the text is in front of the buffer where it fits. Assumes nothing.
use Prim.Native.Nat.{ℕ, zero, suc, ◌+◌, ◌*◌, ◌-◌, ◌≤◌}
use native.Mathlib.Nat.{add-zero}
use native.Mathlib.Omega.{arith}
use mathlib.Core.Path.{◌≡◌, refl, sym, ap, ap₂, ◌∙◌}
use mathlib.Core.Bool.{Bool, true, false, not, cond}
use mathlib.Core.Logic.{⊎_elim}
use mathlib.Core.List.{List, [], ◌∷◌, ◌++◌, append-nil, append_assoc}
use borrow.Author.Tests.{ltb-true, ltb-false}
use lib.Dec.{ltb}
use lib.ListN.{length, take, drop, get_or, replicate, length-append, length-take}
use lib.Seq.{sets, sets-eq, length-sets, length-take-le, take-length, take-append-le, take-append-add}
use Rattle.utf8.specs.Lists.{join, starts_with}
use Rattle.utf8.specs.Chars.{chars}
use Rattle.utf8.proofs.Tests.{either}
use Rattle.utf8.proofs.Places.{slice_of}
use Rattle.utf8.proofs.Starts.{no_elements}
use Rattle.model.specs.Mark.{mark}
use Rattle.model.specs.Model.{strings}
use Rattle.model.proofs.StringLaws.{string_is, string_past}
use Rattle.decode.specs.Decode.{replacement}
use Rattle.decode.specs.declared.Decoder.{Decoder}
use Rattle.decode.specs.declared.Progress.{Progress}
use Rattle.decode.specs.inner.Feeding.{largest, is_idle, held_by, holding, shown_text, Sound, Fed, fed, Put, put, Front, put_out, state_after}
use Rattle.decode.specs.inner.Words.{head_spaced, eight_at, quick_at, all_or_none}
use Rattle.decode.proofs.StateLaws.{sets_past, sound_after, put_out-append, put_out-front, state_append}
use Rattle.decode.proofs.QuickLaws.{quick, eight_front, all-or-none}
use Rattle.decode.proofs.ByteLaws.{state_nothing, plain-piece, ended_text, ended-long}

-- ---- the text in front

pub front-nothing : (out : List ℕ) → Front [] 0 out
front-nothing out = record { size = refl; cells = λ _. refl }

-- Cells written behind it, of which the first are what comes next.
pub front-put : {text : List ℕ} {at : ℕ} {out : List ℕ} (cells next : List ℕ) → Front text at out → take (length next) cells ≡ next
    → (length (text ++ next) ≤ length out → at + length cells ≤ length out) → Front (text ++ next) (at + length next) (sets out at cells)
front-put {text} {at} {out} cells next f begins room =
    let both = length-append text next in
    let size = f.size in
    let long : length next ≤ length cells = omega (arith, ap length begins, length-take (length next) cells) in
    record {
      size = omega arith;
      cells = λ h.
          let fits : length (text ++ next) ≤ length out = omega (arith, length-sets out at cells, h) in
          let inside = room fits in
          let here : length (take at out) ≡ at = length-take-le at out (omega arith) in
          ap (take (at + length next)) (sets-eq cells out at inside ∙ append_assoc (take at out) cells (drop (at + length cells) out))
          ∙ ap (λ (n : ℕ). take (n + length next) (take at out ++ (cells ++ drop (at + length cells) out))) (sym here)
          ∙ take-append-add (take at out) (cells ++ drop (at + length cells) out) (length next)
          ∙ ap₂ ◌++◌ (f.cells (omega arith)) (take-append-le (length next) cells (drop (at + length cells) out) long ∙ begins);
    }

-- A text that goes on where there are no cells.
pub front-past : {text : List ℕ} {at : ℕ} {out : List ℕ} (next : List ℕ) → Front text at out → length out ≤ at → Front (text ++ next) (at + length next) out
front-past {text} {at} {out} next f past =
    let both = length-append text next in
    let size = f.size in
    record {
      size = omega arith;
      cells = λ h.
          let none : next ≡ [] = no_elements next (omega arith) in
          rw none (ap (λ (n : ℕ). take n out) (add-zero at) ∙ f.cells (omega arith) ∙ sym (append-nil text));
    }

-- ---- a loop over pieces

-- What was put out and what is left to feed are what feeding all gives.
pub record Passing (first : Decoder) (all : List ℕ) (s : Decoder) (rest : List ℕ) (at : ℕ) (out : List ℕ) : Type 0 where
  pub sound : Sound s
  pub text : List ℕ
  pub front : Front text at out
  pub shown : put_out first all ≡ text ++ put_out s rest
  pub state : state_after first all ≡ state_after s rest
  pub room : at + length (put_out s rest) + 13 ≤ largest

pub passing_start : (s : Decoder) (bytes out : List ℕ) → Sound s → length (put_out s bytes) + 13 ≤ largest → Passing s bytes s bytes 0 out
passing_start s bytes out sound room =
    record { sound = sound; text = []; front = front-nothing out; shown = refl; state = refl; room = omega arith }

module _ {first : Decoder} {all : List ℕ} {s : Decoder} {rest : List ℕ} {at : ℕ} {out : List ℕ} (xs ys : List ℕ) (begins : rest ≡ xs ++ ys) (l : Passing first all s rest at out) where
  -- There is room for the next part.
  pub passing_room : at + length (put_out s xs) + 13 ≤ largest
  passing_room =
      let whole : at + length (put_out s (xs ++ ys)) + 13 ≤ largest = rw begins at l.room in
      omega (arith, whole, put_out-front s l.sound xs ys)

  pub passing_next : (d : Decoder) (at' : ℕ) (out' : List ℕ) → d ≡ state_after s xs → Front (l.text ++ put_out s xs) at' out' → Passing first all d ys at' out'
  passing_next d at' out' e f =
      let parts = put_out-append s l.sound xs ys in
      let size = f.size in
      let before = l.front.size in
      rw e (record {
        sound = sound_after s l.sound xs;
        text = l.text ++ put_out s xs;
        front = f;
        shown = l.shown ∙ ap (λ (bytes : List ℕ). l.text ++ put_out s bytes) begins ∙ ap (λ (t : List ℕ). l.text ++ t) parts ∙ sym (append_assoc l.text (put_out s xs) (put_out (state_after s xs) ys));
        state = l.state ∙ ap (state_after s) begins ∙ state_append s l.sound xs ys;
        room =
            let whole : at + length (put_out s (xs ++ ys)) + 13 ≤ largest = rw begins at l.room in
            omega (arith, whole, ap length parts, length-append (put_out s xs) (put_out (state_after s xs) ys), length-append l.text (put_out s xs));
      })

pub passing_ended : {first : Decoder} {all : List ℕ} {s : Decoder} {rest : List ℕ} {at : ℕ} {out : List ℕ} → rest ≡ [] → Passing first all s rest at out → (s ≡ state_after first all) × Front (put_out first all) at out
unfolding put_out
passing_ended {s = s} {at = at} {out = out} none l = (
  sym (l.state ∙ ap (state_after s) none ∙ state_nothing s l.sound),
  rw (l.shown ∙ ap (λ (bytes : List ℕ). l.text ++ put_out s bytes) none ∙ append-nil l.text) l.front,
)

-- A part that is fed byte by byte.
module _ {first : Decoder} {all : List ℕ} {s : Decoder} {rest : List ℕ} {at : ℕ} {out : List ℕ} (xs ys : List ℕ) (begins : rest ≡ xs ++ ys) (l : Passing first all s rest at out) where
  pub passing_fed : (f : Fed) → f ≡ fed s xs at out → Passing first all f.progress.decoder ys f.progress.at f.out
  unfolding fed
  passing_fed f e =
      let size = l.front.size in
      rw e (passing_next xs ys begins l (state_after s xs) (at + length (put_out s xs)) (sets out at (put_out s xs)) refl
      (front-put (put_out s xs) (put_out s xs) l.front (take-length (put_out s xs)) (λ h. omega (arith, h, length-append l.text (put_out s xs)))))

-- ---- a piece by its eight bytes

eight_long : (bytes : List ℕ) (start len : ℕ) → length (eight_at bytes start len) ≤ 8
unfolding eight_at
eight_long bytes start len = go (starts_with mark (take len (drop start bytes)))
  where
    go : (m : Bool) → length (cond m (0x20 ∷ take 7 (drop (start + 3) bytes)) (take 8 (drop start bytes))) ≤ 8
    go true = omega (arith, length-take 7 (drop (start + 3) bytes))
    go false = omega (arith, length-take 8 (drop start bytes))

module _ {first : Decoder} {all : List ℕ} {s : Decoder} {rest : List ℕ} {at : ℕ} {out : List ℕ} (xs ys : List ℕ) (begins : rest ≡ xs ++ ys) (l : Passing first all s rest at out)
    (bytes : List ℕ) (start len : ℕ) (is : take len (drop start bytes) ≡ xs) where
  pub passing_quick : is_idle s ≡ true → all_or_none at (length out) ≡ true → quick_at bytes start len ≡ true
      → (p : Put) → p ≡ record { at = at + length (head_spaced (take len (drop start bytes))); out = sets out at (eight_at bytes start len) }
      → Passing first all s ys p.at p.out
  passing_quick ready cells e p put =
      let q = quick bytes start len e in
      let text = head_spaced (take len (drop start bytes)) in
      let plain = plain-piece s l.sound ready (take len (drop start bytes)) q.plain in
      let shows : put_out s xs ≡ text = ap (put_out s) (sym is) ∙ plain.0 in
      let stays : s ≡ state_after s xs = sym (ap (state_after s) (sym is) ∙ plain.1) in
      let long = eight_long bytes start len in
      let f : Front (l.text ++ text) (at + length text) (sets out at (eight_at bytes start len)) =
      ⊎_elim
      (λ none. rw (sets_past (eight_at bytes start len) out at none) (front-past text l.front none))
      (λ room. front-put (eight_at bytes start len) text l.front (eight_front bytes start len q.far q.short q.small) (λ _. omega (arith, long, room)))
      (all-or-none at (length out) cells) in
      rw put (passing_next xs ys begins l s (at + length text) (sets out at (eight_at bytes start len)) stays (rw shows f))

-- ---- a piece by its place in the table

take_own : (n : ℕ) (xs : List ℕ) → take (length (take n xs)) xs ≡ take n xs
take_own zero xs = refl
take_own (suc n) [] = refl
take_own (suc n) (x ∷ xs) = ap (λ (l : List ℕ). x ∷ l) (take_own n xs)

pub piece-at : (bytes offsets : List ℕ) (id : ℕ) → take (length (get_or (strings bytes offsets) id [])) (drop (get_or offsets id 0) bytes) ≡ get_or (strings bytes offsets) id []
piece-at bytes offsets id = ⊎_elim inside past (either (ltb (id + 1) (length offsets)))
  where
    inside : ltb (id + 1) (length offsets) ≡ true → take (length (get_or (strings bytes offsets) id [])) (drop (get_or offsets id 0) bytes) ≡ get_or (strings bytes offsets) id []
    inside h =
        let a = get_or offsets id 0 in
        let b = get_or offsets (id + 1) 0 in
        let is : get_or (strings bytes offsets) id [] ≡ take (b - a) (drop a bytes) = string_is bytes offsets id (ltb-true (id + 1) (length offsets) h) ∙ sym (slice_of a b bytes) in
        rw is (take_own (b - a) (drop a bytes))

    past : ltb (id + 1) (length offsets) ≡ false → take (length (get_or (strings bytes offsets) id [])) (drop (get_or offsets id 0) bytes) ≡ get_or (strings bytes offsets) id []
    past h = rw (string_past bytes offsets id (ltb-false (id + 1) (length offsets) h))

-- ---- the end of all bytes

module _ (begun : Bool) (bytes : List ℕ) (room : length (shown_text (not begun) (chars bytes)) + 13 ≤ largest) (d : Decoder) (is : d ≡ holding [] begun)
    (r : Progress) (out : List ℕ) (e : r.decoder ≡ state_after d bytes) (f : Front (put_out d bytes) r.at out) where
  after : r.decoder ≡ state_after (holding [] begun) bytes
  after = e ∙ ap (λ (s : Decoder). state_after s bytes) is

  pub end_room : r.at + length (held_by r.decoder) * 3 ≤ largest
  end_room =
      let count : length (held_by r.decoder) ≡ length (held_by (state_after (holding [] begun) bytes)) = ap (λ (s : Decoder). length (held_by s)) after in
      let size : r.at ≡ length (put_out (holding [] begun) bytes) = f.size ∙ ap (λ (s : Decoder). length (put_out s bytes)) is in
      omega (arith, room, ended-long begun bytes)

  -- What is held at the end is stray.
  pub ended : (p : Put) → p ≡ put (join (replicate (length (held_by r.decoder)) replacement)) r.at out → Front (shown_text (not begun) (chars bytes)) p.at p.out
  unfolding put
  ended p g =
      let left = join (replicate (length (held_by r.decoder)) replacement) in
      let whole : shown_text (not begun) (chars bytes) ≡ put_out d bytes ++ left =
      ended_text begun bytes ∙ ap₂ (λ (s : Decoder) (n : ℕ). put_out s bytes ++ join (replicate n replacement)) (sym is) (sym (ap (λ (s : Decoder). length (held_by s)) after)) in
      rw (g, whole) (front-put left left f (take-length left) (λ h. omega (arith, h, f.size, length-append (put_out d bytes) left)))
