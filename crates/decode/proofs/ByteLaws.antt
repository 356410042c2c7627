-- What one byte leaves, by whether it goes on with what is held, makes it whole or breaks it off; and a loop that feeds. Assumes nothing.
use Prim.Native.Nat.{ℕ, ◌+◌, ◌*◌, ◌≤◌}
use native.Mathlib.Nat.{add-zero}
use native.Mathlib.Omega.{arith}
use mathlib.Core.Path.{◌≡◌, refl, sym, ap, ap₂, ◌∙◌}
use mathlib.Core.Bool.{Bool, true, false, not, cond, ◌&&◌, ◌||◌, and-false, or-true, or-false}
use mathlib.Core.List.{List, [], ◌∷◌, ◌++◌, append-nil, append_assoc}
use lib.ListN.{length, drop, replicate, length-append}
use lib.Seq.{sets}
use borrow.Author.Tests.{ltb-true}
use lib.Dec.{ltb}
use Rattle.utf8.specs.Lists.{all, is_empty, join, starts_with, Range}
use Rattle.utf8.specs.Chars.{char_forms, char_width, chars, is_char}
use Rattle.utf8.proofs.Tests.{clash, and_left, and_right}
use Rattle.utf8.proofs.Joins.{starts_rest}
use Rattle.model.specs.Mark.{mark, space}
use Rattle.decode.specs.Decode.{replacement}
use Rattle.decode.specs.declared.Decoder.{Decoder}
use Rattle.decode.specs.inner.Feeding.{largest, form_of, is_idle, is_open, is_broken, grown, singles, settled_by, held_next, settled, held_after, shown_first, shown_text, held_by, holding, Sound, Fed, Put, put, put_out, state_after, fed}
use Rattle.decode.specs.inner.Words.{is_plain, head_spaced}
use Rattle.decode.proofs.FormLaws.{ascii_form, open_first, broken_none}
use Rattle.decode.proofs.FedLaws.{held_open_after, chars-fed, chars_open}
use Rattle.decode.proofs.TextLaws.{shown_text-append, shown_strays, shown_ascii, shown-mark}
use Rattle.decode.proofs.StateLaws.{held-holding, form, held_state, sound_empty, sound_after, sets_append, strays_long, fed-append, put_out-append, state_append}

-- ---- one byte

module _ (s : Decoder) (b : ℕ) (at : ℕ) (out : List ℕ) where
  module _ (whole : is_broken (held_by s) b ≡ false) where
    grown_on : grown (held_by s) b ≡ held_by s ++ (b ∷ [])
    unfolding grown
    grown_on = rw whole

    pub taken_open : is_open (held_by s ++ (b ∷ [])) ≡ true
        → ◌≡◌ {A = Fed} (record { progress = record { decoder = holding (held_by s ++ (b ∷ [])) s.begun; at = at }; out = out }) (fed s (b ∷ []) at out)
    unfolding fed state_after put_out settled_by held_next
    taken_open more = rw (grown_on, more, whole) (rw (or-false s.begun, add-zero at))

    pub taken_whole : is_open (held_by s ++ (b ∷ [])) ≡ false → (p : Put) (d : Decoder) → p ≡ put (shown_first (not s.begun) (held_by s ++ (b ∷ []))) at out → d ≡ holding [] true
        → ◌≡◌ {A = Fed} (record { progress = record { decoder = d; at = p.at }; out = p.out }) (fed s (b ∷ []) at out)
    unfolding fed state_after put_out settled_by held_next put
    taken_whole last p d e anew = rw (anew, e, grown_on, last, whole) (rw (or-true s.begun, append-nil (shown_first (not s.begun) (held_by s ++ (b ∷ [])))))

  module _ (sound : Sound s) (broken : is_broken (held_by s) b ≡ true) where
    some-held : is_empty (held_by s) ≡ false
    unfolding is_broken
    some-held = go (held_by s) broken
      where
        go : (h : List ℕ) → is_broken h b ≡ true → is_empty h ≡ false
        go [] e = clash refl e
        go (a ∷ h) e = refl

    empty-singles : (h : List ℕ) → is_empty (singles h) ≡ is_empty h
    empty-singles [] = refl
    empty-singles (a ∷ h) = refl

    empty-front : (h : List ℕ) (cs : List (List ℕ)) → is_empty h ≡ false → is_empty (singles h ++ cs) ≡ false
    empty-front [] cs e = clash e refl
    empty-front (a ∷ h) cs e = refl

    settled_broken : settled (held_by s) (b ∷ []) ≡ singles (held_by s) ++ settled [] (b ∷ [])
    unfolding settled_by grown is_broken
    settled_broken = rw broken (append_assoc (singles (held_by s)) (cond (is_open (b ∷ [])) [] ((b ∷ []) ∷ [])) [])

    begun_broken : (s.begun || not (is_empty (settled (held_by s) (b ∷ [])))) ≡ true
    begun_broken = rw (settled_broken, empty-front (held_by s) (settled [] (b ∷ [])) some-held, or-true s.begun)

    next_broken : held_next (held_by s) b ≡ held_next [] b
    unfolding held_next grown is_broken
    next_broken = rw broken

    put_out_anew : put_out (holding [] true) (b ∷ []) ≡ shown_text false (settled [] (b ∷ []))
    unfolding put_out holding
    put_out_anew = refl

    put_out_broken : put_out s (b ∷ []) ≡ join (replicate (length (held_by s)) replacement) ++ put_out (holding [] true) (b ∷ [])
    unfolding put_out
    put_out_broken =
        ap (shown_text (not s.begun)) settled_broken
        ∙ shown_text-append (not s.begun) (singles (held_by s)) (settled [] (b ∷ []))
        ∙ rw (shown_strays (not s.begun) (held_by s) sound.unfinished, empty-singles (held_by s), some-held, and-false (not s.begun), ← put_out_anew)

    state_broken : state_after s (b ∷ []) ≡ state_after (holding [] true) (b ∷ [])
    unfolding state_after holding
    state_broken = rw (begun_broken, next_broken)

    pub taken_broken : (p : Put) (d : Decoder) (f : Fed) → p ≡ put (join (replicate (length (held_by s)) replacement)) at out → d ≡ holding [] true → f ≡ fed d (b ∷ []) p.at p.out
        → f ≡ fed s (b ∷ []) at out
    unfolding fed put
    taken_broken p d f e anew g =
        let strays = join (replicate (length (held_by s)) replacement) in
        let rest = put_out (holding [] true) (b ∷ []) in
        let far : at + length (put_out s (b ∷ [])) ≡ at + length strays + length rest = omega (arith, ap length put_out_broken, length-append strays rest) in
        g ∙ rw (anew, e, far, state_broken, put_out_broken, sets_append strays rest out at)

-- ---- whole characters where nothing is held

-- What an idle state is.
pub record Idle (s : Decoder) : Type 0 where
  pub held : held_by s ≡ []
  pub begun : s.begun ≡ true
  pub same : s ≡ holding [] true

nothing : (h : List ℕ) → is_empty h ≡ true → h ≡ []
nothing [] e = refl
nothing (a ∷ h) e = clash refl e

pub idle : (s : Decoder) → Sound s → is_idle s ≡ true → Idle s
unfolding is_idle
idle s sound e =
    let none = nothing (held_by s) (and_left (is_empty (held_by s)) s.begun e) in
    let first = and_right (is_empty (held_by s)) s.begun e in
    record { held = none; begun = first; same = form s ∙ ap₂ holding none first }

module _ (s : Decoder) (sound : Sound s) (ready : is_idle s ≡ true) (at : ℕ) (out : List ℕ) (p : Put) where
  -- A byte that is a character.
  pub fed-plain : (b : ℕ) → b ≤ 0x7F → p ≡ put (b ∷ []) at out → ◌≡◌ {A = Fed} (record { progress = record { decoder = s; at = p.at }; out = p.out }) (fed s (b ∷ []) at out)
  fed-plain b low e =
      let i = idle s sound ready in
      let shut : is_open (b ∷ []) ≡ false = open_first b ∙ ap (λ (form : List Range). ltb 1 (length form)) (ascii_form b low) in
      taken_whole s b at out
      (ap (λ (h : List ℕ). is_broken h b) i.held ∙ broken_none b)
      (ap (λ (h : List ℕ). is_open (h ++ (b ∷ []))) i.held ∙ shut)
      p s
      (e ∙ ap (λ (l : List ℕ). put l at out)
      (sym (ap (λ (h : List ℕ). shown_first (not s.begun) (h ++ (b ∷ []))) i.held ∙ ap (λ (g : Bool). shown_first (not g) (b ∷ [])) i.begun ∙ shown_ascii false b low)))
      i.same

  settled-mark : settled [] mark ≡ mark ∷ []
  unfolding mark settled_by held_next grown is_broken is_open is_char char_width char_forms form_of
  settled-mark = refl

  held-mark : held_after [] mark ≡ []
  unfolding mark held_next grown is_broken is_open is_char char_width char_forms form_of
  held-mark = refl

  put_out-mark : (d : Decoder) → held_by d ≡ [] → d.begun ≡ true → put_out d mark ≡ space
  unfolding put_out
  put_out-mark d h b = rw (h, b, settled-mark, shown-mark false) (append-nil space)

  state_mark : (d : Decoder) → held_by d ≡ [] → d.begun ≡ true → state_after d mark ≡ holding [] true
  unfolding state_after
  state_mark d h b = rw (h, b, held-mark)

  -- A mark.
  pub fed-mark : p ≡ put space at out → ◌≡◌ {A = Fed} (record { progress = record { decoder = s; at = p.at }; out = p.out }) (fed s mark at out)
  unfolding fed put
  fed-mark e =
      let i = idle s sound ready in
      rw (e, put_out-mark s i.held i.begun, state_mark s i.held i.begun)
      (ap (λ (d : Decoder). record { progress = record { decoder = d; at = at + length space }; out = sets out at space }) i.same)

-- ---- a piece of characters of one byte, behind one mark at the most

pub state_nothing : (s : Decoder) → Sound s → state_after s [] ≡ s
unfolding state_after
state_nothing s sound = ap (holding (held_by s)) (or-false s.begun) ∙ sym (form s)

module _ (s : Decoder) (sound : Sound s) (ready : is_idle s ≡ true) where
  plain_out : (b : ℕ) → b ≤ 0x7F → put_out s (b ∷ []) ≡ b ∷ []
  unfolding put_out settled_by grown
  plain_out b low =
      let i = idle s sound ready in
      let shut : is_open (b ∷ []) ≡ false = open_first b ∙ ap (λ (form : List Range). ltb 1 (length form)) (ascii_form b low) in
      rw (i.held, i.begun, broken_none b, shut, shown_ascii false b low)

  plain_state : (b : ℕ) → b ≤ 0x7F → state_after s (b ∷ []) ≡ s
  unfolding fed
  plain_state b low = sym (ap (λ (f : Fed). f.progress.decoder) (fed-plain s sound ready 0 [] (put (b ∷ []) 0 []) b low refl))

  plain-run : (xs : List ℕ) → all is_plain xs ≡ true → (put_out s xs ≡ xs) × (state_after s xs ≡ s)
  unfolding put_out
  plain-run [] e = (refl, state_nothing s sound)
  plain-run (b ∷ xs) e =
      let less = ltb-true b 0x80 (and_left (is_plain b) (all is_plain xs) e) in
      let low : b ≤ 0x7F = omega arith in
      let rest = plain-run xs (and_right (is_plain b) (all is_plain xs) e) in
      let same = plain_state b low in (
        put_out-append s sound (b ∷ []) xs ∙ ap₂ ◌++◌ (plain_out b low) (ap (λ (t : Decoder). put_out t xs) same ∙ rest.0),
        state_append s sound (b ∷ []) xs ∙ ap (λ (t : Decoder). state_after t xs) same ∙ rest.1,
      )

  pub plain-piece : (xs : List ℕ) → all is_plain (head_spaced xs) ≡ true → (put_out s xs ≡ head_spaced xs) × (state_after s xs ≡ s)
  unfolding head_spaced mark space
  plain-piece xs e = go (starts_with mark xs) refl e
    where
      go : (m : Bool) → starts_with mark xs ≡ m → all is_plain (cond m (0x20 ∷ drop 3 xs) xs) ≡ true → (put_out s xs ≡ cond m (0x20 ∷ drop 3 xs) xs) × (state_after s xs ≡ s)
      go true q f =
          let i = idle s sound ready in
          let rest = plain-run (drop 3 xs) f in
          let split = starts_rest mark xs q in
          let same : state_after s mark ≡ s = state_mark s sound ready 0 [] (put [] 0 []) s i.held i.begun ∙ sym i.same in (
            ap (put_out s) split ∙ put_out-append s sound mark (drop 3 xs)
                ∙ ap₂ ◌++◌ (put_out-mark s sound ready 0 [] (put [] 0 []) s i.held i.begun) (ap (λ (t : Decoder). put_out t (drop 3 xs)) same ∙ rest.0),
            ap (state_after s) split ∙ state_append s sound mark (drop 3 xs) ∙ ap (λ (t : Decoder). state_after t (drop 3 xs)) same ∙ rest.1,
          )
      go false q f = plain-run xs f

-- ---- a loop that feeds

pub fed-nothing : (s : Decoder) → Sound s → (at : ℕ) (out : List ℕ) → ◌≡◌ {A = Fed} (record { progress = record { decoder = s; at = at }; out = out }) (fed s [] at out)
unfolding fed state_after put_out
fed-nothing s sound at out = rw (or-false s.begun, add-zero at, ← form s)

-- What is left to feed gives what feeding all gives.
pub record Feeding (all : Fed) (s : Decoder) (rest : List ℕ) (at : ℕ) (out : List ℕ) : Type 0 where
  pub sound : Sound s
  pub same : all ≡ fed s rest at out
  pub room : at + length (put_out s rest) + 13 ≤ largest

pub feeding_start : (s : Decoder) (bytes : List ℕ) (at : ℕ) (out : List ℕ) → Sound s → at + length (put_out s bytes) + 13 ≤ largest → Feeding (fed s bytes at out) s bytes at out
feeding_start s bytes at out sound room = record { sound = sound; same = refl; room = room }

module _ {all : Fed} {s : Decoder} {rest : List ℕ} {at : ℕ} {out : List ℕ} (xs ys : List ℕ) (begins : rest ≡ xs ++ ys) (l : Feeding all s rest at out) where
  pub feeding_next : (f : Fed) → f ≡ fed s xs at out → Feeding all f.progress.decoder ys f.progress.at f.out
  unfolding fed
  feeding_next f e = rw e (record {
    sound = sound_after s l.sound xs;
    same = l.same ∙ ap (λ (bytes : List ℕ). fed s bytes at out) begins ∙ fed-append s l.sound xs ys at out;
    room =
        let whole : at + length (put_out s (xs ++ ys)) + 13 ≤ largest = rw begins at l.room in
        omega (arith, whole, ap length (put_out-append s l.sound xs ys), length-append (put_out s xs) (put_out (state_after s xs) ys));
  })

pub feeding_ended : {all : Fed} {s : Decoder} {rest : List ℕ} {at : ℕ} {out : List ℕ} → rest ≡ [] → Feeding all s rest at out → ◌≡◌ {A = Fed} (record { progress = record { decoder = s; at = at }; out = out }) all
feeding_ended {s = s} {at = at} {out = out} none l = fed-nothing s l.sound at out ∙ ap (λ (bytes : List ℕ). fed s bytes at out) (sym none) ∙ sym l.same

-- ---- the end of all bytes

held-empty : (begun : Bool) → held_by (holding [] begun) ≡ []
unfolding is_open
held-empty begun = held-holding [] begun refl

module _ (begun : Bool) (bytes : List ℕ) where
  abbrev anew : Decoder
  anew = holding [] begun

  -- What is held at the end is stray.
  abbrev left : List ℕ
  left = join (replicate (length (held_by (state_after anew bytes))) replacement)

  left_strays : left ≡ join (replicate (length (held_after [] bytes)) replacement)
  left_strays =
      ap (λ (n : ℕ). join (replicate n replacement))
      (ap length (held_state anew (sound_empty begun) bytes [] ∙ ap (λ (h : List ℕ). held_after h bytes) (held-empty begun)))

  all_settled : chars bytes ≡ settled [] bytes ++ singles (held_after [] bytes)
  unfolding is_open
  all_settled =
      let Open-after = held_open_after [] bytes refl in
      ap chars (sym (append-nil bytes))
      ∙ chars-fed [] bytes [] refl
      ∙ ap (λ (cs : List (List ℕ)). settled [] bytes ++ cs) (ap chars (append-nil (held_after [] bytes)) ∙ chars_open (held_after [] bytes) Open-after)

  put_out-all : put_out anew bytes ≡ shown_text (not begun) (settled [] bytes)
  unfolding put_out holding
  put_out-all = refl

  pub ended_text : shown_text (not begun) (chars bytes) ≡ put_out anew bytes ++ left
  unfolding is_open
  ended_text =
      ap (shown_text (not begun)) all_settled
      ∙ shown_text-append (not begun) (settled [] bytes) (singles (held_after [] bytes))
      ∙ rw (shown_strays (not begun && is_empty (settled [] bytes)) (held_after [] bytes) (held_open_after [] bytes refl), left_strays, put_out-all)

  pub ended-long : length (shown_text (not begun) (chars bytes)) ≡ length (put_out anew bytes) + length (held_by (state_after anew bytes)) * 3
  ended-long = omega (arith, ap length ended_text, length-append (put_out anew bytes) left, strays_long (length (held_by (state_after anew bytes))))

  module _ (room : length (shown_text (not begun) (chars bytes)) + 13 ≤ largest) (d : Decoder) (is : d ≡ anew) where
    pub start_room : length (put_out d bytes) + 13 ≤ largest
    start_room = rw is (omega (arith, room, ended-long))
