-- Laws of the state: what it holds, and what a byte and then others leave. Assumes nothing.
use Prim.Native.Nat.{ℕ, zero, suc, ◌+◌, ◌*◌, ◌≤◌}
use native.Mathlib.Nat.{add-zero}
use native.Mathlib.Omega.{arith}
use mathlib.Core.Path.{◌≡◌, refl, sym, ap, ◌∙◌}
use mathlib.Core.Bool.{Bool, true, false, not, ◌&&◌, ◌||◌}
use mathlib.Core.List.{List, [], ◌∷◌, ◌++◌, append-nil}
use lib.ListN.{length, set, replicate, length-append, replicate-append-replicate}
use lib.Seq.{sets, set_out}
use Rattle.utf8.specs.Lists.{is_empty, join}
use Rattle.utf8.proofs.Lists.{join-append}
use Rattle.decode.specs.Decode.{replacement}
use Rattle.decode.specs.declared.Decoder.{Decoder}
use Rattle.decode.specs.declared.Held.{Held}
use Rattle.decode.specs.declared.Held.TheVariants.{Nothing, One, Two, Three}
use Rattle.decode.specs.inner.Feeding.{is_open, settled, held_after, bytes_of, held_of, held_by, holding, Sound, Put, put, put_out, state_after, fed}
use Rattle.decode.proofs.FormLaws.{open_short}
use Rattle.decode.proofs.FedLaws.{held_open_after, settled-append, held-append}
use Rattle.decode.proofs.TextLaws.{shown_text-append}

-- ---- what a state holds

pub held-holding : (h : List ℕ) (begun : Bool) → is_open h ≡ true → held_by (holding h begun) ≡ h
unfolding holding
held-holding [] begun e = refl
held-holding (a ∷ []) begun e = refl
held-holding (a ∷ b ∷ []) begun e = refl
held-holding (a ∷ b ∷ c ∷ []) begun e = refl
held-holding (a ∷ b ∷ c ∷ d ∷ h) begun e = absurd (omega (arith, open_short (a ∷ b ∷ c ∷ d ∷ h) e))

held_again : (h : Held) → h ≡ held_of (bytes_of h)
held_again Nothing = refl
held_again (One a) = refl
held_again (Two a b) = refl
held_again (Three a b c) = refl

-- A state is what it holds.
pub form : (s : Decoder) → s ≡ holding (held_by s) s.begun
unfolding holding
form s = ap (λ (h : Held). record s { held = h }) (held_again s.held)

pub sound_holding : (h : List ℕ) (begun : Bool) → is_open h ≡ true → Sound (holding h begun)
sound_holding h begun e = record { unfinished = rw (held-holding h begun e) e }

pub sound_empty : (begun : Bool) → Sound (holding [] begun)
unfolding is_open
sound_empty begun = sound_holding [] begun refl

module _ (s : Decoder) (sound : Sound s) where
  pub held_short : length (held_by s) ≤ 3
  held_short = open_short (held_by s) sound.unfinished

  pub sound_after : (bytes : List ℕ) → Sound (state_after s bytes)
  unfolding state_after
  sound_after bytes = sound_holding (held_after (held_by s) bytes) _ (held_open_after (held_by s) bytes sound.unfinished)

-- ---- parts of an output one after the other

pub sets_append : (xs ys out : List ℕ) (at : ℕ) → sets out at (xs ++ ys) ≡ sets (sets out at xs) (at + length xs) ys
sets_append [] ys out at = rw (add-zero at)
sets_append (x ∷ xs) ys out at = sets_append xs ys (set out at x) (suc at) ∙ ap (λ (n : ℕ). sets (sets (set out at x) (suc at) xs) n ys) (omega arith)

-- Stores past the end.
pub sets_past : (xs out : List ℕ) (at : ℕ) → length out ≤ at → sets out at xs ≡ out
sets_past [] out at h = refl
sets_past (x ∷ xs) out at h = ap (λ (l : List ℕ). sets l (suc at) xs) (set_out out at x h) ∙ sets_past xs out (suc at) (omega arith)

put-append : (xs ys : List ℕ) (at : ℕ) (out : List ℕ) → put (xs ++ ys) at out ≡ put ys (put xs at out).at (put xs at out).out
unfolding put
put-append xs ys at out =
    let far : at + length (xs ++ ys) ≡ at + length xs + length ys = omega (arith, length-append xs ys) in
    rw (far, sets_append xs ys out at)

-- Nothing put out.
pub put-nothing : (at : ℕ) (out : List ℕ) → ◌≡◌ {A = Put} (record { at = at; out = out }) (put [] at out)
unfolding put
put-nothing at out = rw (add-zero at)

-- Where a part ends.
pub put-at : (xs : List ℕ) (at : ℕ) (out : List ℕ) {p : Put} → p ≡ put xs at out → p.at ≡ at + length xs
unfolding put
put-at xs at out e = ap (λ (p : Put). p.at) e

-- A call that puts a part out, and then one that goes on from there.
pub put_then : (xs ys : List ℕ) (at : ℕ) (out : List ℕ) {first last : Put} → first ≡ put xs at out → last ≡ put ys first.at first.out → last ≡ put (xs ++ ys) at out
put_then xs ys at out e f = f ∙ ap (λ (p : Put). put ys p.at p.out) e ∙ sym (put-append xs ys at out)

-- ---- U+FFFD again and again

pub strays_next : (n : ℕ) → join (replicate n replacement) ++ replacement ≡ join (replicate (n + 1) replacement)
strays_next n =
    sym (join-append (replicate n replacement) (replacement ∷ []) ∙ ap (λ (l : List ℕ). join (replicate n replacement) ++ l) (append-nil replacement))
    ∙ ap join (replicate-append-replicate n 1 replacement)

pub strays_long : (n : ℕ) → length (join (replicate n replacement)) ≡ n * 3
unfolding replacement
strays_long zero = refl
strays_long (suc n) = omega (arith, strays_long n)

-- ---- what bytes leave

not-or : (begun none : Bool) → not (begun || not none) ≡ (not begun && none)
not-or true none = refl
not-or false true = refl
not-or false false = refl

or-append {ℓ} : {A : Type ℓ} (begun : Bool) (xs ys : List A) → (begun || not (is_empty xs) || not (is_empty ys)) ≡ (begun || not (is_empty (xs ++ ys)))
or-append true xs ys = refl
or-append false [] ys = refl
or-append false (x ∷ xs) ys = refl

module _ (s : Decoder) (sound : Sound s) (xs ys : List ℕ) where
  pub held_state : held_by (state_after s xs) ≡ held_after (held_by s) xs
  unfolding state_after
  held_state = held-holding (held_after (held_by s) xs) _ (held_open_after (held_by s) xs sound.unfinished)

  begun_state : (state_after s xs).begun ≡ (s.begun || not (is_empty (settled (held_by s) xs)))
  unfolding state_after holding
  begun_state = refl

  pub put_out-append : put_out s (xs ++ ys) ≡ put_out s xs ++ put_out (state_after s xs) ys
  unfolding put_out
  put_out-append =
      rw (held_state, begun_state, settled-append (held_by s) xs ys, not-or s.begun (is_empty (settled (held_by s) xs)))
      (shown_text-append (not s.begun) (settled (held_by s) xs) (settled (held_after (held_by s) xs) ys))

  state_from : (t : Decoder) → held_by t ≡ held_after (held_by s) xs → t.begun ≡ (s.begun || not (is_empty (settled (held_by s) xs))) → state_after s (xs ++ ys) ≡ state_after t ys
  unfolding state_after
  state_from t h b = rw (h, b, settled-append (held_by s) xs ys, held-append (held_by s) xs ys, or-append s.begun (settled (held_by s) xs) (settled (held_after (held_by s) xs) ys))

  pub state_append : state_after s (xs ++ ys) ≡ state_after (state_after s xs) ys
  state_append = state_from (state_after s xs) held_state begun_state

  -- Bytes, and then others.
  pub fed-append : (at : ℕ) (out : List ℕ) → fed s (xs ++ ys) at out ≡ fed (state_after s xs) ys (at + length (put_out s xs)) (sets out at (put_out s xs))
  unfolding fed
  fed-append at out =
      let far : at + length (put_out s (xs ++ ys)) ≡ at + length (put_out s xs) + length (put_out (state_after s xs) ys) = omega (arith, ap length put_out-append, length-append (put_out s xs) (put_out (state_after s xs) ys)) in
      rw (far, state_append, put_out-append, sets_append (put_out s xs) (put_out (state_after s xs) ys) out at)

  pub put_out-front : length (put_out s xs) ≤ length (put_out s (xs ++ ys))
  put_out-front = omega (arith, ap length put_out-append, length-append (put_out s xs) (put_out (state_after s xs) ys))
