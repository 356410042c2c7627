-- Laws of a part of a normalized section: what metaspace leaves of it, by what putting it into a buffer gave. Assumes nothing.
use Rattle.std.specs.Prelude.{Option, Some, None}
use Prim.Native.Nat.{ℕ, ◌≤◌, ◌<◌, min}
use native.Mathlib.Omega.{arith}
use mathlib.Core.Path.{◌≡◌, refl, sym, ap, ◌∙◌}
use mathlib.Core.Bool.{Bool, true, false, cond}
use mathlib.Core.List.{List, ◌++◌}
use borrow.Author.Tests.{leb-true, leb-false, lt-ltb, le-ltb}
use lib.Dec.{leb}
use lib.ListN.{length, take, drop}
use lib.Seq.{slice, take_at}
use Rattle.model.specs.declared.Metaspace.{Metaspace}
use Rattle.model.specs.declared.PrependScheme.{PrependScheme}
use Rattle.normalise.specs.Normalise.{outgrows}
use Rattle.normalise.specs.Spaces.{spaces_marked, mark_prepended, scheme_prepends, metaspace_output, metaspaced}
use Rattle.normalise.specs.inner.Fit.{Put, put}
use Rattle.merge.specs.inner.Turns.{Merged}
use Rattle.merge.specs.declared.Symbols.{Symbols}
use Rattle.stretches.specs.Stretches.{stretch}
use Rattle.stretches.specs.inner.Tables.{Tables}
use Rattle.stretches.specs.inner.Parts.{parts_symbols, parts_writer}
use Rattle.encode.specs.inner.Passes.{counted, unless_long, Leaves}

-- ---- an output put into a buffer that has the room

module _ (result : List ℕ) (room : ℕ) (out : List ℕ) (long : room ≤ length out) {l : Option ℕ} {after : List ℕ} (is : ◌≡◌ {A = Put} (record { length = l; out = after }) (put result room out)) where
  pub put_short : {n : ℕ} → l ≡ Some n → (length result ≤ room) × (take n after ≡ result)
  unfolding put
  put_short {n} e = go (leb (length result) (min room (length out))) refl is
    where
      go : (b : Bool) → leb (length result) (min room (length out)) ≡ b
          → ◌≡◌ {A = Put} (record { length = l; out = after }) (cond b (record { length = Some (length result); out = result ++ drop (length result) out }) (record { length = None; out = out }))
          → (length result ≤ room) × (take n after ≡ result)
      go true t q =
          let h : length result ≤ min room (length out) = leb-true (length result) (min room (length out)) t in
          let same : Some n ≡ Some (length result) = sym e ∙ ap (λ (p : Put). p.length) q in
          let size : n ≡ length result = cc in
          (omega arith, rw (ap (λ (p : Put). p.out) q) (take_at result (drop (length result) out) n (sym size)))
      go false t q =
          let same : Some n ≡ None = sym e ∙ ap (λ (p : Put). p.length) q in
          let z : ◌≡◌ {A = ℕ} 0 1 = cc in
          absurd (omega arith)

  pub put-long : l ≡ None → room < length result
  unfolding put
  put-long e = go (leb (length result) (min room (length out))) refl is
    where
      go : (b : Bool) → leb (length result) (min room (length out)) ≡ b
          → ◌≡◌ {A = Put} (record { length = l; out = after }) (cond b (record { length = Some (length result); out = result ++ drop (length result) out }) (record { length = None; out = out }))
          → room < length result
      go true t q =
          let same : None ≡ Some (length result) = sym e ∙ ap (λ (p : Put). p.length) q in
          let z : ◌≡◌ {A = ℕ} 0 1 = cc in
          absurd (omega arith)
      go false t q = let h : min room (length out) < length result = leb-false (length result) (min room (length out)) t in omega arith

-- ---- metaspace on a part

-- What metaspace puts out.
abbrev pub marked : PrependScheme → Bool → List ℕ → List ℕ
marked prepend first bytes = mark_prepended (scheme_prepends prepend first) (spaces_marked bytes)

module _ (metaspace : Option Metaspace) (first : Bool) (bytes : List ℕ) (room : ℕ) where
  pub leaves_absent : metaspace ≡ None → Leaves metaspace first bytes room bytes
  unfolding metaspace_output metaspaced outgrows
  leaves_absent e = record { short = rw e; is = rw e }

  module _ {m : Metaspace} (e : metaspace ≡ Some m) (out : List ℕ) (long : room ≤ length out) {l : Option ℕ} {after : List ℕ}
      (is : ◌≡◌ {A = Put} (record { length = l; out = after }) (put (marked m.prepend first bytes) room out)) where
    pub leaves_present : {n : ℕ} {cur : List ℕ} → l ≡ Some n → cur ≡ slice 0 n after → Leaves metaspace first bytes room cur
    unfolding metaspace_output metaspaced outgrows
    leaves_present f c =
        let p = put_short (marked m.prepend first bytes) room out long is f in
        record { short = rw (e, le-ltb room (length (marked m.prepend first bytes)) p.0); is = rw e (c ∙ p.1) }

    pub too_long : l ≡ None → outgrows (metaspace_output metaspace first bytes) room ≡ true
    unfolding metaspace_output outgrows
    too_long f = rw (e, lt-ltb room (length (marked m.prepend first bytes)) (put-long (marked m.prepend first bytes) room out long is f))

-- ---- the two passes on a part

module _ {metaspace : Option Metaspace} {first : Bool} {bytes : List ℕ} {room : ℕ} {cur : List ℕ} (l : Leaves metaspace first bytes room cur) where
  pub part-counted : (own : List ℕ → Option ℕ) (fallback : List ℕ) (cells : ℕ) {s : Symbols} → s ≡ parts_symbols own fallback (stretch cur false false) cells
      → Some s ≡ counted (outgrows (metaspace_output metaspace first bytes) room) (parts_symbols own fallback (stretch (metaspaced metaspace first bytes) false false) cells)
  part-counted own fallback cells e = rw (l.short, ← l.is, ← e)

  pub part-written : (t : Tables) (out : List ℕ) {done : Merged} → done ≡ parts_writer t (stretch cur false false) out
      → done ≡ unless_long (outgrows (metaspace_output metaspace first bytes) room) (parts_writer t (stretch (metaspaced metaspace first bytes) false false) out) out
  part-written t out e = rw (l.short, ← l.is, ← e)

module _ (metaspace : Option Metaspace) (first : Bool) (bytes : List ℕ) (room : ℕ) (long : outgrows (metaspace_output metaspace first bytes) room ≡ true) where
  pub part_uncounted : (s : Symbols) → counted true s ≡ counted (outgrows (metaspace_output metaspace first bytes) room) s
  part_uncounted s = rw long

  pub part_unwritten : (done : Merged) (out : List ℕ) → ◌≡◌ {A = Merged} (record { count = 0; ids = out }) (unless_long (outgrows (metaspace_output metaspace first bytes) room) done out)
  part_unwritten done out = rw long
