-- Laws of a buffer that holds a result.
use mathlib.Core.Path.{◌≡◌, sym}
use mathlib.Core.List.{List, [], ◌++◌, append-nil}
use Prim.Native.Nat.{ℕ, ◌-◌, ◌≤◌, ◌<◌}
use borrow.Rule.Slice.PartMut.{put_mid}
use native.Mathlib.Omega.{arith}
use lib.ListN.{length, drop, length-drop, drop_of_length-le}
use lib.Seq.{take-append_seam, drop-append_seam, length_front, length-take-le}
use borrow.Author.Tests.{lt-ltb, le-ltb}
use Rattle.model.specs.Answers.{zeros, filled, Outcome, outcome, done, refused}
use Rattle.normalise.specs.inner.Run.{finished}

-- What a result leaves in the buffer.
module _ (result out : List ℕ) where
  pub finished_short : length out < length result → ◌≡◌ {A = Outcome} (record { answer = refused 12 0; out = out }) (finished result out)
  unfolding finished outcome
  finished_short h = rw (lt-ltb (length out) (length result) h)

  -- the result is copied to the front, and what is behind it filled
  pub finished_fits : {filled : List ℕ} {k : ℕ} → length result ≤ length out → filled ≡ zeros k → k ≡ length out - length result
      → ◌≡◌ {A = Outcome} (record { answer = done (length result) 0 0; out = put_mid (length result) (length (result ++ drop (length result) out) - length result) (result ++ drop (length result) out) filled }) (finished result out)
  unfolding finished outcome filled
  finished_fits h z e =
      let long : length (result ++ drop (length result) out) ≡ length out = length_front out result (length result) (sym (length-take-le (length result) out h)) in
      let none : drop (length out - length result) (drop (length result) out) ≡ [] = drop_of_length-le (drop (length result) out) {i = length out - length result} (omega (arith, length-drop (length result) out)) in
      rw (le-ltb (length out) (length result) h, z, e, long, take-append_seam, drop-append_seam, none, append-nil)
