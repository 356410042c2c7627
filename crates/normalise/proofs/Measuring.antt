-- A loop that counts an output part by part, as far as the room allows. Assumes nothing.
use Prim.Native.Nat.{ℕ, ◌+◌, ◌-◌, ◌≤◌, ◌<◌}
use native.Mathlib.Omega.{arith}
use mathlib.Core.Path.{◌≡◌, ap}
use mathlib.Core.List.{List, []}
use lib.ListN.{length, length-append}
use Rattle.std.specs.Prelude.{Some, None}
use Rattle.utf8.proofs.Writing.{Begins}
use Rattle.normalise.specs.inner.Fit.{fitted}
use Rattle.normalise.proofs.FitLaws.{fits, too_long}

-- Of the room left bytes are left, and rest follows what was counted.
pub record Measured (output rest : List ℕ) (room left : ℕ) : Type 0 where
  pub within : left ≤ room
  pub counted : length output + left ≡ room + length rest

pub measured_start : (output : List ℕ) (room : ℕ) → Measured output output room room
measured_start output room = record { within = omega arith; counted = omega arith }

module _ {output whole : List ℕ} {room left : ℕ} (m : Measured output whole room left) where
  pub measured_ended : whole ≡ [] → Some (room - left) ≡ fitted (length output) room
  measured_ended e =
      let all : room - left ≡ length output = omega (arith, m.within, m.counted, ap length e) in
      rw all (fits (length output) room (omega (arith, m.within, m.counted, ap length e)))

  module _ {part rest : List ℕ} (begins : Begins whole part rest) where
    count : length output + left ≡ room + (length part + length rest)
    count = omega (arith, m.counted, ap length begins.is, length-append part rest)

    pub measured_over : left < length part → None ≡ fitted (length output) room
    measured_over h = too_long (length output) room (omega (arith, count))

    pub measured_next : {less : ℕ} → less + length part ≡ left → Measured output rest room less
    measured_next h = record { within = omega (arith, m.within); counted = omega (arith, count) }
