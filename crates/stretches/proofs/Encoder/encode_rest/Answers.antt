-- `stretches::Encoder::encode_rest` meets its contract: units are remembered only where 32 bits do for them.
use Prim.Native.Nat.{ℕ, ◌<◌}
use mathlib.Core.Path.{◌≡◌, sym, ◌∙◌}
use mathlib.Core.Bool.{Bool, true, ◌&&◌}
use lib.Dec.{ltb}
use borrow.Author.Rules.{rules}
use borrow.Author.Tests.{ltb-true}
use Rattle.utf8.proofs.Tests.{and_left, and_right}
use Rattle.stretches.proofs.Encoder.encode_rest.Goals as goal

few : (bytes room : ℕ) {r : Bool} → r ≡ (ltb 16383 bytes && (ltb bytes 4294967296 && ltb room 4294967296)) → r ≡ true → (bytes < 4294967296) × (room < 4294967296)
few bytes room e t =
    let short = ltb bytes 4294967296 in
    let both = and_right (ltb 16383 bytes) (short && ltb room 4294967296) (sym e ∙ t) in
    (ltb-true bytes 4294967296 (and_left short (ltb room 4294967296) both), ltb-true room 4294967296 (and_right short (ltb room 4294967296) both))

pub encode_repeats-requires : goal.encode_repeats-requires
encode_repeats-requires c = record { start_in_bounds = search rules; section_len_bound = few _ _ c.remembers.ensures c.if-remembers.true }
