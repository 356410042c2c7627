-- What a step leaves in a buffer that may be too short for its output.
use Rattle.std.specs.Prelude.{ℕ, min, cond, Option, Some, None, List, ◌++◌, leb, drop}
use Rattle.std.proofs.Math.ListN as lists

-- The length of an output for which there is room.
unfoldable pub fitted : ℕ → ℕ → Option ℕ
fitted n room = cond (leb n room) (Some n) None

-- The answer, and the buffer after it.
pub record Put : Type 0 where
  pub length : Option ℕ
  pub out : List ℕ

-- An output put at the front of a buffer where it is no longer than the room and the buffer; else the buffer is unchanged.
unfoldable pub put : List ℕ → ℕ → List ℕ → Put
put result room out =
    cond (leb (lists.length result) (min room (lists.length out)))
    (record { length = Some (lists.length result); out = result ++ drop (lists.length result) out })
    (record { length = None; out = out })
