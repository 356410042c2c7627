-- `decode::put::put_bytes` meets its contract. The loop's invariant: the bytes in front have been put out. Assumes nothing.
use mathlib.Core.Path.{◌≡◌}
use lib.ListN.{length, take}
use Rattle.decode.specs.inner.Feeding.{Put, put}
use Rattle.decode.proofs.put.put_bytes.Given as goal

abbrev pub invariant-loop-b : goal.invariant-loop-b
invariant-loop-b l =
    (length l.out ≡ length l.initial.out) × (◌≡◌ {A = Put} (record { at = l.next; out = l.out }) (put (take l.b-index l.bytes) l.at l.initial.out))
