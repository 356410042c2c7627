-- `decode::put::put_strays` meets its contract. The loop's invariant: U+FFFD has been put out `counter` times. Assumes nothing.
use mathlib.Core.Path.{◌≡◌}
use lib.ListN.{length, replicate}
use Rattle.utf8.specs.Lists.{join}
use Rattle.decode.specs.Decode.{replacement}
use Rattle.decode.specs.inner.Feeding.{Put, put}
use Rattle.decode.proofs.put.put_strays.Given as goal

abbrev pub invariant-loop : goal.invariant-loop
invariant-loop l =
    (length l.out ≡ length l.initial.out) × (◌≡◌ {A = Put} (record { at = l.next; out = l.out }) (put (join (replicate l.counter replacement)) l.at l.initial.out))
