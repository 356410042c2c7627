-- `decode::words::put_eight` meets its contract. Assumes nothing.
use Prim.Native.Nat.{ℕ, ◌+◌, ◌≤◌}
use native.Mathlib.Omega.{arith}
use mathlib.Core.Path.{◌≡◌, sym, ◌∙◌}
use mathlib.Core.Logic.{⊎_elim}
use mathlib.Core.List.{List, ◌++◌, append_assoc}
use lib.ListN.{length, take, drop}
use lib.Seq.{sets, sets-eq, drop-drop}
use borrow.Author.Rules.{rules}
use Rattle.decode.proofs.QuickLaws.{all-or-none}
use Rattle.decode.proofs.StateLaws.{sets_past}
use Rattle.decode.proofs.words.put_eight.Goals as goal
use Rattle.decode.proofs.words.put_eight.Goals.{Then-at-out}

put_sets : (xs out : List ℕ) (at k : ℕ) → k ≡ length xs → at + length xs ≤ length out → take at out ++ (xs ++ drop k (drop at out)) ≡ sets out at xs
put_sets xs out at k e h = rw (e, drop-drop (length xs) at out) (sym (append_assoc (take at out) xs (drop (at + length xs) out)) ∙ sym (sets-eq xs out at h))

room : (t : Then-at-out) → t.args.at + 8 ≤ length t.args.out.now
room t = ⊎_elim (λ none. absurd (omega (arith, none, t.if-at-out.true))) (λ room. room) (all-or-none t.args.at _ t.requires)

pub slice_bounds-copy_from_slice-end : goal.slice_bounds-copy_from_slice-end
slice_bounds-copy_from_slice-end c = room c

pub returns-then-at-out : goal.returns-then-at-out
returns-then-at-out c =
    let eight = c.args.eight in
    let long : length eight ≡ 8 = search rules in
    rw c.copy_from_slice.ensures.after (put_sets eight c.args.out.now c.args.at _ (omega arith) (omega (arith, room (goal.at.returns-then-at-out c).Then-at-out)))

pub returns-else-at-out : goal.returns-else-at-out
returns-else-at-out c = sym (sets_past c.args.eight c.args.out.now c.args.at c.if-at-out.false)
