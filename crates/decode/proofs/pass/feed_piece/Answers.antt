use Prim.Native.Nat.{ℕ, ◌+◌, ◌≤◌, ◌<◌}
use native.Mathlib.Omega.{arith}
use native.Mathlib.Numerals.{add-one}
use mathlib.Core.Path.{◌≡◌, sym, ap, ◌∙◌}
use mathlib.Core.Bool.{true}
use mathlib.Core.List.{List, [], ◌∷◌, ◌++◌}
use lib.ListN.{length, drop, get_or, length-drop, drop_of_length-le}
use lib.Seq.{drop-cons, drop-drop}
use borrow.Author.Rules.{rules}
use Rattle.utf8.specs.Lists.{starts_with}
use Rattle.utf8.proofs.Starts.{starts_length}
use Rattle.utf8.proofs.Joins.{starts_rest}
use Rattle.model.specs.Mark.{mark, space}
use Rattle.decode.specs.inner.Feeding.{is_idle}
use Rattle.decode.proofs.ByteLaws.{fed-plain, fed-mark, feeding_start, feeding_next, feeding_ended}
use Rattle.decode.proofs.pass.feed_piece.Goals as goal
use Rattle.decode.proofs.pass.feed_piece.Goals.{At-loop-i, Then-is_idle, Then-is_mark_at}

-- the next byte, and those behind it
next : (a : At-loop-i) → a.loop-i.i < length a.args.bytes.now
    → drop a.loop-i.i a.args.bytes.now ≡ get_or a.args.bytes.now a.loop-i.i 0 ∷ drop (a.loop-i.i + 1) a.args.bytes.now
next a h = rw (add-one) (drop-cons a.args.bytes.now a.loop-i.i 0 h)

idle : (t : Then-is_idle) → is_idle t.loop-i.decoder ≡ true
idle t = sym t.is_idle.ensures ∙ t.if-is_idle.true

-- a mark that stands next, and what is behind it
marked : (t : Then-is_mark_at) → starts_with mark (drop t.loop-i.i t.args.bytes.now) ≡ true
marked t = sym t.is_mark_at.ensures ∙ t.if-is_mark_at.true

marked_inside : (t : Then-is_mark_at) → t.loop-i.i + 3 ≤ length t.args.bytes.now
unfolding mark
marked_inside t =
    omega (arith, starts_length mark (drop t.loop-i.i t.args.bytes.now) (marked t), length-drop t.loop-i.i t.args.bytes.now)

behind_mark : (t : Then-is_mark_at) → drop t.loop-i.i t.args.bytes.now ≡ mark ++ drop (t.loop-i.i + 3) t.args.bytes.now
unfolding mark
behind_mark t =
    let bytes = t.args.bytes.now in
    starts_rest mark (drop t.loop-i.i bytes) (marked t) ∙ ap (λ (l : List ℕ). mark ++ l) (drop-drop 3 t.loop-i.i bytes)

pub loop-i-init : goal.loop-i-init
loop-i-init c =
    (search rules, search rules, feeding_start c.args.s c.args.bytes.now c.args.start c.args.out.now c.requires.sound c.requires.bytes_bound)

pub put_byte-at-requires : goal.put_byte-at-requires
put_byte-at-requires c = omega (arith, c.loop-i.invariant.2.room)

pub overflow_add-i : goal.overflow_add-i
overflow_add-i c = omega (arith, marked_inside (goal.at.overflow_add-i c).Then-is_mark_at)

pub loop-i-smaller-then-is_mark_at : goal.loop-i-smaller-then-is_mark_at
loop-i-smaller-then-is_mark_at c = omega (arith, marked_inside (goal.at.loop-i-smaller-then-is_mark_at c).Then-is_mark_at)

pub loop-i-preserved-then-is_mark_at : goal.loop-i-preserved-then-is_mark_at
unfolding space
loop-i-preserved-then-is_mark_at c =
    let t = (goal.at.loop-i-preserved-then-is_mark_at c).Then-is_mark_at in
    let l = t.loop-i in (
      omega (arith, marked_inside t),
      search rules,
      feeding_next mark (drop (l.i + 3) t.args.bytes.now) (behind_mark t) l.invariant.2 _
          (fed-mark l.decoder l.invariant.2.sound (idle (goal.at.loop-i-preserved-then-is_mark_at c).Then-is_idle) l.at l.out _ c.put_byte-at.ensures),
    )

pub put_byte-at-requires-then-bytes-i-lt128 : goal.put_byte-at-requires-then-bytes-i-lt128
put_byte-at-requires-then-bytes-i-lt128 c = omega (arith, c.loop-i.invariant.2.room)

pub loop-i-preserved-then-bytes-i-lt128 : goal.loop-i-preserved-then-bytes-i-lt128
loop-i-preserved-then-bytes-i-lt128 c =
    let t = (goal.at.loop-i-preserved-then-bytes-i-lt128 c).Then-is_idle in
    let a = (goal.at.loop-i-preserved-then-bytes-i-lt128 c).At-loop-i in
    let l = t.loop-i in
    let b = get_or t.args.bytes.now l.i 0 in (
      omega (arith, c.loop-i-test.true),
      search rules,
      feeding_next (b ∷ []) (drop (l.i + 1) t.args.bytes.now) (next a c.loop-i-test.true) l.invariant.2 _
          (fed-plain l.decoder l.invariant.2.sound (idle t) l.at l.out _ b (omega (arith, c.if-bytes-i-lt128.true)) c.put_byte-at-then-bytes-i-lt128.ensures),
    )

pub feed-progress-requires : goal.feed-progress-requires
feed-progress-requires c = let l = c.loop-i.invariant.2 in
    record { sound = l.sound; at_bound = omega (arith, l.room) }

pub loop-i-preserved : goal.loop-i-preserved
loop-i-preserved c =
    let a = (goal.at.loop-i-preserved c).At-loop-i in
    (omega (arith, c.loop-i-test.true), search rules, feeding_next (get_or a.args.bytes.now a.loop-i.i 0 ∷ []) (drop (a.loop-i.i + 1) a.args.bytes.now) (next a c.loop-i-test.true) a.loop-i.invariant.2 _ c.feed-progress.ensures)

pub returns : goal.returns
returns c =
    feeding_ended (drop_of_length-le c.args.bytes.now {i = c.loop-i.i} (search rules)) c.loop-i.invariant.2
