use mathlib.Core.Path.{◌≡◌, sym, ap, ◌∙◌}
use mathlib.Core.List.{List, ◌++◌}
use Prim.Native.Nat.{ℕ, ◌+◌}
use native.Mathlib.Omega.{arith}
use borrow.Author.Rules.{rules}
use lib.ListN.{length, get_or, take}
use Rattle.index.specs.Index.{pair_slot, second_slot, second_words}
use Rattle.prepare.proofs.PairLaws.{front_same, front_kept, front_cleared, both_tables, length_both, both_start, both_passed, both_next, both_ended}
use Rattle.prepare.proofs.pairs.fill_second.Goals as goal
use Rattle.prepare.proofs.pairs.fill_second.Goals.{After-clear, After-pair_slot, After-second_slot-slot}

module _ (c : After-clear) where
  abbrev cleared : List ℕ
  cleared = c.clear.new.out

  -- the words of the first table
  abbrev first : List ℕ
  first = take 131072 cleared

  first-same : first ≡ take 131072 c.args.words.now
  first-same = front_same 131072 32768 c.args.words.now cleared c.requires.words_len c.clear.ensures

  first-long : length first ≡ 131072
  first-long = front_kept 131072 32768 c.args.words.now cleared c.requires.words_len c.clear.ensures

  -- both tables over the first rows
  abbrev both : ℕ → List ℕ
  both i = both_tables c.args.rows.now.left.now c.args.rows.now.right.now c.args.rows.now.rank.now first 32768 i

  both_long : (i : ℕ) → length (both i) ≡ 163840
  both_long i = length_both c.args.rows.now.left.now c.args.rows.now.right.now c.args.rows.now.rank.now first 131072 first-long 32768 i

pub loop-i-init : goal.loop-i-init
loop-i-init c =
    let b = (goal.at.loop-i-init c).After-clear in
    let table = front_cleared 131072 32768 b.args.words.now (cleared b) b.requires.words_len b.clear.ensures ∙ both_start b.args.rows.now.left.now b.args.rows.now.right.now b.args.rows.now.rank.now (first b) 32768 in
    (search rules, ap length table ∙ both_long b 0, table)

module _ (c : After-pair_slot) where
  slot_is : c.pair_slot.result ≡ pair_slot (get_or c.args.rows.now.left.now c.loop-i.i 0) (get_or c.args.rows.now.right.now c.loop-i.i 0)
  slot_is = c.pair_slot.ensures.0 ∙ ap (pair_slot (get_or c.args.rows.now.left.now c.loop-i.i 0)) c.number_at-r.ensures

pub bounds-words-pair_slot : goal.bounds-words-pair_slot
bounds-words-pair_slot c = omega (arith, c.pair_slot.ensures.1, c.loop-i.invariant.1)

pub loop-i-preserved-then-named_row-i : goal.loop-i-preserved-then-named_row-i
loop-i-preserved-then-named_row-i c =
    let p = (goal.at.loop-i-preserved-then-named_row-i c).After-pair_slot in
    let b = (goal.at.loop-i-preserved-then-named_row-i c).After-clear in
    let l = p.loop-i in
    let next = both_passed p.args.rows.now.left.now p.args.rows.now.right.now p.args.rows.now.rank.now (first b) 131072 (first-long b) 32768 l.i l.words l.invariant.2 p.pair_slot.result (slot_is p) p.pair_slot.ensures.1
    (sym c.named_row.ensures ∙ c.if-named_row-i.true) in
    (search rules, l.invariant.1, next)

module _ (c : After-second_slot-slot) where
  second_is : c.second_slot-slot.result ≡ second_slot (get_or c.args.rows.now.left.now c.loop-i.i 0) (get_or c.args.rows.now.right.now c.loop-i.i 0)
  second_is = c.second_slot-slot.ensures.0 ∙ ap (second_slot (get_or c.args.rows.now.left.now c.loop-i.i 0)) c.number_at-r.ensures

pub bounds-words-slot : goal.bounds-words-slot
bounds-words-slot c = omega (arith, c.second_slot-slot.ensures.1, c.loop-i.invariant.1)

pub bounds-words-slot-in-loop-i : goal.bounds-words-slot-in-loop-i
bounds-words-slot-in-loop-i c = omega (arith, c.second_slot-slot.ensures.1, c.loop-i.invariant.1)

pub loop-i-preserved : goal.loop-i-preserved
loop-i-preserved c =
    let q = (goal.at.loop-i-preserved c).After-second_slot-slot in
    let p = (goal.at.loop-i-preserved c).After-pair_slot in
    let b = (goal.at.loop-i-preserved c).After-clear in
    let l = p.loop-i in
    let next = both_next p.args.rows.now.left.now p.args.rows.now.right.now p.args.rows.now.rank.now (first b) 131072 (first-long b) 32768 l.i l.words l.invariant.2 p.pair_slot.result (slot_is p) p.pair_slot.ensures.1
    q.second_slot-slot.result c.word_with.result (λ e. q.if-named_row-i.false (q.named_row.ensures ∙ e)) (omega (arith, p.requires.left_len_bound, p.loop-i-test.true)) q.second_slot-slot.ensures.1 (second_is q) c.word_with.ensures in
    (search rules, ap length next ∙ both_long b (l.i + 1), next)

pub returns : goal.returns
returns c =
    let b = (goal.at.returns c).After-clear in
    c.loop-i.invariant.2
    ∙ both_ended b.args.rows.now.left.now b.args.rows.now.right.now b.args.rows.now.rank.now (first b) c.loop-i.i (omega (arith, c.loop-i.invariant.0, c.loop-i-test.false))
    ∙ ap (λ (words : List ℕ). words ++ second_words b.args.rows.now.left.now b.args.rows.now.right.now b.args.rows.now.rank.now words) (first-same b)
