use lib.ListN.{length, take, drop, length-map}
use mathlib.Core.List.{List, ◌++◌, map}
use Rattle.merge.proofs.FrontLaws.{Picked, picked, stopped, merging_inside, merging-ended}
use native.Mathlib.Omega.{arith}
use Rattle.merge.proofs.KeyLaws.{length-rows, next-turn, keeping_start, keeping_ids, keeping_keys, front-ids, front_keys, keeping_next}
use Prim.Native.Nat.{ℕ, ◌+◌, ◌≤◌}
use Rattle.merge.specs.inner.Turns.{row_by, turn_of, closed_at}
use mathlib.Core.Path.{◌≡◌, sym, ap, ◌∙◌}
use Rattle.merge.specs.Merge.{next_merge}
use Rattle.merge.specs.inner.Keys.{key_row, ranked_by, next_rows, rows_turn}
use lib.Seq.{take_at, drop_at}
use Rattle.merge.proofs.kept.merge_kept.Goals as goal
use Rattle.merge.proofs.kept.merge_kept.Goals.{After-fill_keys, After-next_kept, In-Some}

abbrev filled : After-fill_keys → List ℕ
filled f = f.fill_keys.new.keys

-- All pairs' rows.
right : (f : After-fill_keys)
    → let s = f.args in map key_row (filled f) ≡ next_rows (ranked_by s.rows.now) (take f.loop-joining.n f.loop-joining.ids)
right f = f.fill_keys.ensures

long : (f : After-fill_keys) → length (filled f) ≡ f.loop-joining.n
long f =
    let s = f.args in
    sym (length-map (filled f) key_row) ∙ ap length (right f) ∙ length-rows (ranked_by s.rows.now) (take f.loop-joining.n f.loop-joining.ids) ∙ front-ids f.loop-joining.invariant

front : (f : After-fill_keys) → take f.loop-joining.n (filled f ++ drop f.loop-joining.n f.loop-joining.keys) ≡ filled f
front f = take_at (filled f) (drop f.loop-joining.n f.loop-joining.keys) f.loop-joining.n (long f)

-- What is done next.
turn : (t : After-next_kept)
    → let s = t.args in t.next_kept.result ≡ turn_of (next_merge (row_by s.rows.now) (take t.loop-joining.n t.loop-joining.ids))
turn t =
    let f = (goal.at.After-next_kept t).After-fill_keys in
    let s = f.args in
    t.next_kept.ensures
    ∙ ap (λ (l : List ℕ). rows_turn s.rows.now.rows.result.now 0 (map key_row l)) (front f)
    ∙ ap (rows_turn s.rows.now.rows.result.now 0) (right f)
    ∙ next-turn s.rows.now.rows.left.now s.rows.now.rows.right.now s.rows.now.rows.result.now s.rows.now.rows.rank.now s.rows.now.words.now s.rows.now.shift (take f.loop-joining.n f.loop-joining.ids)

pick : (p : In-Some)
    → let s = p.args in Picked (next_merge (row_by s.rows.now) (take p.loop-joining.n p.loop-joining.ids)) p.in-Some.joining.place p.in-Some.joining.result
pick p = picked _ (turn (goal.at.In-Some p).After-next_kept) p.in-Some.is

inside : (p : In-Some) → p.in-Some.joining.place + 2 ≤ p.loop-joining.n
inside p = omega (arith, merging_inside p.loop-joining.invariant.merging (pick p), front-ids p.loop-joining.invariant)

pub loop-joining-init : goal.loop-joining-init
loop-joining-init c =
    keeping_start (row_by c.args.rows.now) (ranked_by c.args.rows.now) c.args.count c.args.ids.now c.args.keys.now c.requires.count_in_bounds.0 c.requires.count_in_bounds.1

pub slice_bounds-fill_keys-end : goal.slice_bounds-fill_keys-end
slice_bounds-fill_keys-end c = keeping_ids c.loop-joining.invariant

pub slice_bounds-fill_keys-end-in-loop-joining : goal.slice_bounds-fill_keys-end-in-loop-joining
slice_bounds-fill_keys-end-in-loop-joining c = sym (front-ids c.loop-joining.invariant)

pub slice_bounds-fill_keys-end-in-loop-joining-2 : goal.slice_bounds-fill_keys-end-in-loop-joining-2
slice_bounds-fill_keys-end-in-loop-joining-2 c = keeping_keys c.loop-joining.invariant

pub slice_bounds-fill_keys-end-in-loop-joining-3 : goal.slice_bounds-fill_keys-end-in-loop-joining-3
slice_bounds-fill_keys-end-in-loop-joining-3 c = sym (front_keys c.loop-joining.invariant)

pub fill_keys-requires : goal.fill_keys-requires
fill_keys-requires c = record { left_len_bound = c.requires.left_len_bound; keys_len = front_keys c.loop-joining.invariant ∙ sym (front-ids c.loop-joining.invariant); from_le_to = (c.loop-joining.invariant.ordered, omega (arith, c.loop-joining.invariant.ended, front-ids c.loop-joining.invariant)); kept = c.loop-joining.invariant.kept }

pub slice_bounds-next_kept-end-in-loop-joining : goal.slice_bounds-next_kept-end-in-loop-joining
slice_bounds-next_kept-end-in-loop-joining c = let f = (goal.at.slice_bounds-next_kept-end-in-loop-joining c).After-fill_keys in sym (ap length (front f) ∙ long f)

pub returns-in-None : goal.returns-in-None
returns-in-None c =
    let t = (goal.at.returns-in-None c).After-next_kept in
    merging-ended t.loop-joining.invariant.merging t.args.count (omega (arith, t.requires.count_in_bounds.0)) (stopped _ (turn t) c.in-None.is)

pub slice_bounds-merge_at-end-in-Some : goal.slice_bounds-merge_at-end-in-Some
slice_bounds-merge_at-end-in-Some c = sym (front-ids c.loop-joining.invariant)

pub merge_at-requires : goal.merge_at-requires
merge_at-requires c = let p = (goal.at.merge_at-requires c).In-Some in merging_inside p.loop-joining.invariant.merging (pick p)

pub slice_bounds-close_gap-end-in-Some : goal.slice_bounds-close_gap-end-in-Some
slice_bounds-close_gap-end-in-Some c = let f = (goal.at.slice_bounds-close_gap-end-in-Some c).After-fill_keys in sym (ap length (front f) ∙ long f)

pub close_gap-requires : goal.close_gap-requires
close_gap-requires c = let p = (goal.at.close_gap-requires c).In-Some in let f = (goal.at.close_gap-requires c).After-fill_keys in omega (arith, inside p, ap length (front f), long f)

pub overflow_sub-n : goal.overflow_sub-n
overflow_sub-n c = omega (arith, inside (goal.at.overflow_sub-n c).In-Some)

pub overflow_add-to : goal.overflow_add-to
overflow_add-to c = let p = (goal.at.overflow_add-to c).In-Some in omega (arith, inside p, keeping_ids p.loop-joining.invariant, p.loop-joining.invariant.merging.size)

pub loop-joining-smaller : goal.loop-joining-smaller
loop-joining-smaller c = omega (arith, inside (goal.at.loop-joining-smaller c).In-Some)

pub loop-joining-preserved : goal.loop-joining-preserved
loop-joining-preserved c =
    let p = (goal.at.loop-joining-preserved c).In-Some in
    let f = (goal.at.loop-joining-preserved c).After-fill_keys in
    let n = f.loop-joining.n in
    let place = p.in-Some.joining.place in
    keeping_next f.loop-joining.invariant (pick p) (filled f) (long f) (right f) (rw c.merge_at.ensures) (ap (λ (l : List ℕ). l ++ drop n (filled f ++ drop n f.loop-joining.keys)) (c.close_gap.ensures ∙ ap (closed_at place 0) (front f)) ∙ ap (λ (l : List ℕ). closed_at place 0 (filled f) ++ l) (drop_at (filled f) (drop n f.loop-joining.keys) n (long f))) c.saturating_sub-from.ensures
