use Rattle.merge.proofs.FrontLaws.{front-counted}
use mathlib.Core.Path.{◌≡◌, ◌∙◌}
use native.Mathlib.Omega.{arith}
use Rattle.merge.specs.inner.Turns.{row_by, merged_front}
use Rattle.merge.proofs.ranked.merge_longer.Goals as goal
use Rattle.merge.proofs.ranked.merge_longer.Goals.{After-min-n}

-- As many ids as the buffer has room for.
all : (l : After-min-n)
    → let s = l.args in let row = row_by s.rows.now in merged_front row l.min-n.result s.ids.now ≡ merged_front row s.count s.ids.now
all l =
    let s = l.args in
    front-counted (row_by s.rows.now) l.min-n.result s.count s.ids.now l.min-n.ensures

pub merge_within-requires : goal.merge_within-requires
merge_within-requires c = record { room_bounded = omega arith; left_len_bound = c.if-rows-gt-ROW_SPAN.false; count_in_bounds = (omega (arith, c.min-n.ensures), c.if-n-le-MIDDLE.true) }

pub returns-then-n-le-MIDDLE : goal.returns-then-n-le-MIDDLE
returns-then-n-le-MIDDLE c =
    c.merge_within.ensures ∙ all (goal.at.returns-then-n-le-MIDDLE c).After-min-n

pub merge_within-requires-then-n-le-LONG : goal.merge_within-requires-then-n-le-LONG
merge_within-requires-then-n-le-LONG c = record { room_bounded = omega arith; left_len_bound = c.if-rows-gt-ROW_SPAN.false; count_in_bounds = (omega (arith, c.min-n.ensures), c.if-n-le-LONG.true) }

pub returns-then-n-le-LONG : goal.returns-then-n-le-LONG
returns-then-n-le-LONG c =
    c.merge_within-then-n-le-LONG.ensures ∙ all (goal.at.returns-then-n-le-LONG c).After-min-n
