use Rattle.merge.proofs.FrontLaws.{front-counted}
use mathlib.Core.Path.{◌≡◌, ◌∙◌}
use native.Mathlib.Omega.{arith}
use Rattle.merge.specs.inner.Turns.{row_by, merged_front}
use Rattle.merge.proofs.ranked.bpe_merge_symbols_ranked.Goals as goal
use Rattle.merge.proofs.ranked.bpe_merge_symbols_ranked.Goals.{After-min-n}

-- As many ids as the buffer has room for.
all : (l : After-min-n)
    → let s = l.args in let row = row_by s.rows.now in merged_front row l.min-n.result s.ids.now ≡ merged_front row s.count s.ids.now
all l =
    let s = l.args in
    front-counted (row_by s.rows.now) l.min-n.result s.count s.ids.now l.min-n.ensures

pub merge_within-requires : goal.merge_within-requires
merge_within-requires c = record { room_bounded = omega arith; left_len_bound = c.if-rows-gt-ROW_SPAN.false; count_in_bounds = (omega (arith, c.min-n.ensures), c.if-n-le-SHORT.true) }

pub returns-then-n-le-SHORT : goal.returns-then-n-le-SHORT
returns-then-n-le-SHORT c =
    c.merge_within.ensures ∙ all (goal.at.returns-then-n-le-SHORT c).After-min-n
