use mathlib.Core.Path.{◌≡◌, sym}
use Rattle.index.specs.inner.Find.{second_word, told, row_beyond}
use Rattle.index.proofs.RowIndex.find_beyond.Goals as goal
use Rattle.index.proofs.RowIndex.find_beyond.Goals.{After-tell}

-- what the word in the second table tells
second-told : (c : After-tell) → (let a = c.args in
    told a.self.now.rows.left.now a.self.now.rows.right.now (second_word a.self.now.words.now a.l a.r) a.l a.r ≡ c.tell.result)
unfolding second_word
second-told c = rw (← c.second_slot.ensures.0, ← c.number_at-word.ensures) (sym c.tell.ensures)

pub returns-in-Row : goal.returns-in-Row
unfolding row_beyond
returns-in-Row c = rw (second-told (goal.at.returns-in-Row c).After-tell, c.in-Row.is)

pub returns-in-NoRow : goal.returns-in-NoRow
unfolding row_beyond
returns-in-NoRow c = rw (second-told (goal.at.returns-in-NoRow c).After-tell, c.in-NoRow.is)

pub returns-in-Elsewhere : goal.returns-in-Elsewhere
unfolding row_beyond
returns-in-Elsewhere c = rw (second-told (goal.at.returns-in-Elsewhere c).After-tell, c.in-Elsewhere.is) c.find_in_bucket.ensures
