use mathlib.Core.Path.{◌≡◌, sym}
use Rattle.index.specs.inner.Find.{pair_word, told, row_from}
use Rattle.index.proofs.RowIndex.find.Goals as goal
use Rattle.index.proofs.RowIndex.find.Goals.{After-tell}

-- what the word in the first table tells
first-told : (c : After-tell) → (let a = c.args in
    told a.self.now.rows.left.now a.self.now.rows.right.now (pair_word a.self.now.words.now a.l a.r) a.l a.r ≡ c.tell.result)
unfolding pair_word
first-told c = rw (← c.pair_slot.ensures.0, ← c.number_at-word.ensures) (sym c.tell.ensures)

pub returns-in-Row : goal.returns-in-Row
unfolding row_from
returns-in-Row c = rw (first-told (goal.at.returns-in-Row c).After-tell, c.in-Row.is)

pub returns-in-NoRow : goal.returns-in-NoRow
unfolding row_from
returns-in-NoRow c = rw (first-told (goal.at.returns-in-NoRow c).After-tell, c.in-NoRow.is)

pub returns-in-Elsewhere : goal.returns-in-Elsewhere
unfolding row_from
returns-in-Elsewhere c = rw (first-told (goal.at.returns-in-Elsewhere c).After-tell, c.in-Elsewhere.is) c.find_beyond.ensures
