use mathlib.Core.Path.{◌∙◌}
use borrow.Author.Tests.{lt-ltb, le-ltb}
use Rattle.index.specs.inner.Find.{row_between}
use Rattle.index.proofs.RowIndex.find_in_bucket.Goals as goal

pub returns-then-next-ge-BUCKET_WORDS : goal.returns-then-next-ge-BUCKET_WORDS
unfolding row_between
returns-then-next-ge-BUCKET_WORDS c = rw (← c.bucket_of-bucket.ensures.0, le-ltb _ _ c.if-next-ge-BUCKET_WORDS.true)

pub returns : goal.returns
unfolding row_between
returns c =
    rw (← c.bucket_of-bucket.ensures.0, lt-ltb _ _ c.if-next-ge-BUCKET_WORDS.false)
    (c.find_row_between.ensures
    ∙ rw (c.number_at-end.ensures, c.number_at-start.ensures))
