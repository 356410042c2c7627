-- the second table is written behind the first.
use mathlib.Core.Path.{◌≡◌, ap, ◌∙◌}
use mathlib.Core.List.{List, ◌++◌}
use Prim.Native.Nat.{ℕ}
use native.Mathlib.Omega.{arith}
use lib.ListN.{length, take, drop, length-append, length-drop}
use lib.Seq.{length-take-le, take_at}
use Rattle.index.specs.Index.{pair_words, second_words, pair_tables}
use Rattle.index.proofs.PairLaws.{length_pairs}
use Rattle.prepare.proofs.pairs.fill_pairs.Goals as goal
use Rattle.prepare.proofs.pairs.fill_pairs.Goals.{After-fill_first}

pub slice_bounds-fill_first-end : goal.slice_bounds-fill_first-end
slice_bounds-fill_first-end c = omega (arith, c.requires.words_len)

pub fill_first-requires : goal.fill_first-requires
fill_first-requires c = record { left_len_bound = c.requires.left_len_bound; words_len = length-take-le 131072 c.args.words.now (omega (arith, c.requires.words_len)) }

module _ (c : After-fill_first) where
  abbrev first : List ℕ
  first = c.fill_first.new.words

  abbrev words : List ℕ
  words = pair_words c.args.rows.now.left.now c.args.rows.now.right.now c.args.rows.now.rank.now

  -- the buffer, with the first table in front
  abbrev buffer : List ℕ
  buffer = first ++ drop 131072 c.args.words.now

  first-long : length first ≡ 131072
  first-long = ap length c.fill_first.ensures ∙ length_pairs c.args.rows.now.left.now c.args.rows.now.right.now c.args.rows.now.rank.now

  buffer_long : length buffer ≡ 163840
  buffer_long = omega (arith, length-append first (drop 131072 c.args.words.now), first-long, length-drop 131072 c.args.words.now, c.requires.words_len)

  front-is : take 131072 buffer ≡ words
  front-is = take_at first (drop 131072 c.args.words.now) 131072 first-long ∙ c.fill_first.ensures

pub fill_second-requires : goal.fill_second-requires
fill_second-requires c = let f = (goal.at.fill_second-requires c).After-fill_first in
    record { left_len_bound = f.requires.left_len_bound; words_len = buffer_long f }

pub returns : goal.returns
unfolding pair_tables
returns c =
    let f = (goal.at.returns c).After-fill_first in
    c.fill_second.ensures
    ∙ ap (λ (w : List ℕ). w ++ second_words f.args.rows.now.left.now f.args.rows.now.right.now f.args.rows.now.rank.now w) (front-is f)
