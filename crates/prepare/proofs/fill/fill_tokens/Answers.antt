-- the words of both lists are written one after the other.
use mathlib.Core.Path.{◌≡◌, refl, ◌∙◌}
use mathlib.Core.List.{List, ◌++◌}
use Prim.Native.Nat.{ℕ}
use native.Mathlib.Omega.{arith}
use lib.ListN.{length, take, drop, set, length-set}
use Rattle.model.specs.Model.{strings_of}
use Rattle.sections.specs.Beginnings.{beginnings}
use Rattle.prepare.specs.Layout.{token_words}
use Rattle.prepare.proofs.LayoutLaws.{lent_back, one-long, two_long, tokens-filled}
use Rattle.prepare.proofs.fill.fill_tokens.Goals as goal
use Rattle.prepare.proofs.fill.fill_tokens.Goals.{After-first_bytes, After-first_bytes-2}

abbrev words : After-first_bytes → List ℕ
words c = c.args.words.now

-- the contents of the two lists
abbrev first : After-first_bytes → List (List ℕ)
first c = strings_of c.args.first.now

abbrev second : After-first_bytes → List (List ℕ)
second c = strings_of c.args.second.now

-- the buffer with the first list's words
module _ (c : After-first_bytes) where
  abbrev one : List ℕ
  one = take 168519 (words c) ++ (c.first_bytes.new.begins ++ drop 256 (drop 168519 (words c)))

  one-is : one ≡ take 168519 (words c) ++ beginnings (first c) 256 ++ drop 168775 (words c)
  one-is = lent_back 168519 256 168775 (words c) c.first_bytes.new.begins (beginnings (first c)) refl (omega (arith, c.requires)) c.first_bytes.ensures

  one_same : length one ≡ length (words c)
  one_same = one-long (first c) (second c) (words c) c.requires one one-is

-- and with those of both
module _ (c : After-first_bytes-2) where
  abbrev two : List ℕ
  two = take 168775 (one (goal.at.After-first_bytes-2 c).After-first_bytes) ++ (c.first_bytes-2.new.begins ++ drop 256 (drop 168775 (one (goal.at.After-first_bytes-2 c).After-first_bytes)))

  two_is : two ≡ take 168775 (one (goal.at.After-first_bytes-2 c).After-first_bytes) ++ beginnings (second (goal.at.After-first_bytes-2 c).After-first_bytes) 256 ++ drop 169031 (one (goal.at.After-first_bytes-2 c).After-first_bytes)
  two_is = lent_back 168775 256 169031 (one (goal.at.After-first_bytes-2 c).After-first_bytes) c.first_bytes-2.new.begins (beginnings (second (goal.at.After-first_bytes-2 c).After-first_bytes)) refl (omega (arith, one_same (goal.at.After-first_bytes-2 c).After-first_bytes, c.requires)) c.first_bytes-2.ensures

  two_same : length two ≡ length (words (goal.at.After-first_bytes-2 c).After-first_bytes)
  two_same = two_long (first (goal.at.After-first_bytes-2 c).After-first_bytes) (second (goal.at.After-first_bytes-2 c).After-first_bytes) (words (goal.at.After-first_bytes-2 c).After-first_bytes) c.requires (one (goal.at.After-first_bytes-2 c).After-first_bytes) (one-is (goal.at.After-first_bytes-2 c).After-first_bytes) two two_is

  abbrev longest : ℕ
  longest = c.longest_content-longest.result

  whole : set two 169031 longest ≡ take 168519 (words (goal.at.After-first_bytes-2 c).After-first_bytes) ++ token_words (first (goal.at.After-first_bytes-2 c).After-first_bytes) (second (goal.at.After-first_bytes-2 c).After-first_bytes) ++ drop 169032 (words (goal.at.After-first_bytes-2 c).After-first_bytes)
  whole = tokens-filled (first (goal.at.After-first_bytes-2 c).After-first_bytes) (second (goal.at.After-first_bytes-2 c).After-first_bytes) (words (goal.at.After-first_bytes-2 c).After-first_bytes) c.requires (one (goal.at.After-first_bytes-2 c).After-first_bytes) (one-is (goal.at.After-first_bytes-2 c).After-first_bytes) two two_is longest c.longest_content-longest.ensures

pub shape_of-words : goal.shape_of-words
shape_of-words c = length-set (two (goal.at.shape_of-words c).After-first_bytes-2) 169031 (longest (goal.at.shape_of-words c).After-first_bytes-2) ∙ two_same (goal.at.shape_of-words c).After-first_bytes-2

pub returns : goal.returns
returns c = whole (goal.at.returns c).After-first_bytes-2
