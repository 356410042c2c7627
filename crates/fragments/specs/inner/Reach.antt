-- Blocks by where they begin: how far those reach that begin before a place, and whether one begins ahead of it.
use Rattle.std.specs.Prelude.{ℕ, suc, ◌+◌, ◌-◌, max, ◌≡◌, Bool, false, not, cond, ◌&&◌, List, [], ◌∷◌, ltb, leb, length, drop}
use Rattle.utf8.specs.Lists.{any, below, count_from, starts_with}
use Rattle.utf8.specs.Chars.{tail, has_form}
use Rattle.model.specs.Model.{TokenList, contents, token_at}
use Rattle.sections.specs.Sections.{white_length}
use Rattle.fragments.specs.Safe.{makes_blocks, block_end, blocked_by}
use Rattle.fragments.specs.inner.Most.{most}

-- A flag is as asked for.
abbrev pub is_as : Bool → Bool → Bool
is_as wanted flag = cond wanted flag (not flag)

-- No UTF8-tail stands at the place.
abbrev pub Edge : List ℕ → ℕ → Type 0
Edge text p = has_form (tail ∷ []) (drop p text) ≡ false

-- Where a block ends, by where its token ends: without rstrip, and with it, if the token reaches the white space that begins at stop.
unfoldable pub plain_far : Bool → ℕ → ℕ
plain_far unguarded e = cond unguarded e (e - 1)

unfoldable pub strip_far : List ℕ → ℕ → ℕ → ℕ
strip_far text stop e = cond (ltb 0 e && leb stop e) (e + white_length (drop e text)) 0

-- How far blocks reach, by the furthest ends of tokens without rstrip and with it.
unfoldable pub furthest : Bool → List ℕ → ℕ → ℕ → ℕ → ℕ
furthest unguarded text stop plain strip = max (plain_far unguarded plain) (strip_far text stop strip)

-- The places from p on that only white space parts from it.
unfoldable pub places_ahead : List ℕ → ℕ → List ℕ
places_ahead text p = count_from p (suc (white_length (drop p text)))

module _ (t : TokenList) (text : List ℕ) where
  -- The token of the row stands at s.
  unfoldable pub stands_at : ℕ → ℕ → Bool
  stands_at s row = starts_with (token_at t row).content (drop s text)

  -- A token with lstrip stands at s.
  unfoldable pub strips_at : ℕ → Bool
  strips_at s = any (λ (row : ℕ). (token_at t row).lstrip && stands_at s row) (below (length (contents t)))

  -- A token ahead of p, at p itself or behind white space, has p in its block by its lstrip.
  unfoldable pub blocked_ahead : ℕ → Bool
  blocked_ahead p = any strips_at (places_ahead text p)

module _ (unguarded : Bool) (t : TokenList) (text : List ℕ) where
  -- A block of the list's tokens has the place.
  unfoldable pub blocked_in : ℕ → Bool
  blocked_in p = any (λ (row : ℕ). blocked_by unguarded text p (token_at t row)) (below (length (contents t)))

  -- Where the block of the row's token ends, if it stands at s, and else 0.
  unfoldable pub reach_of : ℕ → ℕ → ℕ
  reach_of s row =
      cond (makes_blocks unguarded (token_at t row) && stands_at t text s row) (block_end unguarded text (token_at t row) (s + length (token_at t row).content)) 0

  -- How far the blocks of what stands at s reach.
  unfoldable pub reach_at : ℕ → ℕ
  reach_at s = most (reach_of s) (below (length (contents t)))

  -- The same of all that stands from one place up to another.
  unfoldable pub reach : ℕ → ℕ → ℕ
  reach from to = most reach_at (count_from from (to - from))

  -- Where the row's token ends, if it blocks and stands at s and its rstrip is as asked for, and else 0.
  unfoldable pub end_of : Bool → ℕ → ℕ → ℕ
  end_of strip s row =
      cond (is_as strip (token_at t row).rstrip && (makes_blocks unguarded (token_at t row) && stands_at t text s row)) (s + length (token_at t row).content) 0

  -- How far what stands at s goes, and all that stands from one place up to another.
  unfoldable pub end_at : Bool → ℕ → ℕ
  end_at strip s = most (end_of strip s) (below (length (contents t)))

  unfoldable pub end_between : Bool → ℕ → ℕ → ℕ
  end_between strip from to = most (end_at strip) (count_from from (to - from))
