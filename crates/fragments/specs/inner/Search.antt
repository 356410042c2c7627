-- The search for the next safe place, and what is known while it goes on.
use Rattle.std.specs.Prelude.{ℕ, ◌-◌, ◌≤◌, ◌<◌, ◌≡◌, Bool, true, false, not, cond, ◌&&◌, List, [], ◌∷◌, ◌++◌, ltb, length, Option, None, Some}
use Rattle.utf8.specs.Lists.{find, filter, neighbours, join_map, below, count_from}
use Rattle.model.specs.Answers.{Outcome, outcome, done}
use Rattle.model.specs.Model.{TokenList}
use Rattle.units.specs.Kinds.{Crossing}
use Rattle.units.specs.Units.{mark_cuts}
use Rattle.units.specs.declared.WordSplit.{WordSplit}
use Rattle.fragments.specs.Fragments.{cuts_from}
use Rattle.fragments.specs.inner.Reach.{Edge, blocked_ahead, blocked_in, reach}
use Rattle.fragments.specs.declared.Verdict.{Verdict}
use Rattle.fragments.specs.declared.Verdict.TheVariants.{Blocked, Free}
use Rattle.fragments.specs.declared.Cut.{Cut}

abbrev pub place_or : ℕ → Option ℕ → ℕ
place_or n None = n
place_or n (Some p) = p

-- The first place from p on that passes the test, or the end, n.
unfoldable pub first_from : (ℕ → Bool) → ℕ → ℕ → ℕ
first_from test n p = place_or n (find test (count_from p (n - p)))

-- A safe place, by what decides it: the kind, the crossings, whether the path is Unguarded, the tokens.
unfoldable pub safe_in : WordSplit → List Crossing → Bool → TokenList → List ℕ → ℕ → Bool
safe_in kind noted unguarded t text p = ltb 0 p && mark_cuts kind noted true text p && not (blocked_in unguarded t text p)

-- Before p: no block of what stands before the place at reaches p, and from at up to ahead no place has a token ahead.
pub record Known (unguarded : Bool) (t : TokenList) (text : List ℕ) (at ahead p : ℕ) : Type 0 where
  pub low : at ≤ p
  pub edge : Edge text at
  pub past : reach unguarded t text 0 at < p
  pub clear : (q : ℕ) → at ≤ q → q < ahead → Edge text q → blocked_ahead t text q ≡ false

-- All places from p to last are blocked, and what stands before p reaches no further.
pub record BlockedTo (unguarded : Bool) (t : TokenList) (text : List ℕ) (p last : ℕ) : Type 0 where
  pub low : p ≤ last
  pub high : last ≤ length text
  pub all_blocked : (q : ℕ) → p ≤ q → q ≤ last → blocked_in unguarded t text q ≡ true
  pub past : reach unguarded t text 0 p ≤ last

-- The place is not blocked.
pub record FreeAt (unguarded : Bool) (t : TokenList) (text : List ℕ) (p ahead : ℕ) : Type 0 where
  pub free : blocked_in unguarded t text p ≡ false
  pub known : Known unguarded t text p ahead p

-- What a verdict on a place says.
abbrev pub Judged : Bool → TokenList → List ℕ → ℕ → Verdict → Type 0
Judged unguarded t text p (Blocked last) = BlockedTo unguarded t text p last
Judged unguarded t text p (Free ahead) = FreeAt unguarded t text p ahead

-- The next safe place from one on.
pub record NextCut (kind : WordSplit) (noted : List Crossing) (unguarded : Bool) (t : TokenList) (text : List ℕ) (from : ℕ) (cut : Cut) : Type 0 where
  pub is : cut.place ≡ first_from (safe_in kind noted unguarded t text) (length text) from
  pub known : cut.place < length text → Known unguarded t text cut.place cut.ahead cut.place

-- What a search for one says: there is none, or this one.
abbrev pub NextOf : WordSplit → List Crossing → Bool → TokenList → List ℕ → ℕ → Option Cut → Type 0
NextOf kind noted unguarded t text from None = first_from (safe_in kind noted unguarded t text) (length text) from ≡ length text
NextOf kind noted unguarded t text from (Some cut) = (cut.place < length text) × NextCut kind noted unguarded t text from cut

-- The cuts of n places, by which of them are safe and how far one is from the last at least.
unfoldable pub cuts_in : (ℕ → Bool) → ℕ → ℕ → List ℕ
cuts_in safe n step = cuts_from step 0 (filter safe (below n))

-- The starts and ends of the ranges between such cuts.
unfoldable pub numbers_in : (ℕ → Bool) → ℕ → ℕ → List ℕ
numbers_in safe n step = join_map (λ (r : ℕ × ℕ). r.0 ∷ r.1 ∷ []) (neighbours (0 ∷ cuts_in safe n step ++ (n ∷ [])))

-- Such numbers as a call leaves them: 12 where there is no room for them.
unfoldable pub ranges_outcome : List ℕ → List ℕ → Outcome
ranges_outcome numbers out = outcome (cond (ltb (length out) (length numbers)) 12 0) 0 (done (length numbers) 0 0) numbers out
