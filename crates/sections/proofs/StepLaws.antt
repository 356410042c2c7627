-- A walk ends: each step leaves fewer.
use Rattle.std.specs.Prelude.{Option, None, Some}
use Prim.Native.Nat.{ℕ, zero, suc, ◌+◌, ◌*◌, ◌≤◌}
use native.Mathlib.Omega.{arith}
use mathlib.Core.Bool.{Bool, true, false, cond, ◌&&◌}
use mathlib.Core.List.{List}
use lib.Dec.{ltb, eqb}
use lib.ListN.{length, get_or, drop}
use Rattle.model.specs.Model.{TokenList, contents}
use Rattle.sections.specs.declared.Match.{Match}
use Rattle.sections.specs.Matches.{end}
use Rattle.sections.specs.Sections.{is_swallowed}
use Rattle.sections.specs.inner.Seek.{match_by}
use Rattle.sections.specs.inner.Strips.{stop_at}
use Rattle.sections.specs.inner.Walk.{taken_or, taken_for, token_item, item_at, next_item}
use Rattle.sections.specs.declared.Taken.{Taken}
use Rattle.sections.specs.declared.Cursor.{Cursor}
use Rattle.sections.specs.declared.Cursor.TheVariants.{Whole, Seek, Held, Done}
use Rattle.sections.specs.declared.Next.{Next}
use Rattle.sections.specs.declared.Next.TheVariants.{Plain, Added, Finished}

-- No more items than this come from a cursor on.
abbrev pub steps_left : Cursor → ℕ
steps_left Whole = 1
steps_left (Seek start from turns opening) = 2 * turns + 1
steps_left (Held e row turns) = 2 * turns + 2
steps_left Done = 0

-- The item itself, and those behind it.
abbrev pub steps_given : Next → ℕ
steps_given (Plain start stop opening next) = suc (steps_left next)
steps_given (Added id next) = suc (steps_left next)
steps_given Finished = 0

-- the turns that a match takes
abbrev turns_of : Option Taken → ℕ
turns_of None = 0
turns_of (Some taken) = suc taken.turns

turns_enough : (turns : ℕ) (begins : List ℕ) (contents : List (List ℕ)) (text : List ℕ) (start from : ℕ) → turns_of (taken_for turns begins contents text start from) ≤ turns
turns_enough zero begins contents text start from = omega arith
turns_enough (suc turns) begins contents text start from = go (λ f. turns_enough turns begins contents text start f) (match_by begins contents from (drop from text))
  where
    pick : (m : Match) (b : Bool) → turns_of (taken_for turns begins contents text start (end contents m)) ≤ turns
        → turns_of (cond b (taken_for turns begins contents text start (end contents m)) (Some (record { found = m; end = end contents m; turns = turns }))) ≤ suc turns
    pick m true h = omega arith
    pick m false h = omega arith

    go : ((f : ℕ) → turns_of (taken_for turns begins contents text start f) ≤ turns) → (o : Option Match) → turns_of (taken_or contents start turns (taken_for turns begins contents text start) o) ≤ suc turns
    go later None = omega arith
    go later (Some m) = pick m (is_swallowed start m) (later (end contents m))

module _ (ids : List ℕ) (lstrip rstrip : List Bool) (afresh : Bool) (text : List ℕ) where
  token-steps : (e row turns : ℕ) → steps_given (token_item ids rstrip afresh text e row turns) ≤ 2 * turns + 2
  unfolding token_item
  token-steps e row turns = omega arith

  item_steps : (start : ℕ) (opening : Bool) (taken : Option Taken) → steps_given (item_at ids lstrip rstrip afresh text start opening taken) ≤ 2 * turns_of taken + 1
  item_steps start opening None = go (ltb start (length text))
    where
      go : (b : Bool) → steps_given (cond b (Plain start (length text) opening Done) Finished) ≤ 1
      go true = omega arith
      go false = omega arith
  item_steps start opening (Some taken) = go (ltb start stop)
    where
      row : ℕ
      row = taken.found.row

      stop : ℕ
      stop = stop_at (get_or lstrip row false) text start taken.found.place

      go : (b : Bool)
          → steps_given (cond b (Plain start stop opening (Held taken.end row taken.turns)) (token_item ids rstrip afresh text taken.end row taken.turns)) ≤ 2 * suc taken.turns + 1
      go true = omega arith
      go false = omega (arith, token-steps taken.end row taken.turns)

module _ (t : TokenList) (begins : List ℕ) (afresh : Bool) (text : List ℕ) where
  pub fewer_steps : (cursor : Cursor) → steps_given (next_item t begins afresh text cursor) ≤ steps_left cursor
  unfolding next_item
  fewer_steps Whole = omega arith
  fewer_steps (Seek start from turns opening) = go (afresh && eqb turns 0)
    where
      taken : Option Taken
      taken = taken_for turns begins (contents t) text start (cond afresh start from)

      go : (b : Bool) → steps_given (cond b Finished (item_at t.ids t.lstrip t.rstrip afresh text start opening taken)) ≤ 2 * turns + 1
      go true = omega arith
      go false = omega (arith, item_steps t.ids t.lstrip t.rstrip afresh text start opening taken, turns_enough turns begins (contents t) text start (cond afresh start from))
  fewer_steps (Held e row turns) = token-steps t.ids t.lstrip t.rstrip afresh text e row turns
  fewer_steps Done = omega arith
