-- A walk through the tokens of a text and what stands between them, item by item, on any tables.
use Rattle.std.specs.Prelude.{ℕ, zero, suc, ◌-◌, Bool, true, false, cond, ◌&&◌, List, ltb, eqb, length, get_or, drop, Option, None, Some}
use Rattle.model.specs.Model.{TokenList, contents}
use Rattle.sections.specs.declared.Match.{Match}
use Rattle.sections.specs.Matches.{end}
use Rattle.sections.specs.Sections.{is_swallowed}
use Rattle.sections.specs.inner.Seek.{match_by}
use Rattle.sections.specs.inner.Strips.{stop_at, start_at}
use Rattle.sections.specs.declared.Taken.{Taken}
use Rattle.sections.specs.declared.Search.{Search}
use Rattle.sections.specs.declared.Search.TheVariants.{Onward, Afresh}
use Rattle.sections.specs.declared.Cursor.{Cursor}
use Rattle.sections.specs.declared.Cursor.TheVariants.{Whole, Seek, Held, Done}
use Rattle.sections.specs.declared.Next.{Next}
use Rattle.sections.specs.declared.Next.TheVariants.{Plain, Added, Finished}

-- Whether a search goes on where the next section begins.
abbrev pub is_afresh : Search → Bool
is_afresh Onward = false
is_afresh Afresh = true

-- the match where it is taken, and else what comes behind it
abbrev pub taken_or : List (List ℕ) → ℕ → ℕ → (ℕ → Option Taken) → Option Match → Option Taken
taken_or contents start turns go_on None = None
taken_or contents start turns go_on (Some match) =
    let e = end contents match in
    let later = go_on e in
    cond (is_swallowed start match) later (Some (record { found = match; end = e; turns = turns }))

-- The first of as many matches as turns say, from a place on, that is not swallowed, and the turns that are left then.
abbrev pub taken_for : ℕ → List ℕ → List (List ℕ) → List ℕ → ℕ → ℕ → Option Taken
taken_for zero begins contents text start from = None
taken_for (suc turns) begins contents text start from =
    taken_or contents start turns (taken_for turns begins contents text start) (match_by begins contents from (drop from text))

-- The token of a row that ends at the place. A search afresh goes on where the next section begins, the other where the token ends.
unfoldable pub token_item : List ℕ → List Bool → Bool → List ℕ → ℕ → ℕ → ℕ → Next
token_item ids rstrip afresh text place row turns =
    let start = start_at (get_or rstrip row false) text place in
    Added (get_or ids row 0) (Seek start (cond afresh start place) turns false)

-- What stands from start on, up to the token that is taken or to the end of the text; and where that is nothing, the token.
abbrev pub item_at : List ℕ → List Bool → List Bool → Bool → List ℕ → ℕ → Bool → Option Taken → Next
item_at ids lstrip rstrip afresh text start opening None = cond (ltb start (length text)) (Plain start (length text) opening Done) Finished
item_at ids lstrip rstrip afresh text start opening (Some taken) =
    let row = taken.found.row in
    let stop = stop_at (get_or lstrip row false) text start taken.found.place in
    let held = Held taken.end row taken.turns in
    cond (ltb start stop) (Plain start stop opening held) (token_item ids rstrip afresh text taken.end row taken.turns)

-- The item that comes next.
unfoldable pub next_item : TokenList → List ℕ → Bool → List ℕ → Cursor → Next
next_item t begins afresh text Whole = Plain 0 (length text) true Done
next_item t begins afresh text (Seek start from turns opening) =
    cond (afresh && eqb turns 0) Finished
    (item_at t.ids t.lstrip t.rstrip afresh text start opening (taken_for turns begins (contents t) text start (cond afresh start from)))
next_item t begins afresh text (Held e row turns) = token_item t.ids t.rstrip afresh text e row turns
next_item t begins afresh text Done = Finished

-- Where the walk through a text's sections begins; rule 7.4 decides by whether there are tokens.
unfoldable pub sections_start : List ℕ → List ℕ → Cursor
sections_start offsets text = cond (eqb (length offsets - 1) 0) Whole (Seek 0 0 (length text) true)

-- Where the walk through the parts of a normalized section begins.
unfoldable pub parts_start : List ℕ → Bool → Cursor
parts_start text first = Seek 0 0 (length text) first
