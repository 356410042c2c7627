-- The search by halves that a sorted table allows.
use Rattle.std.specs.declared.cmp.Ordering.{Ordering}
use Rattle.std.specs.declared.cmp.Ordering.TheVariants.{Less, Equal, Greater}
use Rattle.std.specs.Prelude.{ℕ, zero, suc, ◌+◌, ◌-◌, ◌/◌, cond, List, ltb, length, get_or, Option, None, Some}
use Rattle.model.specs.Model.{Row, piece}
use Rattle.model.specs.ByteOrder.{order_or, byte_order}

-- The order of two pairs: that of their left sides, and where these are equal that of their right sides.
unfoldable pub pair_order : ℕ × ℕ → ℕ × ℕ → Ordering
pair_order p q = order_or p.0 q.0 (order_or p.1 q.1 Equal)

-- where a search goes on from the middle entry, by its order to what is sought
abbrev pub search_on : ℕ → Ordering → (ℕ → ℕ → Option ℕ) → ℕ → ℕ → Option ℕ
search_on middle Less go_on lo hi = go_on (middle + 1) hi
search_on middle Equal go_on lo hi = Some middle
search_on middle Greater go_on lo hi = go_on lo middle

-- Each turn leaves less between lo and hi, so as many turns as there are places are enough.
abbrev pub search_for : ℕ → (ℕ → Ordering) → ℕ → ℕ → Option ℕ
search_for zero order lo hi = None
search_for (suc turns) order lo hi =
    let middle = (lo + hi) / 2 in
    let found = search_on middle (order middle) (search_for turns order) lo hi in
    cond (ltb lo hi) found None

-- The place from lo up to hi at which a search by halves ends; order says how the entry at a place stands to what is sought.
unfoldable pub searched : (ℕ → Ordering) → ℕ → ℕ → Option ℕ
searched order lo hi = search_for (hi - lo) order lo hi

-- How the piece of an entry of the lookup list stands to a string.
unfoldable pub piece_order : List (List ℕ) → List ℕ → List ℕ → ℕ → Ordering
piece_order pieces lookup bytes i = byte_order (piece pieces (get_or lookup i 0)) bytes

-- The place in the lookup list at which a search for a string ends.
unfoldable pub found_piece : List (List ℕ) → List ℕ → List ℕ → Option ℕ
found_piece pieces lookup bytes = searched (piece_order pieces lookup bytes) 0 (length lookup)

-- How a merge row's pair stands to a pair of ids.
unfoldable pub row_order : List ℕ → List ℕ → ℕ → ℕ → ℕ → Ordering
row_order left right l r i = pair_order (get_or left i 0, get_or right i 0) (l, r)

-- The place among the merge rows at which a search for a pair ends.
unfoldable pub found_row : List ℕ → List ℕ → ℕ → ℕ → Option ℕ
found_row left right l r = searched (row_order left right l r) 0 (length left)

-- The entry at the place that a search gives.
abbrev pub entry_at : {A : Type 0} → A → List A → Option ℕ → Option A
entry_at d xs (Some i) = Some (get_or xs i d)
entry_at d xs None = None

-- The id that a search in the lookup list gives.
unfoldable pub id_at : List ℕ → Option ℕ → Option ℕ
id_at lookup found = entry_at 0 lookup found

-- The row that a search among the merge rows gives.
unfoldable pub row_found : List Row → Option ℕ → Option Row
row_found rows found = entry_at (record { left = 0; right = 0; result = 0; rank = 0 }) rows found
