-- `decode::decode_checked` meets its contract: the list's size, and then the ids. Assumes nothing.
use mathlib.Core.Path.{◌≡◌, refl, ◌∙◌}
use mathlib.Core.Bool.{Bool, true, false, not}
use Rattle.model.specs.Model.{columns, pieces_of, steps_of}
use Rattle.model.proofs.Accepted.{accepted}
use Rattle.decode.proofs.DecodeLaws.{Lent, long_list, good_list, list_room}
use Rattle.decode.proofs.decode_checked.Goals as goal
use Rattle.decode.proofs.decode_checked.Goals.{Start}

-- what the call is lent
abbrev lent : Start → Lent
lent s = record { model = columns s.args.model.now; ids = s.args.ids.now; out = s.args.out.now }

not-not : (b : Bool) → not (not b) ≡ b
not-not true = refl
not-not false = refl

pub returns-then-ids-gt-TEXT_LIMIT : goal.returns-then-ids-gt-TEXT_LIMIT
returns-then-ids-gt-TEXT_LIMIT c = long_list (lent (goal.at.returns-then-ids-gt-TEXT_LIMIT c).Start) _ refl c.if-ids-gt-TEXT_LIMIT.true

pub prepends_space-gone-requires : goal.prepends_space-gone-requires
prepends_space-gone-requires c = let s = (goal.at.prepends_space-gone-requires c).Start in (accepted (lent s).model s.requires).sizes.steps

pub decode_ids-requires : goal.decode_ids-requires
unfolding pieces_of
decode_ids-requires c = let s = (goal.at.decode_ids-requires c).Start in
    record { pieces_fine = (accepted (lent s).model s.requires).pieces; ids_len_bound = list_room (lent s) c.if-ids-gt-TEXT_LIMIT.false s.requires (not c.prepends_space-gone.result) }

pub returns : goal.returns
unfolding pieces_of steps_of
returns c =
    let s = (goal.at.returns c).Start in
    c.decode_ids.ensures
    ∙ good_list (lent s) c.if-ids-gt-TEXT_LIMIT.false s.requires (not c.prepends_space-gone.result) (not-not c.prepends_space-gone.result ∙ c.prepends_space-gone.ensures)
