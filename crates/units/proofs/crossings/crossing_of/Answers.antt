-- `units::crossings::crossing_of` meets its contract: by the tests that led to each answer.
use mathlib.Core.Path.{sym}
use Rattle.units.proofs.CrossingLaws.{crossed-past, crossed_invalid, crossed-tangled, crossed-at}
use Rattle.units.proofs.crossings.crossing_of.Goals as goal

pub returns-then-is_tangled : goal.returns-then-is_tangled
returns-then-is_tangled c =
    let found = c.in-Some.ensures in
    crossed-tangled c.args.piece.now c.in-Some.p found.0 found.1 (sym c.if-is_valid.ensures) (sym c.if-is_tangled.ensures)

pub returns-else-is_tangled : goal.returns-else-is_tangled
returns-else-is_tangled c =
    let found = c.in-Some.ensures in
    crossed-at c.args.piece.now c.in-Some.p found.0 found.1 (sym c.if-is_valid.ensures) (sym c.if-is_tangled.ensures)

pub returns-in_default : goal.returns-in_default
returns-in_default c = crossed_invalid c.args.piece.now (sym c.if-is_valid.ensures)

pub returns-in_default-2 : goal.returns-in_default-2
returns-in_default-2 c = crossed-past c.args.piece.now c.in_default.ensures
