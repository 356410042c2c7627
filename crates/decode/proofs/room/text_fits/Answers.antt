-- `decode::room::text_fits` meets its contract. Assumes nothing.
use mathlib.Core.Path.{sym, ◌∙◌}
use mathlib.Core.Bool.{not}
use Rattle.model.specs.Model.{strings_of}
use Rattle.decode.proofs.RoomLaws.{surely_enough}
use Rattle.decode.proofs.room.text_fits.Goals as goal

pub returns-then-surely_fits : goal.returns-then-surely_fits
returns-then-surely_fits c =
    c.if-surely_fits.true
    ∙ sym (surely_enough (not c.args.begun) (strings_of c.args.pieces.now) c.args.ids.now c.args.room c.requires.pieces_fine (sym c.surely_fits.ensures ∙ c.if-surely_fits.true))
