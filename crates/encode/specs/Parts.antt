-- What a text is encoded as: tokens, and stretches of bytes that are cut into units.
use Rattle.std.specs.Prelude.{ℕ, Bool, true, false, not, ◌&&◌, List, Option, None, Some}
use Rattle.model.specs.Model.{Model}
use Rattle.model.specs.Mark.{starts_with_mark}
use Rattle.normalise.specs.Steps.{stepped}
use Rattle.normalise.specs.Spaces.{metaspaced}
use Rattle.units.specs.Kinds.{raw_path}
use Rattle.units.specs.declared.RawPrepend.{RawPrepend}
use Rattle.units.specs.declared.RawPrepend.TheVariants.{Never, Unguarded, GuardedAlways, GuardedFirst}
use Rattle.sections.specs.Sections.{Item, taken_apart, Section, bytes_of, sections}
use Rattle.sections.specs.SecondList.{NormalPart, normal_parts}
use Rattle.stretches.specs.Stretches.{Stretch, stretch}

-- Rule 7.6: the path puts a virtual mark in front of the section; opening says that no token was taken before it.
unfoldable pub prepends_mark : RawPrepend → Bool → List ℕ → Bool
prepends_mark Never opening bytes = false
prepends_mark Unguarded opening bytes = true
prepends_mark GuardedAlways opening bytes = not (starts_with_mark true bytes)
prepends_mark GuardedFirst opening bytes = opening && not (starts_with_mark true bytes)

-- The same for a text that may be a continuation: its opening section gets none.
unfoldable pub virtual_mark : RawPrepend → Bool → Bool → List ℕ → Bool
virtual_mark prepend continuation opening bytes = not (continuation && opening) && prepends_mark prepend opening bytes

-- A section on the raw path.
unfoldable pub raw_stretch : RawPrepend → Bool → List ℕ → Section → List (Item Stretch)
raw_stretch prepend continuation text section =
    let bytes = bytes_of text section in stretch bytes (virtual_mark prepend continuation section.opening bytes) true

-- A part, after metaspace.
unfoldable pub normal_stretch : Model → NormalPart → List (Item Stretch)
normal_stretch m part = stretch (metaspaced m.metaspace part.first part.bytes) false false

-- Rule 7.7: a section after its steps, taken apart by the second list.
unfoldable pub normal_parts_of : Model → List ℕ → Section → List (Item NormalPart)
normal_parts_of m text section = normal_parts m.second section.opening (stepped m (bytes_of text section))

unfoldable pub stretches_of : Model → Option RawPrepend → Bool → List ℕ → Section → List (Item Stretch)
stretches_of m (Some prepend) continuation text section = raw_stretch prepend continuation text section
stretches_of m None continuation text section = taken_apart (normal_stretch m) (normal_parts_of m text section)

-- The tokens and stretches of a text, in their order.
unfoldable pub parts : Model → Bool → List ℕ → List (Item Stretch)
parts m continuation text = taken_apart (stretches_of m (raw_path m) continuation text) (sections m.first text)
