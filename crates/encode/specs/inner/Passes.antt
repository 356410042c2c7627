-- The two passes over the parts of a text: one counts starting ids and drops, the other writes.
use Rattle.std.specs.Prelude.{◌≡◌, ℕ, ◌+◌, ◌-◌, Bool, true, false, cond, List, [], ◌++◌, ltb, length, take, Option, None, Some}
use Rattle.utf8.specs.Lists.{join_map, last_or}
use Rattle.model.specs.Model.{TokenList, tokens_of}
use Rattle.model.specs.Answers.{zeros, done, refused, Outcome}
use Rattle.model.specs.declared.Metaspace.{Metaspace}
use Rattle.model.specs.declared.Model.{Model}
use Rattle.model.specs.declared.Step.{Step}
use Rattle.normalise.specs.Steps.{outputs_of}
use Rattle.normalise.specs.Spaces.{metaspace_output, metaspaced}
use Rattle.normalise.specs.Normalise.{outgrows}
use Rattle.merge.specs.inner.Turns.{Merged}
use Rattle.merge.specs.declared.Symbols.{Symbols}
use Rattle.sections.specs.Sections.{Item, token, plain, taken_apart, Section, bytes_of, sections}
use Rattle.sections.specs.SecondList.{NormalPart, normal_parts}
use Rattle.stretches.specs.Stretches.{Stretch, stretch}
use Rattle.stretches.specs.inner.Tables.{Tables, own_in}
use Rattle.stretches.specs.inner.Parts.{parts_symbols, parts_writer}

-- What the first pass finds of parts, by the tables.
abbrev pub symbols_in : Tables → List (Item Stretch) → ℕ → Symbols
symbols_in t parts room = parts_symbols (own_in t) t.fallback parts room

-- What encoding these parts leaves: 12 where starting ids and tokens outnumber the cells, and else what the second pass wrote, then zeros.
unfoldable pub parts_outcome : Tables → List (Item Stretch) → List ℕ → Outcome
parts_outcome t parts out =
    let counted = symbols_in t parts (length out + 1) in
    let written = parts_writer t parts out in
    cond (ltb (length out) counted.count) (record { answer = refused 12 0; out = out })
    (record { answer = done written.count counted.drops 0; out = take written.count written.ids ++ zeros (length out - written.count) })

-- What a pass that normalizes finds: nothing, where an output is too long.
abbrev pub counted : Bool → Symbols → Option Symbols
counted true symbols = None
counted false symbols = Some symbols

-- The same for what it writes.
abbrev pub unless_long : Bool → Merged → List ℕ → Merged
unless_long true written out = record { count = 0; ids = out }
unless_long false written out = written

-- What items put out on their way, where a token puts out nothing.
abbrev pub item_outputs : {A : Type 0} → (A → List (List ℕ)) → Item A → List (List ℕ)
item_outputs outputs (token id) = []
item_outputs outputs (plain a) = outputs a

-- What a part of a normalized section comes to, and what metaspace puts out on its way.
unfoldable pub part_stretch : Option Metaspace → NormalPart → List (Item Stretch)
part_stretch metaspace part = stretch (metaspaced metaspace part.first part.bytes) false false

abbrev pub part_outputs : Option Metaspace → NormalPart → List (List ℕ)
part_outputs metaspace part = metaspace_output metaspace part.first part.bytes

-- What steps leave of a section, where none of their outputs is too long.
pub record Stepped (bytes : List ℕ) (steps : List Step) (section : List ℕ) (room : ℕ) (left : List ℕ) : Type 0 where
  pub short : outgrows (outputs_of bytes steps section) room ≡ false
  pub is : left ≡ last_or section (outputs_of bytes steps section)

-- What metaspace leaves of a part, where its output is not too long.
pub record Leaves (metaspace : Option Metaspace) (first : Bool) (bytes : List ℕ) (room : ℕ) (left : List ℕ) : Type 0 where
  pub short : outgrows (metaspace_output metaspace first bytes) room ≡ false
  pub is : left ≡ metaspaced metaspace first bytes

-- What normalizing a section takes.
pub record Normal : Type 0 where
  pub second : TokenList
  pub step_bytes : List ℕ
  pub steps : List Step
  pub metaspace : Option Metaspace

-- Of a lent model.
abbrev pub normal_in : Model → Normal
normal_in m =
    record { second = tokens_of m.second; step_bytes = m.steps.bytes.now; steps = take m.steps.count m.steps.list; metaspace = m.metaspace }

-- What a section comes to that the steps left, and what metaspace puts out on its way.
abbrev pub stretches_after : Normal → Bool → List ℕ → List (Item Stretch)
stretches_after n opening stepped = taken_apart (part_stretch n.metaspace) (normal_parts n.second opening stepped)

abbrev pub outputs_after : Normal → Bool → List ℕ → List (List ℕ)
outputs_after n opening stepped = join_map (item_outputs (part_outputs n.metaspace)) (normal_parts n.second opening stepped)

-- A section's parts.
unfoldable pub parts_in : Normal → Bool → List ℕ → List (Item NormalPart)
parts_in n opening section = normal_parts n.second opening (last_or section (outputs_of n.step_bytes n.steps section))

-- What a section comes to, and what steps and metaspace put out on its way.
unfoldable pub stretches_in : Normal → Bool → List ℕ → List (Item Stretch)
stretches_in n opening section = taken_apart (part_stretch n.metaspace) (parts_in n opening section)

unfoldable pub outputs_in : Normal → Bool → List ℕ → List (List ℕ)
outputs_in n opening section =
    outputs_of n.step_bytes n.steps section ++ join_map (item_outputs (part_outputs n.metaspace)) (parts_in n opening section)

-- The same for a section of a text, by what any section comes to and puts out.
abbrev pub section_stretches : (Bool → List ℕ → List (Item Stretch)) → List ℕ → Section → List (Item Stretch)
section_stretches stretches text section = stretches section.opening (bytes_of text section)

abbrev pub section_outputs : (Bool → List ℕ → List (List ℕ)) → List ℕ → Section → List (List ℕ)
section_outputs outputs text section = outputs section.opening (bytes_of text section)

-- The same for the text.
abbrev pub text_stretches : (Bool → List ℕ → List (Item Stretch)) → TokenList → List ℕ → List (Item Stretch)
text_stretches stretches first text = taken_apart (section_stretches stretches text) (sections first text)

abbrev pub text_outputs : (Bool → List ℕ → List (List ℕ)) → TokenList → List ℕ → List (List ℕ)
text_outputs outputs first text = join_map (item_outputs (section_outputs outputs text)) (sections first text)

-- What encoding a text leaves: 11 where an output is too long, and else what encoding its parts leaves.
unfoldable pub text_outcome : Tables → (Bool → List ℕ → List (List ℕ)) → (Bool → List ℕ → List (Item Stretch)) → TokenList → List ℕ → ℕ → List ℕ → Outcome
text_outcome t outputs stretches first text room out =
    cond (outgrows (text_outputs outputs first text) room) (record { answer = refused 11 0; out = out })
    (parts_outcome t (text_stretches stretches first text) out)
