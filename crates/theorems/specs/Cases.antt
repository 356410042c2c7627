-- Cases: a model, a call on it with what it is lent, and what the call must leave. Whether the definitions agree is computed.
use Rattle.std.specs.Prelude.{ℕ, Bool, ◌&&◌, List, [], eqb}
use Rattle.utf8.specs.Chars
use Rattle.utf8.specs.WhiteSpace
use Rattle.model.specs.Model
use Rattle.model.specs.Mark
use Rattle.model.specs.Answers
use Rattle.model.specs.ByteOrder
use Rattle.model.specs.Check
use Rattle.normalise.specs.Steps
use Rattle.normalise.specs.Spaces
use Rattle.normalise.specs.Normalise
use Rattle.units.specs.Kinds
use Rattle.units.specs.Units
use Rattle.units.specs.Adjacency
use Rattle.units.specs.Derived
use Rattle.index.specs.Index
use Rattle.merge.specs.Start
use Rattle.merge.specs.Merge
use Rattle.sections.specs.Matches
use Rattle.sections.specs.Sections
use Rattle.sections.specs.SecondList
use Rattle.sections.specs.Beginnings
use Rattle.prepare.specs.Numbers
use Rattle.prepare.specs.Layout
use Rattle.prepare.specs.Prepare
use Rattle.stretches.specs.Stretches
use Rattle.encode.specs.Parts
use Rattle.encode.specs.Encode
use Rattle.fragments.specs.Safe
use Rattle.fragments.specs.Fragments
use Rattle.decode.specs.Decode
use Rattle.utf8.specs.Lists.{same}
use Rattle.model.specs.Model.{Model}
use Rattle.model.specs.Answers.{Outcome, ScratchOutcome}
use Rattle.model.specs.Check.{check_outcome}
use Rattle.model.specs.declared.Answer.{Answer}
use Rattle.normalise.specs.Normalise.{normalise_outcome}
use Rattle.prepare.specs.Prepare.{PrepareOutcome, prepare_outcome}
use Rattle.encode.specs.Encode.{encode_outcome}
use Rattle.fragments.specs.Fragments.{fragments_outcome}
use Rattle.decode.specs.Decode.{decode_outcome}

-- A public call and its own input.
pub data Call : Type 0 where
  check : Call
  normalise : List ℕ → Bool → Call
  encode : List ℕ → Bool → Call
  fragments : List ℕ → ℕ → Call
  decode : List ℕ → Call
  prepare : Call

-- The cells that a call is lent; a call that takes no such buffer has it empty. Prepare is lent the index as out, and the adjacency rows as
-- scratch_a.
pub record Lent : Type 0 where
  pub out : List ℕ
  pub scratch_a : List ℕ
  pub scratch_b : List ℕ

pub record Case : Type 0 where
  pub model : Model
  pub call : Call
  pub before : Lent
  pub answer : Answer
  pub after : Lent

-- What the definitions say that a call leaves.
pub record Left : Type 0 where
  pub answer : Answer
  pub after : Lent

unfoldable pub without_scratch : Outcome → Left
without_scratch o = record { answer = o.answer; after = record { out = o.out; scratch_a = []; scratch_b = [] } }

unfoldable pub with_both : ScratchOutcome → Left
with_both o = record { answer = o.answer; after = record { out = o.out; scratch_a = o.scratch_a; scratch_b = o.scratch_b } }

unfoldable pub with_rows : PrepareOutcome → Left
with_rows o = record { answer = o.answer; after = record { out = o.index; scratch_a = o.adjacency; scratch_b = [] } }

unfoldable pub left : Model → Call → Lent → Left
left m check lent = record { answer = check_outcome m; after = lent }
left m (normalise text first) lent = with_both (normalise_outcome m text first lent.out lent.scratch_a lent.scratch_b)
left m (encode text continuation) lent = with_both (encode_outcome m text continuation lent.out lent.scratch_a lent.scratch_b)
left m (fragments text target) lent = without_scratch (fragments_outcome m text target lent.out)
left m (decode ids) lent = without_scratch (decode_outcome m ids lent.out)
left m prepare lent = with_rows (prepare_outcome m lent.scratch_a lent.out)

unfoldable pub same_answer : Answer → Answer → Bool
same_answer a b =
    eqb a.number b.number
    && eqb a.place b.place
    && eqb a.written b.written
    && eqb a.drops b.drops
    && eqb a.skips b.skips

unfoldable pub same_lent : Lent → Lent → Bool
same_lent a b = same a.out b.out && same a.scratch_a b.scratch_a && same a.scratch_b b.scratch_b

unfoldable pub agrees : Case → Bool
unfolding Chars.char_forms Chars.char_width Chars.chars Chars.is_char Chars.valid Chars.longest_valid_prefix Chars.code_point
    WhiteSpace.white_space WhiteSpace.is_white_space WhiteSpace.is_white WhiteSpace.trim_start WhiteSpace.trim_end
    Model.strings Model.piece Model.lookup_id Model.fallback_id Model.rows_of Model.row_of Model.contents Model.token_at Model.step_string Model.spans_of Model.pieces_of Model.merge_rows Model.steps_of
    Mark.mark Mark.space Mark.mark_width Mark.starts_with_mark Mark.ends_with_mark
    Answers.place_of Answers.filled Answers.scratch_after Answers.outcome Answers.with_scratch
    ByteOrder.is_before
    Check.step_spans Check.pair_too_long Check.string_too_long Check.span_too_long Check.wrong_piece_sizes Check.wrong_row_sizes Check.wrong_token_sizes Check.wrong_list_sizes Check.wrong_step_sizes Check.wrong_sizes Check.text_too_long Check.pair_rises Check.run_in_order Check.lies_outside Check.offsets_astray Check.neither_text_nor_byte Check.bad_piece Check.names_no_piece Check.lookup_ascends Check.is_listed Check.piece_missing Check.bad_lookup Check.fallback_fits Check.bad_fallback Check.pair_before Check.rows_ascend Check.all_below Check.rows_join Check.bad_row Check.empty_or_no_text Check.bad_token Check.no_text Check.bad_step Check.model_tests Check.check_number Check.check_outcome
    Steps.prepended Steps.occurrences Steps.replaced Steps.space_run Steps.collapsed Steps.stripped Steps.applied Steps.step_outputs Steps.stepped
    Spaces.spaces_marked Spaces.scheme_prepends Spaces.mark_prepended Spaces.metaspace_output Spaces.metaspaced
    Normalise.normalised Normalise.outgrows Normalise.normalise_outputs Normalise.normalise_number Normalise.normalise_outcome
    Kinds.crosses_at Kinds.crossing_at Kinds.crossings_of Kinds.crossings Kinds.holds_mark Kinds.is_tangled Kinds.splits Kinds.word_split Kinds.kind_of Kinds.is_prepend_mark Kinds.is_space_replace Kinds.is_present Kinds.prepend_of Kinds.prepend_by Kinds.raw_path_of Kinds.is_none Kinds.raw_path Kinds.has_raw_path
    Units.spanned Units.mark_cuts Units.punctuation Units.holds_pair Units.byte_before Units.punctuation_cuts Units.begins_unit Units.cut Units.units
    Adjacency.bits Adjacency.adjacency_word Adjacency.adjacency
    Derived.places_within Derived.places_in Derived.crossing_places Derived.noted_of Derived.place_words Derived.noted_words Derived.noting
    Index.first_byte_start Index.first_bytes Index.key_id Index.mark_id Index.byte_id Index.byte_ids Index.piece_index Index.bucket_shift Index.bucket_start Index.buckets Index.pair_slot Index.second_slot Index.slot_rows Index.slot_word Index.table_words Index.pair_words Index.unnamed Index.second_words Index.pair_tables Index.row_index
    Start.vocabulary_of Start.own_id Start.fallback_ids Start.lacks_byte Start.starting_ids_by Start.starting_ids Start.is_dropped_by Start.is_dropped Start.as_mark Start.unit_chars Start.with_virtual_mark
    Merge.candidates Merge.next_merge Merge.merged_at Merge.merged
    Matches.end Matches.longest_at Matches.matches
    Sections.stop_before Sections.white_length Sections.start_after Sections.bytes_of Sections.section_of Sections.is_swallowed Sections.sections
    SecondList.normal_part_of SecondList.normal_parts
    Beginnings.beginnings Beginnings.longest_content
    Numbers.kind_number Numbers.raw_path_number
    Layout.piece_words Layout.token_words Layout.index_row
    Prepare.derived_adjacency Prepare.derived_index Prepare.prepare_number Prepare.prepare_outcome
    Stretches.stretch Stretches.stretch_units Stretches.unit_ids Stretches.ids_of Stretches.drops_of Stretches.starts_of
    Parts.prepends_mark Parts.virtual_mark Parts.raw_stretch Parts.normal_stretch Parts.normal_parts_of Parts.stretches_of Parts.parts
    Encode.encoded_ids Encode.drops Encode.starting_count Encode.metaspace_output_of Encode.section_outputs Encode.encode_outputs Encode.encode_number Encode.encode_outcome
    Safe.is_unguarded Safe.makes_blocks Safe.block_start Safe.block_end Safe.block Safe.blocked_by Safe.is_blocked Safe.is_safe
    Fragments.cuts Fragments.ranges Fragments.range_numbers Fragments.fragments_number Fragments.fragments_outcome
    Decode.has_piece Decode.joined_bytes Decode.skips Decode.replacement Decode.strays_replaced Decode.marks_spaced Decode.scheme_prepends Decode.is_prepend Decode.prepends_space Decode.leading_space_gone Decode.decoded_bytes Decode.decode_number Decode.decode_outcome
    without_scratch with_both with_rows left same_answer same_lent
agrees c =
    let l = left c.model c.call c.before in
    same_answer l.answer c.answer && same_lent l.after c.after
