-- The model check: answers 1 to 8, each test over the whole model.
use Rattle.std.specs.Prelude.{ℕ, ◌+◌, ◌-◌, Bool, not, cond, ◌&&◌, ◌||◌, List, [], ◌∷◌, ◌++◌, eqb, leb, ltb, length, get_or}
use Rattle.utf8.specs.Lists.{is_empty, all, any, last_or, neighbours, join_map, numbered, zip, same}
use Rattle.utf8.specs.Chars.{valid}
use Rattle.model.specs.declared.Span.{Span}
use Rattle.model.specs.declared.Step.{Step}
use Rattle.model.specs.declared.Answer.{Answer}
use Rattle.model.specs.Model.{Model, TokenList, piece, no_id, contents, step_string, spans_of, pieces_of, steps_of}
use Rattle.model.specs.ByteOrder.{is_before}
use Rattle.model.specs.Answers.{lowest, done, refused}

-- The strings of all steps.
unfoldable pub step_spans : List Step → List Span
step_spans steps = join_map spans_of steps

-- Answer 1: sizes, columns and the number of fallback ids (rules 2.3 and 3.2).

-- How far two offsets rise is the length of their string; where they fall it has none.
unfoldable pub pair_too_long : ℕ × ℕ → Bool
pair_too_long p = ltb 255 (p.1 - p.0)

unfoldable pub string_too_long : List ℕ → Bool
string_too_long offsets = any pair_too_long (neighbours offsets)

-- The same limit for a string of a step.
unfoldable pub span_too_long : Span → Bool
span_too_long span = ltb 255 span.len

-- The pieces: an offset row that is empty, too many of them, too many bytes, one that is too long.
unfoldable pub wrong_piece_sizes : List ℕ → List ℕ → Bool
wrong_piece_sizes bytes offsets =
    is_empty offsets || ltb 524288 (length offsets - 1) || ltb 8388608 (length bytes) || string_too_long offsets

-- The merge rows: too many, or columns that differ in length.
unfoldable pub wrong_row_sizes : List ℕ → List ℕ → List ℕ → List ℕ → Bool
wrong_row_sizes left right result rank =
    ltb 1048576 (length left) || not (all (eqb (length left)) (length right ∷ length result ∷ length rank ∷ []))

-- A list of tokens: an offset row that is empty, too many tokens, one that is too long, or columns that differ in length.
unfoldable pub wrong_token_sizes : List ℕ → List ℕ → List Bool → List Bool → Bool
wrong_token_sizes offsets ids lstrip rstrip =
    is_empty offsets
    || ltb 8192 (length offsets - 1)
    || string_too_long offsets
    || not (all (eqb (length offsets - 1)) (length ids ∷ length lstrip ∷ length rstrip ∷ []))

unfoldable pub wrong_list_sizes : TokenList → Bool
wrong_list_sizes t = wrong_token_sizes t.offsets t.ids t.lstrip t.rstrip

-- The steps: too many, or a string that is too long.
unfoldable pub wrong_step_sizes : List Step → ℕ → Bool
wrong_step_sizes steps step_count = ltb 16 step_count || any span_too_long (step_spans steps)

unfoldable pub wrong_sizes : Model → Bool
wrong_sizes m =
    wrong_piece_sizes m.piece_bytes m.piece_offsets
    || not (eqb (length m.fallback) 256)
    || wrong_row_sizes m.left m.right m.result m.rank
    || wrong_list_sizes m.first
    || wrong_list_sizes m.second
    || wrong_step_sizes (steps_of m) m.step_count

-- The size of a text or of a list of ids, which is part of 1 for the calls that have one.
unfoldable pub text_too_long : ℕ → Bool
text_too_long size = ltb 1048576 size

-- Answer 2: offsets, and the strings of steps (rules 2.2 and 2.8).

unfoldable pub pair_rises : ℕ × ℕ → Bool
pair_rises p = leb p.0 p.1

-- Offsets begin at 0, never fall, and end at the length of the bytes.
unfoldable pub run_in_order : List ℕ → List ℕ → Bool
run_in_order bytes offsets =
    eqb (get_or offsets 0 0) 0 && all pair_rises (neighbours offsets) && eqb (last_or 0 offsets) (length bytes)

unfoldable pub lies_outside : List ℕ → Span → Bool
lies_outside bytes span = ltb (length bytes) (span.place + span.len)

unfoldable pub offsets_astray : Model → Bool
offsets_astray m =
    not (run_in_order m.piece_bytes m.piece_offsets)
    || not (run_in_order m.first.bytes m.first.offsets)
    || not (run_in_order m.second.bytes m.second.offsets)
    || any (lies_outside m.step_bytes) (step_spans (steps_of m))

-- Answer 3: a piece is valid or one byte.
unfoldable pub neither_text_nor_byte : List ℕ → Bool
neither_text_nor_byte bytes = not (valid bytes) && not (eqb (length bytes) 1)

unfoldable pub bad_piece : List (List ℕ) → Bool
bad_piece pieces = any neither_text_nor_byte pieces

-- Answer 4: the lookup list (rule 2.4).

-- An entry that is no id, or the id of an empty piece.
unfoldable pub names_no_piece : List (List ℕ) → ℕ → Bool
names_no_piece pieces id = leb (length pieces) id || is_empty (piece pieces id)

-- Each entry's piece stands before the next one's, so no piece is listed twice.
unfoldable pub lookup_ascends : List (List ℕ) → List ℕ → Bool
lookup_ascends pieces lookup = all (λ (p : ℕ × ℕ). is_before (piece pieces p.0) (piece pieces p.1)) (neighbours lookup)

unfoldable pub is_listed : List (List ℕ) → List ℕ → List ℕ → Bool
is_listed pieces lookup bytes = any (λ (id : ℕ). same (piece pieces id) bytes) lookup

-- Some piece that is not empty is spelled by no entry.
unfoldable pub piece_missing : List (List ℕ) → List ℕ → Bool
piece_missing pieces lookup = any (λ (bytes : List ℕ). not (is_empty bytes) && not (is_listed pieces lookup bytes)) pieces

unfoldable pub bad_lookup : List (List ℕ) → List ℕ → Bool
bad_lookup pieces lookup = any (names_no_piece pieces) lookup || not (lookup_ascends pieces lookup) || piece_missing pieces lookup

-- Answer 5: a byte's entry is none, or the id of the piece that is this byte alone (rule 2.5).
unfoldable pub fallback_fits : List (List ℕ) → ℕ × ℕ → Bool
fallback_fits pieces entry = eqb entry.1 no_id || ltb entry.1 (length pieces) && same (piece pieces entry.1) (entry.0 ∷ [])

unfoldable pub bad_fallback : List (List ℕ) → List ℕ → Bool
bad_fallback pieces fallback = not (all (fallback_fits pieces) (numbered fallback))

-- Answer 6: the merge rows (rule 2.6).

-- The order of pairs: by left, then by right.
unfoldable pub pair_before : ℕ × ℕ → ℕ × ℕ → Bool
pair_before p q = ltb p.0 q.0 || eqb p.0 q.0 && ltb p.1 q.1

unfoldable pub rows_ascend : List ℕ → List ℕ → Bool
rows_ascend left right = all (λ (n : (ℕ × ℕ) × (ℕ × ℕ)). pair_before n.0 n.1) (neighbours (zip left right))

-- The ids of a column are below the piece count.
unfoldable pub all_below : ℕ → List ℕ → Bool
all_below piece_count ids = all (λ (id : ℕ). ltb id piece_count) ids

-- Each result is its two sides joined.
unfoldable pub rows_join : List (List ℕ) → List ℕ → List ℕ → List ℕ → Bool
rows_join pieces left right result =
    all (λ (row : (ℕ × ℕ) × ℕ). same (piece pieces row.1) (piece pieces row.0.0 ++ piece pieces row.0.1)) (zip (zip left right) result)

unfoldable pub bad_row : List (List ℕ) → List ℕ → List ℕ → List ℕ → Bool
bad_row pieces left right result =
    not (rows_ascend left right)
    || not (all_below (length pieces) left && all_below (length pieces) right && all_below (length pieces) result)
    || not (rows_join pieces left right result)

-- Answer 7: the contents of tokens (rule 2.7).
unfoldable pub empty_or_no_text : List ℕ → Bool
empty_or_no_text bytes = is_empty bytes || not (valid bytes)

unfoldable pub bad_token : List (List ℕ) → Bool
bad_token contents = any empty_or_no_text contents

-- Answer 8: the strings of steps.
unfoldable pub no_text : List ℕ → Span → Bool
no_text bytes span = not (valid (step_string bytes span))

unfoldable pub bad_step : List ℕ → List Step → Bool
bad_step bytes steps = any (no_text bytes) (step_spans steps)

-- The tests that all calls share (rule 3.2); size is that of the call's text or ids.
unfoldable pub model_tests : Model → ℕ → List (ℕ × Bool)
model_tests m size =
    (1, wrong_sizes m || text_too_long size)
    ∷ (2, offsets_astray m)
    ∷ (3, bad_piece (pieces_of m))
    ∷ (4, bad_lookup (pieces_of m) m.lookup)
    ∷ (5, bad_fallback (pieces_of m) m.fallback)
    ∷ (6, bad_row (pieces_of m) m.left m.right m.result)
    ∷ (7, bad_token (contents m.first) || bad_token (contents m.second))
    ∷ (8, bad_step m.step_bytes (steps_of m))
    ∷ []

unfoldable pub check_number : Model → ℕ
check_number m = lowest (model_tests m 0)

-- What `check` answers.
unfoldable pub check_outcome : Model → Answer
check_outcome m = cond (eqb (check_number m) 0) (done 0 0 0) (refused (check_number m) 0)
