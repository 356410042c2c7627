-- The model as flat tables, and what stands in them: pieces, the lookup of a piece, fallback ids, merge rows, tokens, steps.
-- A definition takes the tables that it needs and no more; those of a whole model are named at the end.
use Rattle.std.specs.Prelude.{ℕ, ◌+◌, Bool, false, cond, ◌&&◌, List, [], ◌∷◌, map, eqb, length, get_or, take, Option, None, Some}
use Rattle.std.proofs.Math.Seq.{slice}
use Rattle.utf8.specs.Lists.{find, same, between, below}
use Rattle.model.specs.declared.Strings.{Strings}
use Rattle.model.specs.declared.AddedTokens.{AddedTokens}
use Rattle.model.specs.declared.Model.{Model as Tables}
use Rattle.model.specs.declared.Span.{Span}
use Rattle.model.specs.declared.Step.{Step}
use Rattle.model.specs.declared.Step.TheVariants.{Prepend, Replace, CollapseSpaces, Strip}
use Rattle.model.specs.declared.Metaspace.{Metaspace}

-- Rule 2.2: string i of a table goes from offset i up to offset i + 1. Where the offsets fall nothing lies between them.
unfoldable pub strings : List ℕ → List ℕ → List (List ℕ)
strings bytes offsets = between offsets bytes

-- The strings of a lent table.
abbrev pub strings_of : Strings → List (List ℕ)
strings_of s = strings s.bytes.now s.offsets.now

-- The piece of an id; an id not below the piece count has none, which reads as the empty one.
unfoldable pub piece : List (List ℕ) → ℕ → List ℕ
piece pieces id = get_or pieces id []

-- The id that the lookup list gives a piece.
unfoldable pub lookup_id : List (List ℕ) → List ℕ → List ℕ → Option ℕ
lookup_id pieces lookup bytes = find (λ (id : ℕ). same (piece pieces id) bytes) lookup

-- How a byte without a fallback id is written (rule 2.5).
abbrev pub no_id : ℕ
no_id = 4294967295

-- The fallback id of a byte, where it has one.
unfoldable pub fallback_id : List ℕ → ℕ → Option ℕ
fallback_id fallback byte = let id = get_or fallback byte no_id in cond (eqb id no_id) None (Some id)

-- A merge row (rule 2.6).
pub record Row : Type 0 where
  pub left : ℕ
  pub right : ℕ
  pub result : ℕ
  pub rank : ℕ

-- The rows of four columns.
unfoldable pub rows_of : List ℕ → List ℕ → List ℕ → List ℕ → List Row
rows_of left right result rank =
    map (λ (i : ℕ). record { left = get_or left i 0; right = get_or right i 0; result = get_or result i 0; rank = get_or rank i 0 }) (below (length left))

-- The row of a pair of ids.
unfoldable pub row_of : List Row → ℕ → ℕ → Option Row
row_of rows l r = find (λ (row : Row). eqb row.left l && eqb row.right r) rows

-- The columns of one list of added tokens.
pub record TokenList : Type 0 where
  pub bytes : List ℕ
  pub offsets : List ℕ
  pub ids : List ℕ
  pub lstrip : List Bool
  pub rstrip : List Bool

abbrev pub token_list : List ℕ → List ℕ → List ℕ → List Bool → List Bool → TokenList
token_list bytes offsets ids lstrip rstrip = record { bytes = bytes; offsets = offsets; ids = ids; lstrip = lstrip; rstrip = rstrip }

-- Those of a lent list.
abbrev pub tokens_of : AddedTokens → TokenList
tokens_of t = token_list t.contents.bytes.now t.contents.offsets.now t.ids.now t.lstrip.now t.rstrip.now

-- What the tokens of a list are found by, in the order of its rows.
unfoldable pub contents : TokenList → List (List ℕ)
contents t = strings t.bytes t.offsets

-- An added token: a row of its list.
pub record Token : Type 0 where
  pub content : List ℕ
  pub id : ℕ
  pub lstrip : Bool
  pub rstrip : Bool

unfoldable pub token_at : TokenList → ℕ → Token
token_at t row =
    record { content = get_or (contents t) row []; id = get_or t.ids row 0; lstrip = get_or t.lstrip row false; rstrip = get_or t.rstrip row false }

-- Rule 2.8: a step's string, by its place and its length.
unfoldable pub step_string : List ℕ → Span → List ℕ
step_string bytes span = slice span.place (span.place + span.len) bytes

-- The strings that a step holds: Prepend and CollapseSpaces one, Replace two, Strip none.
unfoldable pub spans_of : Step → List Span
spans_of (Prepend span) = span ∷ []
spans_of (Replace pattern content) = pattern ∷ content ∷ []
spans_of (CollapseSpaces content) = content ∷ []
spans_of (Strip left right) = []

-- The columns of a model. Of the 16 steps the first step_count are the model's.
pub record Model : Type 0 where
  pub piece_bytes : List ℕ
  pub piece_offsets : List ℕ
  pub lookup : List ℕ
  pub fallback : List ℕ
  pub left : List ℕ
  pub right : List ℕ
  pub result : List ℕ
  pub rank : List ℕ
  pub first : TokenList
  pub second : TokenList
  pub step_bytes : List ℕ
  pub steps : List Step
  pub step_count : ℕ
  pub metaspace : Option Metaspace

-- The model of lent columns, in the order in which every call takes them.
abbrev pub model_of : List ℕ → List ℕ → List ℕ → List ℕ → List ℕ → List ℕ → List ℕ → List ℕ → TokenList → TokenList → List ℕ → List Step → ℕ → Option Metaspace → Model
model_of piece_bytes piece_offsets lookup fallback left right result rank first second step_bytes steps step_count metaspace =
    record {
      piece_bytes = piece_bytes;
      piece_offsets = piece_offsets;
      lookup = lookup;
      fallback = fallback;
      left = left;
      right = right;
      result = result;
      rank = rank;
      first = first;
      second = second;
      step_bytes = step_bytes;
      steps = steps;
      step_count = step_count;
      metaspace = metaspace;
    }

-- The model of tables that are lent as one value.
abbrev pub columns : Tables → Model
columns m =
    model_of m.pieces.bytes.now m.pieces.offsets.now m.lookup.now m.fallback.now m.rows.left.now m.rows.right.now m.rows.result.now m.rows.rank.now
    (tokens_of m.first) (tokens_of m.second)
    m.steps.bytes.now m.steps.list m.steps.count m.metaspace

unfoldable pub pieces_of : Model → List (List ℕ)
pieces_of m = strings m.piece_bytes m.piece_offsets

unfoldable pub merge_rows : Model → List Row
merge_rows m = rows_of m.left m.right m.result m.rank

unfoldable pub steps_of : Model → List Step
steps_of m = take m.step_count m.steps
