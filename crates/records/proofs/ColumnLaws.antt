-- Laws of the columns that a list of records stands for, and of the records of a list of columns.
use Prim.Native.Nat.{ℕ, ◌+◌}
use mathlib.Core.Path.{◌≡◌, refl, sym, ap, ◌∙◌}
use mathlib.Core.Bool.{Bool}
use mathlib.Core.List.{List, [], ◌∷◌, ◌++◌, map, append_assoc}
use lib.ListN.{length, get_or, take, drop, length-append, get_or-map}
use lib.Seq.{slice, take_at, drop_at}
use Rattle.utf8.specs.Lists.{join, neighbours_from}
use Rattle.model.specs.Model.{TokenList, Token, token_at, contents, strings, step_string}
use Rattle.sections.specs.declared.Match.{Match}
use Rattle.sections.specs.Matches.{end}
use Rattle.sections.specs.Sections.{stop_before, start_after}
use Rattle.sections.specs.inner.Strips.{stop_at, start_at}
use Rattle.records.specs.Records.{no_token, content_of, token_of, ends_from, columns_of, standing}
use Rattle.records.specs.inner.Rows.{standing_of}
use Rattle.records.specs.declared.AddedToken.{AddedToken}

abbrev pub token : List ℕ → ℕ → Bool → Bool → Token
token content id lstrip rstrip = record { content = content; id = id; lstrip = lstrip; rstrip = rstrip }

-- Tokens with equal fields are equal.
pub same-token : {c d : List ℕ} {i j : ℕ} {l m r s : Bool} → c ≡ d → i ≡ j → l ≡ m → r ≡ s → token c i l r ≡ token d j m s
same-token {c} {d} {i} {j} {l} {m} {r} {s} p q e f =
    ap (λ (x : List ℕ). token x i l r) p ∙ ap (λ (x : ℕ). token d x l r) q ∙ ap (λ (x : Bool). token d j x r) e ∙ ap (λ (x : Bool). token d j m x) f

-- ---- the columns of records

-- Strings that lie end to end behind the first p bytes are the parts between where they end.
laid : (front : List ℕ) (parts : List (List ℕ)) (p : ℕ) (whole : List ℕ) → length front ≡ p → whole ≡ front ++ join parts
    → map (λ (q : ℕ × ℕ). slice q.0 q.1 whole) (neighbours_from p (ends_from p parts)) ≡ parts
laid front [] p whole l w = refl
laid front (s ∷ parts) p whole l w =
    let q : length (front ++ s) ≡ p + length s = length-append front s ∙ ap (λ (n : ℕ). n + length s) l in
    let v : whole ≡ (front ++ s) ++ join parts = w ∙ sym (append_assoc front s (join parts)) in
    let first : slice p (p + length s) whole ≡ s = ap (λ (t : List ℕ). drop p (take (p + length s) t)) v ∙ ap (drop p) (take_at (front ++ s) (join parts) (p + length s) q) ∙ drop_at front s p l in
    ap (λ (t : List ℕ). t ∷ map (λ (q : ℕ × ℕ). slice q.0 q.1 whole) (neighbours_from (p + length s) (ends_from (p + length s) parts))) first
    ∙ ap (λ (ts : List (List ℕ)). s ∷ ts) (laid (front ++ s) parts (p + length s) whole q v)

-- The contents of the columns are those of the records.
pub columns_contents : (bytes : List ℕ) (tokens : List AddedToken) → contents (columns_of bytes tokens) ≡ map (content_of bytes) tokens
unfolding contents strings columns_of
columns_contents bytes tokens = laid [] (map (content_of bytes) tokens) 0 (join (map (content_of bytes) tokens)) refl refl

pub content-at : (bytes : List ℕ) (tokens : List AddedToken) (row : ℕ) → get_or (map (content_of bytes) tokens) row [] ≡ content_of bytes (get_or tokens row no_token)
unfolding content_of step_string
content-at bytes tokens row = get_or-map (content_of bytes) tokens row no_token

-- The token of a row is that of its record.
pub columns_token : (bytes : List ℕ) (tokens : List AddedToken) (row : ℕ) → token_at (columns_of bytes tokens) row ≡ token_of bytes (get_or tokens row no_token)
unfolding token_at token_of columns_of
columns_token bytes tokens row =
    same-token
    (ap (λ (cs : List (List ℕ)). get_or cs row []) (columns_contents bytes tokens) ∙ content-at bytes tokens row)
    (get_or-map (λ (t : AddedToken). t.id) tokens row no_token)
    (get_or-map (λ (t : AddedToken). t.lstrip) tokens row no_token)
    (get_or-map (λ (t : AddedToken). t.rstrip) tokens row no_token)

-- What a token does at a place is a matter of its row alone.
pub standing_by : (t : TokenList) (text : List ℕ) (start : ℕ) (match : Match) → standing t text start match ≡ standing_of (token_at t match.row) text start match.place
unfolding standing standing_of stop_before stop_at start_after start_at end token_at
standing_by t text start match = refl

pub standing-is : (bytes : List ℕ) (tokens : List AddedToken) (text : List ℕ) (start place row : ℕ)
    → standing (columns_of bytes tokens) text start (record { place = place; row = row }) ≡ standing_of (token_of bytes (get_or tokens row no_token)) text start place
standing-is bytes tokens text start place row =
    standing_by (columns_of bytes tokens) text start (record { place = place; row = row }) ∙ ap (λ (token : Token). standing_of token text start place) (columns_token bytes tokens row)
