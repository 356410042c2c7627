-- What is read from the index of a model.
use Rattle.std.specs.Prelude.{Option, None, Some}
use mathlib.Core.Path.{◌≡◌, refl, sym, ap, ◌∙◌}
use mathlib.Core.List.{List, ◌∷◌, ◌++◌, [], append_assoc, append-nil}
use Prim.Native.Nat.{ℕ, ◌+◌, ◌≤◌, ◌<◌}
use native.Mathlib.Omega.{arith}
use lib.ListN.{length, get_or, drop, length-append, get_or-append}
use lib.Seq.{slice, take-append-le, take-append-add, take-append_seam, drop-append_seam, get_or_at}
use Rattle.model.specs.Model.{Model, contents, pieces_of}
use Rattle.index.specs.Index.{mark_id, piece_index, bucket_shift, row_index}
use Rattle.sections.specs.Beginnings.{beginnings, longest_content}
use Rattle.sections.proofs.SeekLaws.{length-beginnings}
use Rattle.units.specs.Kinds.{kind_of, raw_path}
use Rattle.units.specs.Derived.{noting}
use Rattle.units.specs.declared.WordSplit.{WordSplit}
use Rattle.units.specs.declared.WordSplit.TheVariants as kind
use Rattle.units.specs.declared.RawPrepend.{RawPrepend}
use Rattle.units.specs.declared.RawPrepend.TheVariants as prepend
use Rattle.prepare.specs.Layout.{kind_at, raw_path_at, crossing_count_at, crossings_at, mark_id_at, shift_at, first_bytes_at, buckets_at, first_tokens_at, second_tokens_at, longest_content_at, index_length, piece_words, token_words, index_row}
use Rattle.prepare.specs.Numbers.{kind_number, raw_path_number}
use Rattle.prepare.specs.inner.Read.{kind_from, raw_path_from}
use Rattle.prepare.specs.Prepare.{derived_index}
use Rattle.prepare.proofs.LayoutLaws.{length-piece_index, length-row_index, length-piece_words, length-index}
use Rattle.prepare.proofs.PrepareLaws.{noted-long}

-- A number gives back what it stands for.
pub kind-back : (kind : WordSplit) → kind_from (kind_number kind) ≡ kind
unfolding kind_from kind_number
kind-back kind.SpaceRuns = refl
kind-back kind.EveryMark = refl
kind-back kind.None = refl

pub raw_path_back : (path : Option RawPrepend) → raw_path_from (raw_path_number path) ≡ path
unfolding raw_path_from raw_path_number
raw_path_back None = refl
raw_path_back (Some prepend.Never) = refl
raw_path_back (Some prepend.Unguarded) = refl
raw_path_back (Some prepend.GuardedAlways) = refl
raw_path_back (Some prepend.GuardedFirst) = refl

-- A part of a list that has a front before it and a rest behind it.
part-between : (front part rest : List ℕ) (from to : ℕ) → length front ≡ from → from + length part ≡ to → slice from to (front ++ (part ++ rest)) ≡ part
part-between front part rest from to e f =
    rw (← f, ← e, take-append-add, take-append_seam) (drop-append_seam front part)

-- What is read of the front of a list, whatever stands behind it.
front-part : (front rest : List ℕ) (from to : ℕ) → to ≤ length front → slice from to (front ++ rest) ≡ slice from to front
front-part front rest from to h = ap (drop from) (take-append-le to front rest h)

module _ (kind raw count : ℕ) (noted : List ℕ) (pieces : List (List ℕ)) (lookup left right rank : List ℕ) (all_Noted : length noted ≡ 64) where
  abbrev row : List ℕ
  row = piece_words kind raw count noted pieces lookup left right rank

  abbrev shift : ℕ
  shift = bucket_shift (length pieces)

  abbrev heads : List ℕ
  heads = kind ∷ raw ∷ count ∷ []

  abbrev starts : List ℕ
  starts = piece_index pieces lookup ++ row_index left right rank shift

  pub noted_read : slice crossings_at mark_id_at row ≡ noted
  unfolding piece_words
  noted_read = part-between heads noted (mark_id pieces lookup ∷ shift ∷ starts) 3 67 refl (omega arith)

  before-mark : length (heads ++ noted) ≡ 67
  before-mark = omega (arith, length-append heads noted)

  pub mark-read : get_or row mark_id_at 0 ≡ mark_id pieces lookup
  unfolding piece_words
  mark-read = get_or_at (heads ++ noted) (mark_id pieces lookup) (shift ∷ starts) 0 67 before-mark

  abbrev before_starts : List ℕ
  before_starts = (heads ++ noted) ++ (mark_id pieces lookup ∷ shift ∷ [])

  row_is : row ≡ before_starts ++ starts
  unfolding piece_words
  row_is = sym (append_assoc (heads ++ noted) (mark_id pieces lookup ∷ shift ∷ []) starts)

  long : length before_starts ≡ 69
  long = omega (arith, length-append (heads ++ noted) (mark_id pieces lookup ∷ shift ∷ []), before-mark)

  pub shift_read : get_or row shift_at 0 ≡ shift
  unfolding piece_words
  shift_read =
      ap (λ (l : List ℕ). get_or l 68 0) (sym (append_assoc (heads ++ noted) (mark_id pieces lookup ∷ []) (shift ∷ starts)))
      ∙ get_or_at ((heads ++ noted) ++ (mark_id pieces lookup ∷ [])) shift starts 0 68 (omega (arith, length-append (heads ++ noted) (mark_id pieces lookup ∷ []), before-mark))

  pub piece-index-read : slice first_bytes_at buckets_at row ≡ piece_index pieces lookup
  piece-index-read =
      ap (slice 69 582) row_is
      ∙ part-between before_starts (piece_index pieces lookup) (row_index left right rank shift) 69 582 long (omega (arith, length-piece_index pieces lookup))

  pub row-index-read : slice buckets_at first_tokens_at row ≡ row_index left right rank shift
  row-index-read =
      ap (slice 582 168519) (row_is ∙ sym (append_assoc before_starts (piece_index pieces lookup) (row_index left right rank shift)) ∙ ap (λ (l : List ℕ). (before_starts ++ piece_index pieces lookup) ++ l) (sym (append-nil (row_index left right rank shift))))
      ∙ part-between (before_starts ++ piece_index pieces lookup) (row_index left right rank shift) [] 582 168519 (omega (arith, length-append before_starts (piece_index pieces lookup), long, length-piece_index pieces lookup)) (omega (arith, length-row_index left right rank shift))

-- The words of the token lists stand behind those of the pieces.
module _ (front : List ℕ) (first second : List (List ℕ)) (front_long : length front ≡ 168519) where
  abbrev firsts : List ℕ
  firsts = beginnings first 256

  abbrev seconds : List ℕ
  seconds = beginnings second 256

  pub first-tokens-read : slice first_tokens_at second_tokens_at (front ++ token_words first second) ≡ firsts
  unfolding token_words
  first-tokens-read = part-between front firsts (seconds ++ (longest_content first ∷ [])) 168519 168775 front_long (omega (arith, length-beginnings first 256))

  to_second : length (front ++ firsts) ≡ 168775
  to_second = omega (arith, length-append front firsts, length-beginnings first 256)

  pub second-tokens-read : slice second_tokens_at longest_content_at (front ++ token_words first second) ≡ seconds
  unfolding token_words
  second-tokens-read =
      ap (slice 168775 169031) (sym (append_assoc front firsts (seconds ++ (longest_content first ∷ []))))
      ∙ part-between (front ++ firsts) seconds (longest_content first ∷ []) 168775 169031 to_second (omega (arith, length-beginnings second 256))

  pub longest-read : get_or (front ++ token_words first second) longest_content_at 0 ≡ longest_content first
  unfolding token_words
  longest-read =
      ap (λ (l : List ℕ). get_or l 169031 0) (sym (append_assoc front firsts (seconds ++ (longest_content first ∷ []))) ∙ sym (append_assoc (front ++ firsts) seconds (longest_content first ∷ [])))
      ∙ get_or_at ((front ++ firsts) ++ seconds) (longest_content first) [] 0 169031 (omega (arith, length-append (front ++ firsts) seconds, to_second, length-beginnings second 256))

-- The kind and the raw path of a model, from the index's first words.
module _ (m : Model) where
  pub kind-read : kind_from (get_or (derived_index m) kind_at 0) ≡ kind_of m
  unfolding derived_index index_row piece_words
  kind-read = kind-back (kind_of m)

  pub raw_path_read : raw_path_from (get_or (derived_index m) raw_path_at 0) ≡ raw_path m
  unfolding derived_index index_row piece_words
  raw_path_read = raw_path_back (raw_path m)

  pub count-read : get_or (derived_index m) crossing_count_at 0 ≡ (noting (pieces_of m) (kind_of m)).count
  unfolding derived_index index_row piece_words
  count-read = refl

  all_64 : length (noting (pieces_of m) (kind_of m)).noted ≡ 64
  unfolding kind_of
  all_64 = noted-long (pieces_of m) m.metaspace

  -- Its words of the pieces, and behind them those of the tokens.
  abbrev front : List ℕ
  front = piece_words (kind_number (kind_of m)) (raw_path_number (raw_path m)) (noting (pieces_of m) (kind_of m)).count (noting (pieces_of m) (kind_of m)).noted (pieces_of m) m.lookup m.left m.right m.rank

  abbrev tokens : List ℕ
  tokens = token_words (contents m.first) (contents m.second)

  index_is : derived_index m ≡ front ++ tokens
  unfolding derived_index index_row
  index_is = refl

  front_long : length front ≡ 168519
  front_long = length-piece_words (kind_number (kind_of m)) (raw_path_number (raw_path m)) (noting (pieces_of m) (kind_of m)).count (noting (pieces_of m) (kind_of m)).noted (pieces_of m) m.lookup m.left m.right m.rank all_64

  part_of_front : (from to : ℕ) → to ≤ 168519 → slice from to (derived_index m) ≡ slice from to front
  part_of_front from to h = ap (slice from to) index_is ∙ front-part front tokens from to (omega (arith, front_long))

  word_of_front : (at : ℕ) → at < 168519 → get_or (derived_index m) at 0 ≡ get_or front at 0
  word_of_front at h = ap (λ (l : List ℕ). get_or l at 0) index_is ∙ get_or-append front tokens 0 at (omega (arith, front_long))

  -- The other parts of its index.
  pub crossings-at : slice crossings_at mark_id_at (derived_index m) ≡ (noting (pieces_of m) (kind_of m)).noted
  crossings-at = part_of_front 3 67 (omega arith) ∙ noted_read (kind_number (kind_of m)) (raw_path_number (raw_path m)) (noting (pieces_of m) (kind_of m)).count (noting (pieces_of m) (kind_of m)).noted (pieces_of m) m.lookup m.left m.right m.rank all_64

  pub mark-at : get_or (derived_index m) mark_id_at 0 ≡ mark_id (pieces_of m) m.lookup
  mark-at = word_of_front 67 (omega arith) ∙ mark-read (kind_number (kind_of m)) (raw_path_number (raw_path m)) (noting (pieces_of m) (kind_of m)).count (noting (pieces_of m) (kind_of m)).noted (pieces_of m) m.lookup m.left m.right m.rank all_64

  pub shift_at_lem : get_or (derived_index m) shift_at 0 ≡ bucket_shift (length (pieces_of m))
  shift_at_lem = word_of_front 68 (omega arith) ∙ shift_read (kind_number (kind_of m)) (raw_path_number (raw_path m)) (noting (pieces_of m) (kind_of m)).count (noting (pieces_of m) (kind_of m)).noted (pieces_of m) m.lookup m.left m.right m.rank all_64

  pub piece-index-at : slice first_bytes_at buckets_at (derived_index m) ≡ piece_index (pieces_of m) m.lookup
  piece-index-at = part_of_front 69 582 (omega arith) ∙ piece-index-read (kind_number (kind_of m)) (raw_path_number (raw_path m)) (noting (pieces_of m) (kind_of m)).count (noting (pieces_of m) (kind_of m)).noted (pieces_of m) m.lookup m.left m.right m.rank all_64

  pub row-index-at : slice buckets_at first_tokens_at (derived_index m) ≡ row_index m.left m.right m.rank (bucket_shift (length (pieces_of m)))
  row-index-at = part_of_front 582 168519 (omega arith) ∙ row-index-read (kind_number (kind_of m)) (raw_path_number (raw_path m)) (noting (pieces_of m) (kind_of m)).count (noting (pieces_of m) (kind_of m)).noted (pieces_of m) m.lookup m.left m.right m.rank all_64

  pub first-tokens-at : slice first_tokens_at second_tokens_at (derived_index m) ≡ beginnings (contents m.first) 256
  first-tokens-at = ap (slice 168519 168775) index_is ∙ first-tokens-read front (contents m.first) (contents m.second) front_long

  pub second-tokens-at : slice second_tokens_at longest_content_at (derived_index m) ≡ beginnings (contents m.second) 256
  second-tokens-at = ap (slice 168775 169031) index_is ∙ second-tokens-read front (contents m.first) (contents m.second) front_long

  pub longest-at : get_or (derived_index m) longest_content_at 0 ≡ longest_content (contents m.first)
  longest-at = ap (λ (l : List ℕ). get_or l 169031 0) index_is ∙ longest-read front (contents m.first) (contents m.second) front_long

  pub index-long : length (derived_index m) ≡ index_length
  unfolding derived_index
  index-long = length-index (kind_number (kind_of m)) (raw_path_number (raw_path m)) (noting (pieces_of m) (kind_of m)).count (noting (pieces_of m) (kind_of m)).noted (pieces_of m) m.lookup m.left m.right m.rank (contents m.first) (contents m.second) all_64
