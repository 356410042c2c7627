-- its parts are written one after the other.
use mathlib.Core.Path.{◌≡◌, refl, sym, ap, ◌∙◌}
use mathlib.Core.List.{List, ◌++◌}
use Prim.Native.Nat.{ℕ, ◌≤◌}
use native.Mathlib.Omega.{arith}
use lib.ListN.{length, take, drop, length-set, length-drop}
use lib.Seq.{length-take-le}
use Rattle.model.specs.Model.{strings_of}
use Rattle.model.specs.Mark.{mark}
use Rattle.model.proofs.StringLaws.{length-strings}
use Rattle.index.specs.Index.{mark_id, bucket_shift, pair_tables}
use Rattle.prepare.specs.Layout.{piece_words}
use Rattle.prepare.proofs.LayoutLaws.{lent_back, crossed-long, started_long, bucketed_long, last-long, pieces-filled}
use Rattle.prepare.proofs.fill.fill_pieces.Goals as goal
use Rattle.prepare.proofs.fill.fill_pieces.Goals.{After-copy_crossings, After-fill_buckets, After-fill_pairs, After-fill_piece_index, After-key_id-mark, Start}

abbrev pieces : Start → List (List ℕ)
pieces s = strings_of s.args.model.now.pieces

pub key_id-mark-requires : goal.key_id-mark-requires
key_id-mark-requires c = c.requires.ascending

-- the mark's id and the shift are those of the index
mark-is : (c : After-key_id-mark) → c.key_id-mark.result ≡ mark_id (pieces (goal.at.After-key_id-mark c).Start) c.args.model.now.lookup.now
unfolding mark_id mark
mark-is c = c.key_id-mark.ensures

shift_is : (c : After-key_id-mark) → c.bucket_shift-shift.result ≡ bucket_shift (length (pieces (goal.at.After-key_id-mark c).Start))
shift_is c =
    c.bucket_shift-shift.ensures.0
    ∙ ap bucket_shift (c.len.ensures ∙ sym (length-strings c.args.model.now.pieces.bytes.now c.args.model.now.pieces.offsets.now))

-- there is room
room : (s : Start) → 168519 ≤ length s.args.words.now
room s = s.requires.first_tokens_at_in_bounds

-- the buffer after each call is as long as it was
long_1 : (c : After-copy_crossings) → length c.copy_crossings.new.words ≡ length c.args.words.now
long_1 c =
    let s = (goal.at.After-copy_crossings c).Start in
    crossed-long s.args.found.now.kind s.args.found.now.raw_path s.args.found.now.count s.args.found.now.noted.now (pieces s) s.args.model.now.lookup.now s.args.model.now.rows.left.now s.args.model.now.rows.right.now s.args.model.now.rows.rank.now s.requires.noted_len s.args.words.now (room s)
    c.copy_crossings.new.words c.copy_crossings.ensures

module _ (c : After-fill_piece_index) where
  long_2 : length c.fill_piece_index.new.words ≡ length c.args.words.now
  long_2 =
      let s = (goal.at.After-fill_piece_index c).Start in
      started_long s.args.found.now.kind s.args.found.now.raw_path s.args.found.now.count s.args.found.now.noted.now (pieces s) s.args.model.now.lookup.now s.args.model.now.rows.left.now s.args.model.now.rows.right.now s.args.model.now.rows.rank.now s.requires.noted_len s.args.words.now (room s)
      c.copy_crossings.new.words c.copy_crossings.ensures c.key_id-mark.result c.bucket_shift-shift.result (mark-is (goal.at.After-fill_piece_index c).After-key_id-mark) (shift_is (goal.at.After-fill_piece_index c).After-key_id-mark)
      c.fill_piece_index.new.words c.fill_piece_index.ensures

module _ (c : After-fill_buckets) where
  abbrev bucketed : List ℕ
  bucketed = c.fill_buckets.new.words

  long_3 : length bucketed ≡ length c.args.words.now
  long_3 =
      let s = (goal.at.After-fill_buckets c).Start in
      bucketed_long s.args.found.now.kind s.args.found.now.raw_path s.args.found.now.count s.args.found.now.noted.now (pieces s) s.args.model.now.lookup.now s.args.model.now.rows.left.now s.args.model.now.rows.right.now s.args.model.now.rows.rank.now s.requires.noted_len s.args.words.now (room s)
      c.copy_crossings.new.words c.copy_crossings.ensures c.key_id-mark.result c.bucket_shift-shift.result (mark-is (goal.at.After-fill_buckets c).After-key_id-mark) (shift_is (goal.at.After-fill_buckets c).After-key_id-mark)
      c.fill_piece_index.new.words c.fill_piece_index.ensures bucketed c.fill_buckets.ensures

module _ (c : After-fill_pairs) where
  -- the buffer with the pair table
  abbrev last : List ℕ
  last = take 4679 (bucketed (goal.at.After-fill_pairs c).After-fill_buckets) ++ (c.fill_pairs.new.words ++ drop 163840 (drop 4679 (bucketed (goal.at.After-fill_pairs c).After-fill_buckets)))

  last-is : last ≡ take 4679 (bucketed (goal.at.After-fill_pairs c).After-fill_buckets) ++ pair_tables c.args.model.now.rows.left.now c.args.model.now.rows.right.now c.args.model.now.rows.rank.now ++ drop 168519 (bucketed (goal.at.After-fill_pairs c).After-fill_buckets)
  last-is =
      lent_back 4679 163840 168519 (bucketed (goal.at.After-fill_pairs c).After-fill_buckets) c.fill_pairs.new.words
      (λ (n : ℕ). pair_tables c.args.model.now.rows.left.now c.args.model.now.rows.right.now c.args.model.now.rows.rank.now) refl (omega (arith, long_3 (goal.at.After-fill_pairs c).After-fill_buckets, room (goal.at.After-fill_pairs c).Start)) c.fill_pairs.ensures

  long_4 : length last ≡ length c.args.words.now
  long_4 =
      let s = (goal.at.After-fill_pairs c).Start in
      last-long s.args.found.now.kind s.args.found.now.raw_path s.args.found.now.count s.args.found.now.noted.now (pieces s) s.args.model.now.lookup.now s.args.model.now.rows.left.now s.args.model.now.rows.right.now s.args.model.now.rows.rank.now s.requires.noted_len s.args.words.now (room s)
      c.copy_crossings.new.words c.copy_crossings.ensures c.key_id-mark.result c.bucket_shift-shift.result (mark-is (goal.at.After-fill_pairs c).After-key_id-mark) (shift_is (goal.at.After-fill_pairs c).After-key_id-mark)
      c.fill_piece_index.new.words c.fill_piece_index.ensures (bucketed (goal.at.After-fill_pairs c).After-fill_buckets) c.fill_buckets.ensures last last-is

  whole :
      last
      ≡ piece_words c.args.found.now.kind c.args.found.now.raw_path c.args.found.now.count c.args.found.now.noted.now (pieces (goal.at.After-fill_pairs c).Start) c.args.model.now.lookup.now c.args.model.now.rows.left.now c.args.model.now.rows.right.now c.args.model.now.rows.rank.now ++ drop 168519 c.args.words.now
  whole =
      let s = (goal.at.After-fill_pairs c).Start in
      pieces-filled s.args.found.now.kind s.args.found.now.raw_path s.args.found.now.count s.args.found.now.noted.now (pieces s) s.args.model.now.lookup.now s.args.model.now.rows.left.now s.args.model.now.rows.right.now s.args.model.now.rows.rank.now s.requires.noted_len s.args.words.now (room s)
      c.copy_crossings.new.words c.copy_crossings.ensures c.key_id-mark.result c.bucket_shift-shift.result (mark-is (goal.at.After-fill_pairs c).After-key_id-mark) (shift_is (goal.at.After-fill_pairs c).After-key_id-mark)
      c.fill_piece_index.new.words c.fill_piece_index.ensures (bucketed (goal.at.After-fill_pairs c).After-fill_buckets) c.fill_buckets.ensures last last-is

pub bounds-words-0 : goal.bounds-words-0
bounds-words-0 c = omega (arith, room (goal.at.bounds-words-0 c).Start)

pub bounds-words-1 : goal.bounds-words-1
bounds-words-1 c = rw length-set (omega (arith, room (goal.at.bounds-words-1 c).Start))

pub bounds-words-2 : goal.bounds-words-2
bounds-words-2 c = rw (length-set, length-set) (omega (arith, room (goal.at.bounds-words-2 c).Start))

pub copy_crossings-requires : goal.copy_crossings-requires
copy_crossings-requires c = rw (length-set, length-set, length-set) (omega (arith, room (goal.at.copy_crossings-requires c).Start, c.requires.noted_len))

pub bounds-words-67 : goal.bounds-words-67
bounds-words-67 c = omega (arith, long_1 (goal.at.bounds-words-67 c).After-copy_crossings, room (goal.at.bounds-words-67 c).Start)

pub bounds-words-68 : goal.bounds-words-68
bounds-words-68 c = rw length-set (omega (arith, long_1 (goal.at.bounds-words-68 c).After-copy_crossings, room (goal.at.bounds-words-68 c).Start))

pub fill_piece_index-requires : goal.fill_piece_index-requires
fill_piece_index-requires c = let s = (goal.at.fill_piece_index-requires c).Start in
    record { ascending = s.requires.ascending; lookup_len_bound = s.requires.lookup_len_bound; buckets_at_in_bounds = rw (length-set, length-set) (omega (arith, long_1 (goal.at.fill_piece_index-requires c).After-copy_crossings, room s)) }

pub fill_buckets-requires : goal.fill_buckets-requires
fill_buckets-requires c = let s = (goal.at.fill_buckets-requires c).Start in
    record { left_len_bound = omega (arith, s.requires.left_len_bound); buckets_at_in_bounds = omega (arith, long_2 (goal.at.fill_buckets-requires c).After-fill_piece_index, room s); shift_bound = c.bucket_shift-shift.ensures.1 }

pub slice_bounds-fill_pairs-start : goal.slice_bounds-fill_pairs-start
slice_bounds-fill_pairs-start c = omega arith

pub slice_bounds-fill_pairs-end : goal.slice_bounds-fill_pairs-end
slice_bounds-fill_pairs-end c = let b = (goal.at.slice_bounds-fill_pairs-end c).After-fill_buckets in omega (arith, long_3 b, room (goal.at.slice_bounds-fill_pairs-end c).Start)

pub fill_pairs-requires : goal.fill_pairs-requires
fill_pairs-requires c = let b = (goal.at.fill_pairs-requires c).After-fill_buckets in
    let s = (goal.at.fill_pairs-requires c).Start in
    record { left_len_bound = s.requires.left_len_bound; words_len = length-take-le 163840 (drop 4679 (bucketed b)) (omega (arith, length-drop 4679 (bucketed b), long_3 b, room s)) }

pub shape_of-words : goal.shape_of-words
shape_of-words c = long_4 (goal.at.shape_of-words c).After-fill_pairs

pub returns : goal.returns
returns c = whole (goal.at.returns c).After-fill_pairs
