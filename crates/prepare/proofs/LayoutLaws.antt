-- Laws of the index: how long it is, and that its parts written one after the other make it.
use mathlib.Core.Path.{◌≡◌, refl, sym, ap, ap₂, ◌∙◌}
use mathlib.Core.List.{List, [], ◌∷◌, ◌++◌, append-nil, append_assoc}
use Prim.Native.Nat.{ℕ, ◌+◌, ◌≤◌}
use native.Mathlib.Omega.{arith}
use lib.ListN.{length, take, drop, set, length-append, length-drop, take-append-drop}
use lib.Seq.{take_at, drop_at, drop-drop, drop-append-add, length-take-le}
use Rattle.utf8.proofs.Fronts.{length-row}
use Rattle.utf8.proofs.Writing.{Written, written_start, written_byte, written-part, written-length, written-ended}
use Rattle.index.specs.Index.{first_byte_start, first_bytes, mark_id, byte_id, byte_ids, piece_index, bucket_shift, bucket_start, buckets, pair_words, second_words, pair_tables, row_index}
use Rattle.index.proofs.PairLaws.{length_pairs, length-second}
use Rattle.sections.specs.Beginnings.{beginnings, longest_content}
use Rattle.sections.proofs.SeekLaws.{length-beginnings}
use Rattle.prepare.specs.Layout.{piece_words, token_words, index_row}

pub length-first_bytes : (pieces : List (List ℕ)) (lookup : List ℕ) → length (first_bytes pieces lookup) ≡ 257
unfolding first_bytes
length-first_bytes pieces lookup = length-row (first_byte_start pieces lookup) 257

pub length-piece_index : (pieces : List (List ℕ)) (lookup : List ℕ) → length (piece_index pieces lookup) ≡ 513
unfolding piece_index byte_ids
length-piece_index pieces lookup = omega (arith, length-append (first_bytes pieces lookup) (byte_ids pieces lookup), length-first_bytes pieces lookup, length-row (byte_id pieces lookup) 256)

pub length-buckets : (left : List ℕ) (shift : ℕ) → length (buckets left shift) ≡ 4097
unfolding buckets
length-buckets left shift = length-row (bucket_start left shift) 4097

pub length-pair_tables : (left right rank : List ℕ) → length (pair_tables left right rank) ≡ 163840
unfolding pair_tables
length-pair_tables left right rank =
    let words = pair_words left right rank in
    omega (arith, length-append words (second_words left right rank words), length_pairs left right rank, length-second left right rank words)

pub length-row_index : (left right rank : List ℕ) (shift : ℕ) → length (row_index left right rank shift) ≡ 167937
unfolding row_index
length-row_index left right rank shift = omega (arith, length-append (buckets left shift) (pair_tables left right rank), length-buckets left shift, length-pair_tables left right rank)

-- A part of a buffer that was lent, and came back as a row of its own length.
pub lent_back : (a k e : ℕ) (xs ys : List ℕ) (row : ℕ → List ℕ) → a + k ≡ e → e ≤ length xs → ys ≡ row (length (take k (drop a xs)))
    → take a xs ++ (ys ++ drop k (drop a xs)) ≡ take a xs ++ row k ++ drop e xs
lent_back a k e xs ys row s h r =
    let long : length (take k (drop a xs)) ≡ k = length-take-le k (drop a xs) (omega (arith, length-drop a xs)) in
    sym (append_assoc (take a xs) ys (drop k (drop a xs)))
    ∙ ap₂ (λ (y z : List ℕ). take a xs ++ y ++ z) (r ∙ ap row long) (drop-drop k a xs ∙ ap (λ (n : ℕ). drop n xs) s)

-- A row of m words put behind one of n, which stand at the front of a buffer.
behind_front : (front row : List ℕ) (n m : ℕ) → length front ≡ n → (before written last : List ℕ) → written ≡ front ++ drop n before → last ≡ take n written ++ row ++ drop (n + m) written
    → last ≡ front ++ row ++ drop (n + m) before
behind_front front row n m long before written last e f =
    let behind : drop (n + m) (front ++ drop n before) ≡ drop (n + m) before = ap (λ (k : ℕ). drop (k + m) (front ++ drop n before)) (sym long) ∙ drop-append-add front (drop n before) m ∙ drop-drop m n before in
    f ∙ rw (e, take_at front (drop n before) n long, behind)

-- ---- what is derived of the lookup list

pub piece-index-filled : (pieces : List (List ℕ)) (lookup before started last : List ℕ) → 582 ≤ length before → started ≡ take 69 before ++ first_bytes pieces lookup ++ drop 326 before
    → last ≡ take 326 started ++ byte_ids pieces lookup ++ drop 582 started → last ≡ take 69 before ++ piece_index pieces lookup ++ drop 582 before
unfolding piece_index
piece-index-filled pieces lookup before started last room e f =
    let front = take 69 before ++ first_bytes pieces lookup in
    let long : length front ≡ 326 = omega (arith, length-append (take 69 before) (first_bytes pieces lookup), length-take-le 69 before (omega arith), length-first_bytes pieces lookup) in
    behind_front front (byte_ids pieces lookup) 326 256 long before started last e f
    ∙ ap (λ (l : List ℕ). l ++ drop 582 before) (append_assoc (take 69 before) (first_bytes pieces lookup) (byte_ids pieces lookup))

-- ---- what is derived of pieces and rows

module _ (kind raw count : ℕ) (noted : List ℕ) (pieces : List (List ℕ)) (lookup left right rank : List ℕ) (all_Noted : length noted ≡ 64) where
  abbrev row : List ℕ
  row = piece_words kind raw count noted pieces lookup left right rank

  abbrev shift : ℕ
  shift = bucket_shift (length pieces)

  abbrev starts : List ℕ
  starts = piece_index pieces lookup ++ row_index left right rank shift

  pub length-piece_words : length row ≡ 168519
  unfolding piece_words
  length-piece_words =
      omega
      (arith, length-append noted (mark_id pieces lookup ∷ shift ∷ starts), length-append (piece_index pieces lookup) (row_index left right rank shift), length-piece_index pieces lookup, length-row_index left right rank shift)

  -- ---- its parts written one after the other

  module _ (before : List ℕ) (room : 168519 ≤ length before) where
    fits : length row ≤ length before
    fits = omega (arith, length-piece_words)

    abbrev heads : List ℕ
    heads = set (set (set before 0 kind) 1 raw) 2 count

    heads_written : Written row (noted ++ (mark_id pieces lookup ∷ shift ∷ starts)) before heads 3
    unfolding piece_words
    heads_written =
        written_byte fits
        (written_byte fits (written_byte fits (written_start row before) (record { is = refl })) (record { is = refl }))
        (record { is = refl })

    module _ (crossed : List ℕ) (e : crossed ≡ take 3 heads ++ noted ++ drop (3 + length noted) heads) where
      crossed-written : Written row (mark_id pieces lookup ∷ shift ∷ starts) before crossed 67
      crossed-written =
          let at : 3 + length noted ≡ 67 = omega arith in
          rw (e, ← at) (written-part fits heads_written (record { is = refl }))

      pub crossed-long : length crossed ≡ length before
      crossed-long = written-length fits crossed-written

      module _ (mark by : ℕ) (mark-is : mark ≡ mark_id pieces lookup) (Shift-is : by ≡ shift) where
        abbrev marked : List ℕ
        marked = set (set crossed 67 mark) 68 by

        marked_written : Written row starts before marked 69
        marked_written = rw (mark-is, Shift-is) (written_byte fits (written_byte fits crossed-written (record { is = refl })) (record { is = refl }))

        module _ (started : List ℕ) (f : started ≡ take 69 marked ++ piece_index pieces lookup ++ drop 582 marked) where
          started_written : Written row (row_index left right rank shift) before started 582
          started_written =
              let long = length-piece_index pieces lookup in
              let at : 69 + length (piece_index pieces lookup) ≡ 582 = omega arith in
              let step = written-part fits marked_written {part = piece_index pieces lookup} {rest = row_index left right rank shift} (record { is = refl }) in
              rw (f, ← at) step

          pub started_long : length started ≡ length before
          started_long = written-length fits started_written

          module _ (bucketed : List ℕ) (g : bucketed ≡ take 582 started ++ buckets left by ++ drop (582 + 4097) started) where
            bucketed_written : Written row (pair_tables left right rank) before bucketed 4679
            unfolding row_index
            bucketed_written =
                let long = length-buckets left shift in
                let at : 582 + length (buckets left shift) ≡ 4679 = omega arith in
                let step = written-part fits started_written {part = buckets left shift} {rest = pair_tables left right rank} (record { is = refl }) in
                rw (g, Shift-is, ← at) step

            pub bucketed_long : length bucketed ≡ length before
            bucketed_long = written-length fits bucketed_written

            module _ (last : List ℕ) (p : last ≡ take 4679 bucketed ++ pair_tables left right rank ++ drop 168519 bucketed) where
              last_written : Written row [] before last 168519
              last_written =
                  let long = length-pair_tables left right rank in
                  let at : 4679 + length (pair_tables left right rank) ≡ 168519 = omega arith in
                  let step = written-part fits bucketed_written {part = pair_tables left right rank} {rest = []} (record { is = sym (append-nil (pair_tables left right rank)) }) in
                  rw (p, ← at) step

              pub last-long : length last ≡ length before
              last-long = written-length fits last_written

              pub pieces-filled : last ≡ row ++ drop 168519 before
              pieces-filled = written-ended fits last_written refl ∙ rw length-piece_words

-- ---- what is derived of the token lists

module _ (first second : List (List ℕ)) where
  pub length-token_words : length (token_words first second) ≡ 513
  unfolding token_words
  length-token_words =
      omega
      (arith, length-append (beginnings first 256) (beginnings second 256 ++ (longest_content first ∷ [])), length-append (beginnings second 256) (longest_content first ∷ []), length-beginnings first 256, length-beginnings second 256)

  module _ (before : List ℕ) (room : 169032 ≤ length before) where
    abbrev output : List ℕ
    output = take 168519 before ++ token_words first second

    front_long : length (take 168519 before) ≡ 168519
    front_long = length-take-le 168519 before (omega arith)

    length_output : length output ≡ 169032
    length_output = omega (arith, length-append (take 168519 before) (token_words first second), front_long, length-token_words)

    token_room : length output ≤ length before
    token_room = omega (arith, length_output)

    tokens-start : Written output (token_words first second) before before 168519
    tokens-start = record {
      within = omega (arith, length_output);
      left = drop_at (take 168519 before) (token_words first second) 168519 front_long;
      front = sym (ap (λ (l : List ℕ). l ++ drop 168519 before) (take_at (take 168519 before) (token_words first second) 168519 front_long) ∙ take-append-drop 168519 before);
    }

    module _ (one : List ℕ) (e : one ≡ take 168519 before ++ beginnings first 256 ++ drop 168775 before) where
      one_written : Written output (beginnings second 256 ++ (longest_content first ∷ [])) before one 168775
      unfolding token_words
      one_written =
          let long = length-beginnings first 256 in
          let at : 168519 + length (beginnings first 256) ≡ 168775 = omega arith in
          let step = written-part token_room tokens-start {part = beginnings first 256} {rest = beginnings second 256 ++ (longest_content first ∷ [])} (record { is = refl }) in
          rw (e, ← at) step

      pub one-long : length one ≡ length before
      one-long = written-length token_room one_written

      module _ (two : List ℕ) (f : two ≡ take 168775 one ++ beginnings second 256 ++ drop 169031 one) where
        two_written : Written output (longest_content first ∷ []) before two 169031
        two_written =
            let long = length-beginnings second 256 in
            let at : 168775 + length (beginnings second 256) ≡ 169031 = omega arith in
            let step = written-part token_room one_written {part = beginnings second 256} {rest = longest_content first ∷ []} (record { is = refl }) in
            rw (f, ← at) step

        pub two_long : length two ≡ length before
        two_long = written-length token_room two_written

        pub tokens-filled : (longest : ℕ) → longest ≡ longest_content first → set two 169031 longest ≡ take 168519 before ++ token_words first second ++ drop 169032 before
        tokens-filled longest g =
            ap (set two 169031) g
            ∙ written-ended token_room (written_byte token_room two_written {rest = []} (record { is = refl })) refl
            ∙ ap (λ (n : ℕ). output ++ drop n before) length_output

-- ---- both

module _ (kind raw count : ℕ) (noted : List ℕ) (pieces : List (List ℕ)) (lookup left right rank : List ℕ) (first second : List (List ℕ)) (all_Noted : length noted ≡ 64) where
  abbrev front : List ℕ
  front = piece_words kind raw count noted pieces lookup left right rank

  front-is : length front ≡ 168519
  front-is = length-piece_words kind raw count noted pieces lookup left right rank all_Noted

  pub length-index : length (index_row kind raw count noted pieces lookup left right rank first second) ≡ 169032
  unfolding index_row
  length-index = omega (arith, length-append front (token_words first second), front-is, length-token_words first second)

  pub index-filled : (before written last : List ℕ) → written ≡ front ++ drop 168519 before → last ≡ take 168519 written ++ token_words first second ++ drop 169032 written
      → last ≡ index_row kind raw count noted pieces lookup left right rank first second ++ drop 169032 before
  unfolding index_row
  index-filled before written last = behind_front front (token_words first second) 168519 513 front-is before written last
