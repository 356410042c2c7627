use Prim.Native.Nat.{ℕ, ◌+◌, ◌<◌}
use native.Mathlib.Omega.{arith}
use mathlib.Core.Path.{◌≡◌, sym, ap, ap₂, ◌∙◌}
use mathlib.Core.Bool.{true}
use mathlib.Core.List.{List, ◌++◌}
use lib.ListN.{length, take, drop, get_or}
use Rattle.model.specs.Model.{strings_of, piece}
use Rattle.decode.specs.Decode.{joined_bytes}
use Rattle.decode.specs.inner.Feeding.{Put, fed}
use Rattle.decode.specs.inner.Words.{head_spaced, eight_at, quick_at}
use Rattle.decode.specs.declared.words.Shown.{Shown}
use lib.Seq.{sets}
use Rattle.decode.proofs.QuickLaws.{quick, some_shown}
use Rattle.decode.proofs.TextLaws.{joined-next, joined-ended}
use Rattle.decode.proofs.PassLaws.{passing_start, passing_room, passing_fed, passing_quick, passing_ended, piece-at}
use borrow.Author.Rules.{rules}
use Rattle.decode.proofs.pass.feed_ids.Goals as goal
use Rattle.decode.proofs.pass.feed_ids.Goals.{After-shown_at, After-get-piece, At-loop-id, In-Some}

abbrev pieces : At-loop-id → List (List ℕ)
pieces a = strings_of a.args.pieces.now

-- the next piece, and the bytes behind it
abbrev here : At-loop-id → List ℕ
here a = piece (pieces a) (get_or a.args.ids.now a.loop-id.id-index 0)

abbrev later : At-loop-id → List ℕ
later a = joined_bytes (pieces a) (drop (a.loop-id.id-index + 1) a.args.ids.now)

next : (a : At-loop-id) → a.loop-id.id-index < length a.args.ids.now → joined_bytes (pieces a) (drop a.loop-id.id-index a.args.ids.now) ≡ here a ++ later a
next a h = joined-next (pieces a) a.args.ids.now a.loop-id.id-index h

-- an id is left
inside : (p : After-get-piece) → p.loop-id.id-index < length p.args.ids.now
inside p = p.loop-id-test.true

-- the piece that was read
read : (p : After-get-piece) → p.get-piece.result.now ≡ here (goal.at.After-get-piece p).At-loop-id
unfolding piece
read p = p.get-piece.ensures

-- it stands in the table where its offset says
placed : (r : After-shown_at)
    → take (length r.get-piece.result.now) (drop r.number_at-start.result r.args.pieces.now.bytes.now) ≡ here (goal.at.After-shown_at r).At-loop-id
unfolding piece
placed r =
    let p = (goal.at.After-shown_at r).After-get-piece in
    let s = p.args in
    ap₂ (λ (bytes : List ℕ) (n : ℕ). take (length bytes) (drop n s.pieces.now.bytes.now)) (read p)
    r.number_at-start.ensures
    ∙ piece-at s.pieces.now.bytes.now s.pieces.now.offsets.now (get_or s.ids.now p.loop-id.id-index 0)

-- what a short piece is shown as
short : (i : In-Some) → (quick_at i.args.pieces.now.bytes.now i.number_at-start.result (length i.get-piece.result.now) ≡ true)
    × (i.in-Some.shown ≡ record {
      eight = eight_at i.args.pieces.now.bytes.now i.number_at-start.result (length i.get-piece.result.now);
      len = length (head_spaced (take (length i.get-piece.result.now) (drop i.number_at-start.result i.args.pieces.now.bytes.now)));
    })
short i = some_shown i.args.pieces.now.bytes.now i.number_at-start.result (length i.get-piece.result.now) i.in-Some.shown (sym i.in-Some.is ∙ i.shown_at.ensures)

pub loop-id-init : goal.loop-id-init
loop-id-init c =
    (search rules, passing_start c.args.s _ c.args.out.now c.requires.sound c.requires.ids_len_bound)

pub all_or_none-requires : goal.all_or_none-requires
all_or_none-requires c = omega (arith, c.loop-id.invariant.1.room)

pub overflow_add-at : goal.overflow_add-at
overflow_add-at c =
    let i = (goal.at.overflow_add-at c).In-Some in
    let few = (quick i.args.pieces.now.bytes.now i.number_at-start.result (length i.get-piece.result.now) (short i).0).small in
    omega (arith, few, ap (λ (s : Shown). s.len) (short i).1, c.loop-id.invariant.1.room)

pub feed_piece-progress-requires : goal.feed_piece-progress-requires
feed_piece-progress-requires c = let p = (goal.at.feed_piece-progress-requires c).After-get-piece in
    let a = (goal.at.feed_piece-progress-requires c).At-loop-id in
    record { sound = a.loop-id.invariant.1.sound; bytes_bound = rw (read p) (passing_room (here a) (later a) (next a (inside p)) a.loop-id.invariant.1) }

pub loop-id-preserved-in-Some : goal.loop-id-preserved-in-Some
loop-id-preserved-in-Some c =
    let i = (goal.at.loop-id-preserved-in-Some c).In-Some in
    let r = (goal.at.loop-id-preserved-in-Some c).After-shown_at in
    let p = (goal.at.loop-id-preserved-in-Some c).After-get-piece in
    let a = (goal.at.loop-id-preserved-in-Some c).At-loop-id in
    let l = a.loop-id in
    let is = (short i).1 in (
      search rules,
      passing_quick (here a) (later a) (next a (inside p)) l.invariant.1 a.args.pieces.now.bytes.now _ _ (placed r) (sym r.is_idle.ensures ∙ r.if-is_idle.true) (sym r.all_or_none.ensures ∙ r.if-all_or_none.true) (short i).0 _
          (ap₂ {C = Put} (λ (n : ℕ) (out : List ℕ). record { at = l.at + n; out = out }) (ap (λ (s : Shown). s.len) is) (c.put_eight.ensures ∙ ap (λ (s : Shown). sets l.out l.at s.eight) is)),
    )

pub loop-id-preserved : goal.loop-id-preserved
loop-id-preserved c =
    let p = (goal.at.loop-id-preserved c).After-get-piece in
    let a = (goal.at.loop-id-preserved c).At-loop-id in
    (search rules, passing_fed (here a) (later a) (next a (inside p)) a.loop-id.invariant.1 _ (c.feed_piece-progress.ensures ∙ ap (λ (bytes : List ℕ). fed a.loop-id.decoder bytes a.loop-id.at a.loop-id.out) (read p)))

pub returns : goal.returns
returns c =
    let a = (goal.at.returns c).At-loop-id in
    passing_ended (joined-ended (pieces a) a.args.ids.now a.loop-id.id-index (search rules)) a.loop-id.invariant.1
