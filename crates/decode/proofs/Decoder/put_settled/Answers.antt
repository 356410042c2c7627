-- `decode::Decoder::put_settled` meets its contract: by what is held. Assumes nothing.
use Prim.Native.Nat.{ℕ, ◌<◌}
use native.Mathlib.Omega.{arith}
use mathlib.Core.Path.{◌≡◌, refl, sym, ap, ◌∙◌}
use mathlib.Core.Bool.{false, not, and-false}
use mathlib.Core.List.{List, [], ◌∷◌, ◌++◌}
use borrow.Author.Tests.{not-true, not-false}
use lib.Dec.{eqb}
use lib.ListN.{length, length-append}
use Rattle.utf8.specs.Lists.{same}
use Rattle.utf8.proofs.Starts.{same-eq, apart_by_length}
use Rattle.model.specs.Mark.{mark, space}
use Rattle.decode.specs.declared.Held.{Held}
use Rattle.decode.specs.declared.Held.TheVariants.{Nothing, One, Two, Three}
use Rattle.decode.specs.inner.Feeding.{bytes_of, shown_first, put}
use Rattle.decode.proofs.FormLaws.{whole_later}
use Rattle.decode.proofs.TextLaws.{shown-wide, shown-mark}
use Rattle.decode.proofs.StateLaws.{put-nothing}
use Rattle.decode.proofs.Decoder.put_settled.Goals as goal
use Rattle.decode.proofs.Decoder.put_settled.Goals.{Start}

module _ (s : Start) (h : Held) (is : s.args.self.held ≡ h) where
  -- the bytes held, and the next one
  abbrev bytes : List ℕ
  bytes = bytes_of h ++ (s.args.b ∷ [])

  -- What is put out where they are shown as these bytes.
  shows : (xs : List ℕ) → shown_first (not s.args.self.begun) bytes ≡ xs
      → put xs s.args.at s.args.out.now ≡ put (shown_first (not s.args.self.begun) (bytes_of s.args.self.held ++ (s.args.b ∷ []))) s.args.at s.args.out.now
  shows xs e = ap (λ (l : List ℕ). put l s.args.at s.args.out.now) (sym (ap (λ (k : Held). shown_first (not s.args.self.begun) (bytes_of k ++ (s.args.b ∷ []))) is ∙ e))

  -- A character that is no mark.
  as_it_is : 0 < length (bytes_of h) → same bytes mark ≡ false → shown_first (not s.args.self.begun) bytes ≡ bytes
  as_it_is some other =
      shown-wide (not s.args.self.begun) bytes (omega (arith, length-append (bytes_of h) (s.args.b ∷ [])))
      (whole_later (bytes_of h) s.args.b some (rw is at s.requires.unbroken) (rw is at s.requires.closed_after)) other

pub put_alone-requires : goal.put_alone-requires
put_alone-requires c = record { closed_after = rw c.in-Nothing.is at c.requires.closed_after; at_bound = c.requires.at_bound }

pub returns-in-Nothing : goal.returns-in-Nothing
returns-in-Nothing c =
    let s = (goal.at.returns-in-Nothing c).Start in
    c.put_alone.ensures ∙ shows s Nothing c.in-Nothing.is _ refl

pub returns-in-One : goal.returns-in-One
unfolding mark
returns-in-One c =
    let s = (goal.at.returns-in-One c).Start in
    let h = One c.in-One.first in
    let short : same (bytes s h c.in-One.is) mark ≡ false = rw (and-false (eqb s.args.b 0x96)) (and-false (eqb c.in-One.first 0xE2)) in
    c.put_bytes.ensures ∙ shows s h c.in-One.is _ (as_it_is s h c.in-One.is (omega arith) short)

pub returns-then-ne : goal.returns-then-ne
unfolding mark
returns-then-ne c =
    let s = (goal.at.returns-then-ne c).Start in
    let h = Two c.in-Two.first c.in-Two.second in
    c.put_bytes-then-ne.ensures
    ∙ shows s h c.in-Two.is _ (as_it_is s h c.in-Two.is (omega arith) (not-true (same (bytes s h c.in-Two.is) mark) (sym c.ne.ensures ∙ c.if-ne.true)))

pub returns-then-self : goal.returns-then-self
unfolding mark space
returns-then-self c =
    let s = (goal.at.returns-then-self c).Start in
    let h = Two c.in-Two.first c.in-Two.second in
    let is : bytes s h c.in-Two.is ≡ mark = same-eq (bytes s h c.in-Two.is) mark (not-false (same (bytes s h c.in-Two.is) mark) (sym c.ne.ensures ∙ c.if-ne.false)) in
    c.put_byte.ensures ∙ shows s h c.in-Two.is _ (ap (shown_first (not s.args.self.begun)) is ∙ shown-mark (not s.args.self.begun) ∙ rw c.if-self.true)

pub returns-else-self : goal.returns-else-self
unfolding mark
returns-else-self c =
    let s = (goal.at.returns-else-self c).Start in
    let h = Two c.in-Two.first c.in-Two.second in
    let is : bytes s h c.in-Two.is ≡ mark = same-eq (bytes s h c.in-Two.is) mark (not-false (same (bytes s h c.in-Two.is) mark) (sym c.ne.ensures ∙ c.if-ne.false)) in
    put-nothing s.args.at s.args.out.now ∙ shows s h c.in-Two.is _ (ap (shown_first (not s.args.self.begun)) is ∙ shown-mark (not s.args.self.begun) ∙ rw c.if-self.false)

pub returns-in-Three : goal.returns-in-Three
unfolding mark
returns-in-Three c =
    let s = (goal.at.returns-in-Three c).Start in
    let h = Three c.in-Three.first c.in-Three.second c.in-Three.third in
    c.put_bytes-in-Three.ensures ∙ shows s h c.in-Three.is _ (as_it_is s h c.in-Three.is (omega arith) (apart_by_length (bytes s h c.in-Three.is) mark (omega arith)))
