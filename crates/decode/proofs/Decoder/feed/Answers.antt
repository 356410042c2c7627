-- `decode::Decoder::feed` meets its contract: where the byte breaks off what is held, that is put out first. Assumes nothing.
use Prim.Native.Nat.{ℕ, ◌≤◌}
use native.Mathlib.Omega.{arith}
use mathlib.Core.Path.{◌≡◌, refl, sym, ap, ◌∙◌}
use mathlib.Core.Bool.{true, false}
use mathlib.Core.List.{List, []}
use lib.ListN.{replicate}
use Rattle.utf8.specs.Lists.{join}
use Rattle.decode.specs.Decode.{replacement}
use Rattle.decode.specs.inner.Feeding.{is_open, is_broken, held_by, holding, put}
use Rattle.decode.proofs.FormLaws.{broken_none}
use Rattle.decode.proofs.StateLaws.{held_short, held-holding, sound_empty, put-at, strays_long}
use Rattle.decode.proofs.ByteLaws.{taken_broken}
use Rattle.decode.proofs.Decoder.feed.Goals as goal
use Rattle.decode.proofs.Decoder.feed.Goals.{After-len}

few : (p : After-len) → p.len.result ≤ 3
few p = omega (arith, held_short p.args.self p.requires.sound, p.len.ensures)

whole_empty : (b : ℕ) → is_broken (held_by (holding [] true)) b ≡ false
unfolding is_open
whole_empty b = ap (λ (h : List ℕ). is_broken h b) (held-holding [] true refl) ∙ broken_none b

pub take_in-requires : goal.take_in-requires
take_in-requires c = record { sound = c.requires.sound; unbroken = sym c.is_broken.ensures ∙ c.if-not-is_broken.true; at_bound = omega (arith, c.requires.at_bound) }

pub returns-then-not-is_broken : goal.returns-then-not-is_broken
returns-then-not-is_broken c = c.take_in.ensures

pub put_strays-next-requires : goal.put_strays-next-requires
put_strays-next-requires c =
    let p = (goal.at.put_strays-next-requires c).After-len in
    omega (arith, few p, p.requires.at_bound)

pub take_in-requires-2 : goal.take_in-requires-2
take_in-requires-2 c = let p = (goal.at.take_in-requires-2 c).After-len in
    record { sound = rw c.new.ensures (sound_empty true); unbroken = rw c.new.ensures (whole_empty p.args.b); at_bound = omega (arith, few p, put-at (join (replicate p.len.result replacement)) _ _ c.put_strays-next.ensures, strays_long p.len.result, p.requires.at_bound) }

pub returns : goal.returns
returns c =
    let s = c.args in
    taken_broken s.self s.b s.at s.out.now c.requires.sound (sym c.is_broken.ensures ∙ c.if-not-is_broken.false) _ _ _
    (c.put_strays-next.ensures ∙ ap (λ (n : ℕ). put (join (replicate n replacement)) s.at s.out.now) c.len.ensures) c.new.ensures c.take_in-2.ensures
