-- `decode::Decoder::take_in` meets its contract: the byte is held, or what is held with it is put out. Assumes nothing.
use Prim.Native.Nat.{ℕ}
use mathlib.Core.Path.{◌≡◌, refl, sym, ap, ◌∙◌}
use mathlib.Core.Bool.{Bool, true, false}
use mathlib.Core.List.{List, [], ◌∷◌, ◌++◌}
use Rattle.std.specs.Prelude.{Some, None}
use Rattle.std.specs.Bool.{then_some}
use Rattle.decode.specs.declared.Held.{Held}
use Rattle.decode.specs.inner.Feeding.{Fed, is_open, held_of, held_by, holding, longer}
use Rattle.decode.proofs.ByteLaws.{taken_open, taken_whole}
use Rattle.decode.proofs.Decoder.take_in.Goals as goal

-- what the two answers say
some_longer : (held : List ℕ) (b : ℕ) (h : Held) → Some h ≡ longer held b → (is_open (held ++ (b ∷ [])) ≡ true) × (h ≡ held_of (held ++ (b ∷ [])))
unfolding longer
some_longer held b h e = go (is_open (held ++ (b ∷ []))) e
  where
    go : (d : Bool) → Some h ≡ then_some d (held_of (held ++ (b ∷ []))) → (d ≡ true) × (h ≡ held_of (held ++ (b ∷ [])))
    go true e = (refl, cc)
    go false e = absurd (cc)

none_longer : (held : List ℕ) (b : ℕ) → None ≡ longer held b → is_open (held ++ (b ∷ [])) ≡ false
unfolding longer
none_longer held b e = go (is_open (held ++ (b ∷ []))) e
  where
    go : (d : Bool) → None ≡ then_some d (held_of (held ++ (b ∷ []))) → d ≡ false
    go true e = absurd (cc)
    go false e = refl

pub returns-in-Some : goal.returns-in-Some
unfolding holding
returns-in-Some c =
    let s = c.args in
    let more = some_longer (held_by s.self) s.b c.in-Some.held (sym c.in-Some.is ∙ c.longer.ensures) in
    ap {B = Fed} (λ (h : Held). record { progress = record { decoder = record { held = h; begun = s.self.begun }; at = s.at }; out = s.out.now }) more.1
    ∙ taken_open s.self s.b s.at s.out.now c.requires.unbroken more.0

pub put_settled-requires-clause-closed_after : goal.put_settled-requires-clause-closed_after
put_settled-requires-clause-closed_after c = none_longer (held_by c.args.self) c.args.b (sym c.in-None.is ∙ c.longer.ensures)

pub returns-in-None : goal.returns-in-None
returns-in-None c =
    let s = c.args in
    taken_whole s.self s.b s.at s.out.now c.requires.unbroken (none_longer (held_by s.self) s.b (sym c.in-None.is ∙ c.longer.ensures)) _ _ c.put_settled.ensures c.new.ensures
