-- How far blocks reach, by where tokens end: of those with rstrip the furthest end decides, with the white space behind it, and tokens that
-- lie too far back do not matter. Assumes nothing.
use Prim.Native.Nat.{ℕ, ◌+◌, ◌-◌, ◌≤◌, ◌<◌, max}
use native.Mathlib.Omega.{arith}
use Rattle.std.specs.Prelude.{Option, None, Some}
use mathlib.Core.Path.{◌≡◌, refl, sym, ap, ◌∙◌}
use mathlib.Core.Bool.{Bool, true, false, cond, ◌&&◌}
use mathlib.Core.Logic.{⊎_elim}
use mathlib.Core.List.{List}
use borrow.Author.Tests.{ltb-true, lt-ltb, le-leb, lt-leb, not-true}
use lib.Dec.{leb, ltb}
use lib.ListN.{length}
use Rattle.utf8.proofs.Tests.{either, and_left, and_both}
use Rattle.model.specs.Model.{TokenList, contents, token_at}
use Rattle.sections.specs.inner.Strips.{stop_at}
use Rattle.fragments.specs.Safe.{block_end}
use Rattle.fragments.specs.inner.Reach.{Edge, is_as, plain_far, strip_far, furthest, reach, end_of, end_at, end_between}
use Rattle.fragments.proofs.GivenLaws.{Fine, Longest}
use Rattle.fragments.proofs.ChoiceLaws.{lt-or-le, chosen}
use Rattle.fragments.proofs.Bounded.{most_here}
use Rattle.fragments.proofs.WhiteLaws.{trimmed, white_end, trimmed_le, trims_behind, same_end, stops_at}
use Rattle.fragments.proofs.BlockLaws.{Standing, standing, Occurs, reach_here, Furthest, furthest_where, reach_where}

module _ (unguarded : Bool) (t : TokenList) (text : List ℕ) where
  abbrev end : ℕ → ℕ → ℕ
  end s row = s + length (token_at t row).content

  abbrev far : ℕ → ℕ → ℕ
  far s row = block_end unguarded text (token_at t row) (end s row)

  -- ---- where tokens end

  end_of_lem : (strip : Bool) (s row : ℕ) → Occurs unguarded t text s row → is_as strip (token_at t row).rstrip ≡ true → end_of unguarded t text strip s row ≡ end s row
  unfolding end_of
  end_of_lem strip s row o e = chosen _ (end s row) (and_both e (and_both o.blocking o.stands))

  end_here : (strip : Bool) (from to s row : ℕ) → from ≤ s → s < to → Occurs unguarded t text s row → is_as strip (token_at t row).rstrip ≡ true → end s row ≤ end_between unguarded t text strip from to
  unfolding end_between end_at
  end_here strip from to s row l h o e =
      omega (arith, end_of_lem strip s row o e, most_here (end_of unguarded t text strip s) 0 (length (contents t)) row (omega arith) (omega (arith, o.listed)), most_here (end_at unguarded t text strip) from (to - from) s l (omega arith))

  end_where : (strip : Bool) (from to : ℕ) → 0 < end_between unguarded t text strip from to
      → Furthest unguarded t text (λ (row : ℕ). is_as strip (token_at t row).rstrip) end from to (end_between unguarded t text strip from to)
  unfolding end_between end_at end_of
  end_where strip from to h = furthest_where unguarded t text (λ (row : ℕ). is_as strip (token_at t row).rstrip) end from to h

  -- ---- where blocks end

  far_plain : (s row : ℕ) → (token_at t row).rstrip ≡ false → far s row ≡ plain_far unguarded (end s row)
  unfolding block_end plain_far
  far_plain s row e = rw e

  far_strip : (s row : ℕ) → (token_at t row).rstrip ≡ true → far s row ≡ white_end text (end s row)
  unfolding block_end
  far_strip s row e = rw e

  plain_more : (a b : ℕ) → a ≤ b → plain_far unguarded a ≤ plain_far unguarded b
  unfolding plain_far
  plain_more a b h = go unguarded
    where
      go : (u : Bool) → cond u a (a - 1) ≤ cond u b (b - 1)
      go true = omega arith
      go false = omega arith

  plain_short : (a : ℕ) → plain_far unguarded a ≤ a
  unfolding plain_far
  plain_short a = go unguarded
    where
      go : (u : Bool) → cond u a (a - 1) ≤ a
      go true = omega arith
      go false = omega arith

  -- What a look back from p finds: at is where it ends, stop where the white space before p begins, no further back than at. Of what begins
  -- between from and p, plain is the furthest end of tokens without rstrip, and strip that of tokens with it.
  module _ (fine : Fine t text) (longest : ℕ) (bound : Longest t longest) (at p : ℕ) (l : at ≤ p) (inside : p ≤ length text) (ea : Edge text at) (ep : Edge text p) where
    abbrev stop : ℕ
    stop = max at (trimmed text p)

    abbrev from : ℕ
    from = max at (stop - longest)

    abbrev plain : ℕ
    plain = end_between unguarded t text false from p

    abbrev strip : ℕ
    strip = end_between unguarded t text true from p

    known : (s row : ℕ) → Occurs unguarded t text s row → Standing text (token_at t row).content s
    known s row o = standing t text fine s row o.listed o.stands

    -- a token that ends before the white space does not reach p
    short_strip : (s row : ℕ) → Occurs unguarded t text s row → at ≤ s → end s row < stop → white_end text (end s row) < p
    short_strip s row o h k =
        let st = known s row o in
        let trim = trimmed_le text p in
        let back : end s row < trimmed text p = omega (arith, st.some) in
        ⊎_elim (λ (q : white_end text (end s row) < p). q) (λ (q : p ≤ white_end text (end s row)). absurd (omega (arith, trims_behind text (end s row) p (omega arith) inside st.ends ep q))) (lt-or-le (white_end text (end s row)) p)

    short_far : (s row : ℕ) → Occurs unguarded t text s row → at ≤ s → end s row < stop → far s row < p
    short_far s row o h k =
        let trim = trimmed_le text p in
        ⊎_elim (λ e. omega (arith, far_strip s row e, short_strip s row o h k)) (λ e. omega (arith, far_plain s row e, plain_short (end s row), (known s row o).some)) (either (token_at t row).rstrip)

    -- the furthest end reaches as far as any
    strip_far_lem : (s row : ℕ) → Occurs unguarded t text s row → from ≤ s → s < p → (token_at t row).rstrip ≡ true → far s row ≤ max (furthest unguarded text stop plain strip) (p - 1)
    unfolding furthest strip_far
    strip_far_lem s row o h k e =
        let e-le : end s row ≤ strip = end_here true from p s row h k o e in
        let w = end_where true from p (omega (arith, (known s row o).some)) in
        let ss = known w.at w.row w.occurs in
        let st = known s row o in
        let inside-strip : strip ≤ length text = omega (arith, ss.inside, w.is) in
        let es : Edge text strip = rw w.is at ss.ends in
        let more : white_end text (end s row) ≤ white_end text strip =
        ⊎_elim (λ (q : white_end text (end s row) < strip). omega arith) (λ (q : strip ≤ white_end text (end s row)). omega (arith, same_end text (end s row) strip e-le inside-strip st.ends es q)) (lt-or-le (white_end text (end s row)) strip) in
        let is = far_strip s row e in
        ⊎_elim (λ (q : end s row < stop). omega (arith, short_strip s row o (omega arith) q))
        (λ (q : stop ≤ end s row). covered (strip-shown (omega (arith, st.some)) (omega arith)) (omega arith))
        (lt-or-le (end s row) stop)
      where
        strip-shown : 0 < strip → stop ≤ strip → (ltb 0 strip && leb stop strip) ≡ true
        strip-shown a b = and_both (lt-ltb 0 strip a) (le-leb stop strip b)

        covered : (ltb 0 strip && leb stop strip) ≡ true → far s row ≤ white_end text strip → far s row ≤ max (max (plain_far unguarded plain) (cond (ltb 0 strip && leb stop strip) (white_end text strip) 0)) (p - 1)
        covered a b = omega (arith, chosen (ltb 0 strip && leb stop strip) (white_end text strip) a)

    plain_far_lem : (s row : ℕ) → Occurs unguarded t text s row → from ≤ s → s < p → (token_at t row).rstrip ≡ false → far s row ≤ furthest unguarded text stop plain strip
    unfolding furthest
    plain_far_lem s row o h k e = omega (arith, far_plain s row e, plain_more (end s row) plain (end_here false from p s row h k o (rw e)))

    each_far : (s row : ℕ) → Occurs unguarded t text s row → at ≤ s → s < p → far s row ≤ max (furthest unguarded text stop plain strip) (p - 1)
    each_far s row o h k =
        ⊎_elim (λ (q : s < from). omega (arith, short_far s row o h (omega (arith, bound.bounds row o.listed))))
        (λ (q : from ≤ s). ⊎_elim (λ e. strip_far_lem s row o q k e) (λ e. omega (arith, plain_far_lem s row o q k e)) (either (token_at t row).rstrip))
        (lt-or-le s from)

    most_far : reach unguarded t text at p ≤ max (furthest unguarded text stop plain strip) (p - 1)
    most_far =
        ⊎_elim (λ (q : 0 < reach unguarded t text at p). let f = reach_where unguarded t text at p q in omega (arith, f.is, each_far f.at f.row f.occurs f.low f.high)) (λ q. omega arith) (lt-or-le 0 (reach unguarded t text at p))

    plain_reached : plain_far unguarded plain ≤ reach unguarded t text at p
    plain_reached =
        ⊎_elim (λ (q : 0 < plain). let w = end_where false from p q in omega (arith, ap (plain_far unguarded) w.is, far_plain w.at w.row (not-true (token_at t w.row).rstrip w.passes), reach_here unguarded t text at p w.at w.row (omega (arith, w.low)) w.high w.occurs))
        (λ q. omega (arith, plain_short plain)) (lt-or-le 0 plain)

    strip_reached : 0 < strip → white_end text strip ≤ reach unguarded t text at p
    strip_reached q =
        let w = end_where true from p q in
        omega (arith, ap (white_end text) w.is, far_strip w.at w.row w.passes, reach_here unguarded t text at p w.at w.row (omega (arith, w.low)) w.high w.occurs)

    furthest_reached : furthest unguarded text stop plain strip ≤ reach unguarded t text at p
    unfolding furthest strip_far
    furthest_reached = go (ltb 0 strip && leb stop strip) refl
      where
        go : (b : Bool) → (ltb 0 strip && leb stop strip) ≡ b → max (plain_far unguarded plain) (cond b (white_end text strip) 0) ≤ reach unguarded t text at p
        go true e = omega (arith, plain_reached, strip_reached (ltb-true 0 strip (and_left (ltb 0 strip) (leb stop strip) e)))
        go false e = omega (arith, plain_reached)

    -- How far they reach, where that is p or further.
    abbrev pub reaching : ℕ → Option ℕ
    reaching n = cond (leb p n) (Some n) None

    -- So where blocks reach p, the look back finds how far they go.
    looked_back : reaching (furthest unguarded text stop plain strip) ≡ reaching (reach unguarded t text at p)
    looked_back =
        ⊎_elim (λ (q : furthest unguarded text stop plain strip < p). rw (lt-leb p (furthest unguarded text stop plain strip) q, lt-leb p (reach unguarded t text at p) (omega (arith, most_far))))
        (λ (q : p ≤ furthest unguarded text stop plain strip). let same : furthest unguarded text stop plain strip ≡ reach unguarded t text at p = omega (arith, most_far, furthest_reached) in rw same)
        (lt-or-le (furthest unguarded text stop plain strip) p)

    -- The same, of the numbers that were found one after the other.
    module _ (s f a b n : ℕ) (is_stop : s ≡ stop_at true text at p) (is-from : f ≡ max at (s - longest)) (is_plain : a ≡ end_between unguarded t text false f p) (is-strip : b ≡ end_between unguarded t text true f p)
        (is : n ≡ max (plain_far unguarded a) (strip_far text s b)) where
      found : reaching n ≡ reaching (reach unguarded t text at p)
      unfolding furthest
      found =
          let same_stop : s ≡ stop = is_stop ∙ stops_at text at p l inside ea ep in
          let same_from : f ≡ from = is-from ∙ ap (λ (n : ℕ). max at (n - longest)) same_stop in
          let same-plain : a ≡ plain = is_plain ∙ ap (λ (n : ℕ). end_between unguarded t text false n p) same_from in
          let same-strip : b ≡ strip = is-strip ∙ ap (λ (n : ℕ). end_between unguarded t text true n p) same_from in
          rw (is, same_stop, same-plain, same-strip) looked_back

      pub found_far : p ≤ n → Some n ≡ reaching (reach unguarded t text at p)
      found_far h = sym (rw (le-leb p n h)) ∙ found

      pub found_near : n < p → None ≡ reaching (reach unguarded t text at p)
      found_near h = sym (rw (lt-leb p n h)) ∙ found
