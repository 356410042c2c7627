-- By the tests in their order: the token's rstrip, whether it stands there, whether it blocks.
use borrow.Author.Tests.{not-true}
use mathlib.Core.Path.{◌≡◌, refl, sym, ap, ◌∙◌}
use mathlib.Core.Bool.{Bool, true, false, not, beq}
use mathlib.Core.List.{List, []}
use Prim.Native.Nat.{ℕ, ◌+◌}
use native.Mathlib.Omega.{arith}
use lib.ListN.{length, drop, get_or, length-drop}
use Rattle.utf8.specs.Lists.{starts_with}
use Rattle.utf8.proofs.Starts.{starts_length}
use Rattle.model.specs.Model.{TokenList, tokens_of, strings_of}
use Rattle.fragments.proofs.EndLaws.{same_start, end_other, end-apart, end_idle, end_stands}
use Rattle.fragments.proofs.Places.end_of.Goals as goal
use Rattle.fragments.proofs.Places.end_of.Goals.{After-starts_with-stands, else-stands-via-then-stands+else-is_blocking, else-stands-via-else-stands}

abbrev tokens : After-starts_with-stands → TokenList
tokens c = tokens_of c.args.self.now.tokens

abbrev content : After-starts_with-stands → List ℕ
content c = get_or (strings_of c.args.self.now.tokens.contents) c.args.row []

stands : (c : After-starts_with-stands) → c.starts_with-stands.result ≡ starts_with (content c) (drop c.args.s c.args.self.now.text.now)
stands c = c.starts_with-stands.ensures ∙ same_start c.args.self.now.text.now c.args.s c.get-content.ensures c.part.ensures

asked : (c : After-starts_with-stands) → beq (get_or c.args.self.now.tokens.rstrip.now c.args.row false) c.args.strip ≡ true
asked c = rw (← c.flag_at-right.ensures) (not_false (beq c.flag_at-right.result c.args.strip) c.if-right-strip.false)
  where
    not_false : (b : Bool) → not b ≡ false → b ≡ true
    not_false true e = refl
    not_false false e = sym e

pub returns-then-right-strip : goal.returns-then-right-strip
returns-then-right-strip c =
    let a = c.args in
    end_other a.self.now.unguarded a.strip (tokens_of a.self.now.tokens) a.self.now.text.now a.s a.row (rw (← c.flag_at-right.ensures) (not-true _ c.if-right-strip.true))

pub overflow_add-result : goal.overflow_add-result
overflow_add-result c =
    let w = (goal.at.overflow_add-result c).After-starts_with-stands in
    let a = w.args in
    omega (arith, ap length c.get-content.ensures, starts_length (content w) (drop a.s a.self.now.text.now) (sym (stands w) ∙ c.if-stands.true), length-drop a.s a.self.now.text.now)

pub returns-then-is_blocking : goal.returns-then-is_blocking
returns-then-is_blocking c =
    let w = (goal.at.returns-then-is_blocking c).After-starts_with-stands in
    let a = w.args in
    ap (λ (l : List ℕ). a.s + length l) c.get-content.ensures
    ∙ end_stands a.self.now.unguarded a.strip (tokens w) a.self.now.text.now a.s a.row (asked w) (sym (stands w) ∙ c.if-stands.true) (rw (← c.get-content.ensures, ← c.flag_at.ensures, ← c.flag_at-right.ensures, ← c.is_blocking.ensures) c.if-is_blocking.true)

pub returns-else-stands : goal.returns-else-stands
returns-else-stands c =
    let k = (goal.at.returns-else-stands c).After-starts_with-stands in
    let a = k.args in
    elim c.else-stands.branch [
      | else-stands-via-then-stands+else-is_blocking w ↦ end_idle a.self.now.unguarded a.strip (tokens k) a.self.now.text.now a.s a.row (rw (← c.get-content.ensures, ← w.flag_at.ensures, ← c.flag_at-right.ensures, ← w.is_blocking.ensures) w.if-is_blocking.false)
      | else-stands-via-else-stands w ↦ end-apart a.self.now.unguarded a.strip (tokens k) a.self.now.text.now a.s a.row (sym (stands k) ∙ w.if-stands.false)
    ]
