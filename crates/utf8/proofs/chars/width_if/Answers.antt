-- `utf8::chars::width_if` meets its contract: the second byte decides, and then all that follow it.
use Prim.Native.Nat.{◌-◌}
use mathlib.Core.Path.{◌≡◌, sym, ◌∙◌}
use lib.ListN.{take, drop}
use Rattle.std.proofs.Common.{rules, tests}
use Rattle.std.specs.List.{list_all}
use Rattle.std.proofs.lemmas.Iterator.{YieldsList-from_slice}
use Rattle.std.proofs.lemmas.Iterator.Search.{all_from_yields_List}
use Rattle.utf8.specs.Lists.{Range, within}
use Rattle.utf8.specs.Chars.{tail}
use Rattle.utf8.proofs.Tails.{too_short, form_by_bytes}
use Rattle.utf8.proofs.chars.width_if.Goals as goal
use Rattle.utf8.proofs.chars.width_if.Goals.{After-all, then-s-n-via-then-s-n, then-s-n-via-else-s-n+then-not-is_within}

pub returns-then-s-n : goal.returns-then-s-n
returns-then-s-n c =
    let args = c.args in
    let second : Range = (args.low, args.high) in
    elim c.then-s-n.branch [
      | then-s-n-via-then-s-n w ↦ rw (too_short args.s.now args.n second c.requires w.if-s-n.true)
      | then-s-n-via-else-s-n+then-not-is_within w ↦
          let out = sym w.is_within.ensures ∙ w.if-not-is_within.true in
          rw (form_by_bytes args.s.now args.n second c.requires w.if-s-n.false, out)
    ]

-- Whether the bytes after the second are all UTF8-tails.
rest : (c : After-all) → c.all.result ≡ list_all (within tail) (take (c.args.n - 2) (drop 2 c.args.s.now))
rest c = all_from_yields_List (within tail) _ _ _ c.all.ensures.ran (YieldsList-from_slice (take (c.args.n - 2) (drop 2 c.args.s.now)) cc) (λ x b q k. search (rules, tests))

pub returns-then-all : goal.returns-then-all
returns-then-all c =
    let args = c.args in
    let into = sym c.is_within.ensures ∙ c.if-not-is_within.false in
    let tails = sym (rest (goal.at.returns-then-all c).After-all) ∙ c.if-all.true in
    rw (form_by_bytes args.s.now args.n (args.low, args.high) c.requires c.if-s-n.false, into, tails)

pub returns-else-all : goal.returns-else-all
returns-else-all c =
    let args = c.args in
    let into = sym c.is_within.ensures ∙ c.if-not-is_within.false in
    let tails = sym (rest (goal.at.returns-else-all c).After-all) ∙ c.if-all.false in
    rw (form_by_bytes args.s.now args.n (args.low, args.high) c.requires c.if-s-n.false, into, tails)
