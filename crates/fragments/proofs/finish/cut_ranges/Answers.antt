-- As many numbers as there are cuts ask for, and the buffer has room for them or not.
use Prim.Native.Nat.{ℕ, ◌+◌, ◌≤◌, max}
use native.Mathlib.Omega.{arith}
use mathlib.Core.Path.{◌≡◌, refl, sym, ap, ◌∙◌}
use mathlib.Core.List.{List}
use lib.ListN.{length}
use Rattle.fragments.specs.inner.Search.{numbers_in}
use Rattle.fragments.specs.inner.Places.{is_safe_in}
use Rattle.fragments.proofs.FinishLaws.{few_cuts, two_each, ranges_short, ranges-done}
use Rattle.fragments.proofs.finish.cut_ranges.Goals as goal
use Rattle.fragments.proofs.finish.cut_ranges.Goals.{After-count_cuts-ranges, Else-out-ranges}

abbrev numbers : After-count_cuts-ranges → List ℕ
numbers c = numbers_in (is_safe_in c.args.places.now) (length c.args.places.now.text.now) (max c.args.target 1)

-- how many cuts there are, and how many numbers
few : (c : After-count_cuts-ranges) → c.count_cuts-ranges.result ≤ 1048576
few c =
    let a = c.args in
    omega (arith, c.count_cuts-ranges.ensures, few_cuts (is_safe_in a.places.now) (length a.places.now.text.now) (max a.target 1), c.args.places.now.short)

counted : (c : After-count_cuts-ranges) → length (numbers c) ≡ (c.count_cuts-ranges.result + 1) + (c.count_cuts-ranges.result + 1)
counted c =
    let a = c.args in
    two_each (is_safe_in a.places.now) (length a.places.now.text.now) (max a.target 1) ∙ ap (λ (n : ℕ). (n + 1) + (n + 1)) (sym c.count_cuts-ranges.ensures)

-- the buffer has room for them
room : (c : Else-out-ranges) → length (numbers (goal.at.Else-out-ranges c).After-count_cuts-ranges) ≤ length c.args.out.now
room c = omega (arith, counted (goal.at.Else-out-ranges c).After-count_cuts-ranges, c.if-out-ranges.false)

pub overflow_add-ranges : goal.overflow_add-ranges
overflow_add-ranges c = omega (arith, few c)

pub overflow_mul-ranges : goal.overflow_mul-ranges
overflow_mul-ranges c = omega (arith, few c)

pub returns-then-out-ranges : goal.returns-then-out-ranges
returns-then-out-ranges c =
    let w = (goal.at.returns-then-out-ranges c).After-count_cuts-ranges in
    ranges_short (numbers w) w.args.out.now _ refl (omega (arith, counted w, c.if-out-ranges.true))

pub write_ranges-written-requires : goal.write_ranges-written-requires
write_ranges-written-requires c = room (goal.at.write_ranges-written-requires c).Else-out-ranges

pub returns : goal.returns
returns c =
    let e = (goal.at.returns c).Else-out-ranges in
    ranges-done (numbers (goal.at.returns c).After-count_cuts-ranges) e.args.out.now _ _ c.write_ranges-written.ensures.value c.write_ranges-written.ensures.out_after (room e) _ _ c.clear.ensures refl
