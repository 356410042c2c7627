use mathlib.Core.Path.{◌≡◌, refl, sym, ap, ◌∙◌}
use Prim.Native.Nat.{ℕ, ◌+◌, ◌*◌, ◌^◌}
use native.Mathlib.Nat.{pow-succ'}
use native.Mathlib.Numerals.{add-one}
use native.Mathlib.Omega.{arith}
use borrow.Author.Rules.{rules}
use Rattle.prepare.proofs.WalkLaws.{shift_from, shift_start, shift_next, shift_stop, shift_end, shift_room}
use Rattle.prepare.proofs.fill.bucket_shift.Goals as goal

pub loop-shift-init : goal.loop-shift-init
loop-shift-init c = (search rules, refl, shift_start c.args.count)

pub returns-then-count-room : goal.returns-then-count-room
returns-then-count-room c =
    let l = c.loop-shift in
    (sym (l.invariant.2 ∙ shift_stop c.args.count l.shift (search rules) (omega (arith, l.invariant.1))), search rules)

pub overflow_mul-room : goal.overflow_mul-room
overflow_mul-room c = omega (arith, shift_room c.loop-shift.shift (search rules))

-- twice the room is that of the next shift
double : (shift : ℕ) → 4096 * 2 ^ shift * 2 ≡ 4096 * 2 ^ (shift + 1)
double shift = rw (add-one, pow-succ') (omega arith)

pub loop-shift-preserved : goal.loop-shift-preserved
loop-shift-preserved c =
    let l = c.loop-shift in
    (search rules, ap (λ (n : ℕ). n * 2) l.invariant.1 ∙ double l.shift, l.invariant.2 ∙ shift_next c.args.count l.shift (search rules) (omega (arith, l.invariant.1)))

pub returns : goal.returns
returns c =
    let l = c.loop-shift in
    let last : l.shift ≡ 7 = omega arith in
    (sym (l.invariant.2 ∙ ap (shift_from c.args.count) last ∙ shift_end c.args.count 7 (omega arith)), search rules)
