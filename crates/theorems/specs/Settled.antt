-- A contract here says that the answer and all lent cells afterwards are what a definition computes from what was there before. That
-- settles everything: no two different outcomes satisfy it.
use Rattle.std.specs.Prelude.{ℕ, ◌≡◌, refl, cond, List, Option, eqb, Result, Ok, Err, ⊤}
use Rattle.std.proofs.Common.{sym, ap, ◌∙◌}
use Rattle.model.specs.declared.Answer.{Answer}
use Rattle.model.specs.declared.Counts.{Counts}
use Rattle.model.specs.declared.Refusal.{Refusal}
use Rattle.model.specs.declared.Refusal.TheVariants.{WrongSize, OffsetsAstray, BadPiece, BadLookup, BadFallback, BadRow, BadToken, BadStep, BadText, NoRawPath, ScratchTooShort, ResultTooShort}
use Rattle.model.specs.Answers.{refused, number_of, place_named, answer_of, checked}
use Rattle.units.specs.declared.Split.{Split}
use Rattle.units.specs.Derived.{Noting}
use Rattle.sections.specs.declared.Match.{Match}

pub settled {ℓ κ} : {Before : Type ℓ} {After : Type κ} (outcome : Before → After) (before : Before) (x y : After) → x ≡ outcome before → y ≡ outcome before → x ≡ y
settled outcome before x y p q = p ∙ sym q

-- A bound beside the equation takes nothing away.
pub settled_bounded {ℓ κ μ} : {Before : Type ℓ} {After : Type κ} (Bound : After → Type μ) (outcome : Before → After) (before : Before) (x y : After) → (x ≡ outcome before) × Bound x → (y ≡ outcome before) × Bound y → x ≡ y
settled_bounded Bound outcome before x y p q = settled outcome before x y p.0 q.0

-- A result, and then cells that are computed from it too.
pub settled_then {ℓ κ μ} : {Before : Type ℓ} {Result : Type κ} {Cells : Type μ} (result : Before → Result) (cells : Before → Result → Cells) (before : Before) (x y : Result) (xs ys : Cells) → x ≡ result before → xs ≡ cells before x → y ≡ result before → ys ≡ cells before y → (x ≡ y) × (xs ≡ ys)
settled_then result cells before x y xs ys p ps q qs =
    let same = settled result before x y p q in (same, ps ∙ ap (cells before) same ∙ sym qs)

-- An equation on a view of the outcome settles the outcome where different outcomes have different views.
pub settled_view {ℓ κ μ} : {Before : Type ℓ} {After : Type κ} {View : Type μ} (view : After → View) → ((x y : After) → view x ≡ view y → x ≡ y) → (outcome : Before → View) (before : Before) (x y : After) → view x ≡ outcome before → view y ≡ outcome before → x ≡ y
settled_view view injective outcome before x y p q = injective x y (settled outcome before (view x) (view y) p q)

-- They have if there is a way back from the view.
injective_by {ℓ κ} : {A : Type ℓ} {B : Type κ} (view : A → B) (back : B → A) → ((x : A) → back (view x) ≡ x) → (x y : A) → view x ≡ view y → x ≡ y
injective_by view back returns x y p = sym (returns x) ∙ ap back p ∙ returns y

-- An `Option` is its own view: what a search found, and the match that a search for tokens gave.
pub found_id_injective : (x y : Option ℕ) → x ≡ y → x ≡ y
found_id_injective x y p = p

pub sought_match_injective : (x y : Option Match) → x ≡ y → x ≡ y
sought_match_injective x y p = p

-- The views that contracts use: the answer for C in place of the counts or the refusal that a call gives.
abbrev refusal_named : ℕ → ℕ → Refusal
refusal_named number place =
    cond (eqb number 1) WrongSize (cond (eqb number 2) OffsetsAstray (cond (eqb number 3) BadPiece (cond (eqb number 4) BadLookup
    (cond (eqb number 5) BadFallback (cond (eqb number 6) BadRow (cond (eqb number 7) BadToken (cond (eqb number 8) BadStep
    (cond (eqb number 9) (BadText place) (cond (eqb number 10) NoRawPath (cond (eqb number 11) ScratchTooShort ResultTooShort))))))))))

refusal_returns : (r : Refusal) → refusal_named (number_of r) (place_named r) ≡ r
refusal_returns WrongSize = refl
refusal_returns OffsetsAstray = refl
refusal_returns BadPiece = refl
refusal_returns BadLookup = refl
refusal_returns BadFallback = refl
refusal_returns BadRow = refl
refusal_returns BadToken = refl
refusal_returns BadStep = refl
refusal_returns (BadText place) = refl
refusal_returns NoRawPath = refl
refusal_returns ScratchTooShort = refl
refusal_returns ResultTooShort = refl

abbrev pub result_named : {A : Type 0} → (Answer → A) → Answer → Result A Refusal
result_named given a = cond (eqb a.number 0) (Ok (given a)) (Err (refusal_named a.number a.place))

refused_returns : {A : Type 0} (given : Answer → A) (r : Refusal) → ◌≡◌ {A = Result A Refusal} (result_named given (refused (number_of r) (place_named r))) (Err r)
refused_returns given WrongSize = refl
refused_returns given OffsetsAstray = refl
refused_returns given BadPiece = refl
refused_returns given BadLookup = refl
refused_returns given BadFallback = refl
refused_returns given BadRow = refl
refused_returns given BadToken = refl
refused_returns given BadStep = refl
refused_returns given (BadText place) = refl
refused_returns given NoRawPath = refl
refused_returns given ScratchTooShort = refl
refused_returns given ResultTooShort = refl

abbrev counts_named : Answer → Counts
counts_named a = record { written = a.written; drops = a.drops; skips = a.skips }

answer_returns : (r : Result Counts Refusal) → result_named counts_named (answer_of r) ≡ r
answer_returns (Ok counts) = refl
answer_returns (Err refusal) = refused_returns counts_named refusal

pub answer_of_injective : (x y : Result Counts Refusal) → answer_of x ≡ answer_of y → x ≡ y
answer_of_injective = injective_by answer_of (result_named counts_named) answer_returns

checked_returns : (r : Result ⊤ Refusal) → result_named (λ a. tt) (checked r) ≡ r
checked_returns (Ok done_) = refl
checked_returns (Err refusal) = refused_returns (λ a. tt) refusal

pub checked_injective : (x y : Result ⊤ Refusal) → checked x ≡ checked y → x ≡ y
checked_injective = injective_by checked (result_named (λ a. tt)) checked_returns

-- A kind of split and the words of its crossings, shown field by field.
abbrev pub noting_of : Split × List ℕ → Noting
noting_of o = record { kind = o.0.kind; count = o.0.count; noted = o.1 }

abbrev noting-back : Noting → Split × List ℕ
noting-back n = (record { kind = n.kind; count = n.count }, n.noted)

pub noting_of_injective : (x y : Split × List ℕ) → noting_of x ≡ noting_of y → x ≡ y
noting_of_injective = injective_by noting_of noting-back (λ (o : Split × List ℕ). refl)
