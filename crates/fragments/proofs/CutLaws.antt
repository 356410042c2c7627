-- The search for the next safe place: from mark to mark, past the blocks. Assumes nothing.
use Rattle.std.specs.Prelude.{None, Some}
use Prim.Native.Nat.{ℕ, ◌+◌, ◌-◌, ◌≤◌, ◌<◌}
use native.Mathlib.Omega.{arith}
use mathlib.Core.Path.{◌≡◌, sym, ap, ◌∙◌}
use mathlib.Core.Bool.{Bool, true}
use mathlib.Core.List.{List}
use lib.ListN.{length}
use Rattle.utf8.specs.Lists.{find, count_from}
use Rattle.model.specs.Model.{TokenList, tokens_of}
use Rattle.units.specs.Kinds.{Crossing}
use Rattle.units.specs.Units.{mark_cuts}
use Rattle.units.specs.inner.Read.{crossings_in}
use Rattle.units.specs.declared.WordSplit.{WordSplit}
use Rattle.fragments.specs.inner.Reach.{Edge}
use Rattle.fragments.specs.inner.Search.{first_from, safe_in, Known, BlockedTo, FreeAt, NextCut}
use Rattle.fragments.specs.declared.Cut.{Cut}
use Rattle.fragments.specs.declared.Places.{Places}
use Rattle.fragments.proofs.FirstLaws.{First, first-at, first_found, first_ended, first_skip, sought_found, sought-none, first_narrow, cuts-edge, safe_mark, safe_blocked, safe_free}

-- What a search is over.
pub record Over : Type 0 where
  pub kind : WordSplit
  pub noted : List Crossing
  pub unguarded : Bool
  pub tokens : TokenList
  pub text : List ℕ

-- What one by places is over.
abbrev pub over : Places → Over
over p =
    record { kind = p.cutter.kind; noted = crossings_in p.cutter; unguarded = p.unguarded; tokens = tokens_of p.tokens; text = p.text.now }

-- Its safe places.
abbrev pub safe_over : Over → ℕ → Bool
safe_over o = safe_in o.kind o.noted o.unguarded o.tokens o.text

abbrev pub marks_over : Over → ℕ → Bool
marks_over o = mark_cuts o.kind o.noted true o.text

-- What is known of its places, and its next cut.
abbrev pub KnownOver : Over → ℕ → ℕ → ℕ → Type 0
KnownOver o at ahead p = Known o.unguarded o.tokens o.text at ahead p

abbrev pub NextOver : Over → ℕ → Cut → Type 0
NextOver o from cut = (cut.place < length o.text) × NextCut o.kind o.noted o.unguarded o.tokens o.text from cut

module _ (o : Over) where
  abbrev text : List ℕ
  text = o.text

  abbrev safe : ℕ → Bool
  safe = safe_over o

  abbrev marks : ℕ → Bool
  marks = marks_over o

  -- The search has come to p.
  pub record Searching (from at clear p : ℕ) : Type 0 where
    pub above : 0 < p
    pub known : KnownOver o at clear p
    pub same : first_from safe (length text) from ≡ first_from safe (length text) p

  -- A place further on is known too.
  pub known_later : (at clear p q : ℕ) → p ≤ q → KnownOver o at clear p → KnownOver o at clear q
  known_later at clear p q h k = record { low = omega (arith, k.low); edge = k.edge; past = omega (arith, k.past); clear = k.clear }

module _ {o : Over} {from at clear p : ℕ} (s : Searching o from at clear p) where
  to_marks : first_from (safe o) (length o.text) from ≡ first_from (safe o) (length o.text) (first_from (marks o) (length o.text) p)
  to_marks = s.same ∙ first_narrow (safe o) (marks o) (length o.text) p (λ q e. safe_mark o.kind o.noted o.unguarded o.tokens o.text q e)

  -- No mark is left,
  pub cut-ended : find (marks o) (count_from p (length o.text - p)) ≡ None → first_from (safe o) (length o.text) from ≡ length o.text
  cut-ended e =
      to_marks ∙ ap (first_from (safe o) (length o.text)) (sought-none (marks o) (length o.text) p e) ∙ first_ended (safe o) (length o.text) (length o.text) (omega arith)

  module _ {mark : ℕ} (sought : find (marks o) (count_from p (length o.text - p)) ≡ Some mark) where
    is : mark ≡ first_from (marks o) (length o.text) p
    is = (sought_found (marks o) (length o.text) p mark sought).1

    first : First (marks o) (length o.text) p mark
    first = rw is (first-at (marks o) (length o.text) p)

    to_mark : first_from (safe o) (length o.text) from ≡ first_from (safe o) (length o.text) mark
    to_mark = to_marks ∙ ap (first_from (safe o) (length o.text)) (sym is)

    pub mark-inside : mark < length o.text
    mark-inside = (sought_found (marks o) (length o.text) p mark sought).0

    h : mark < length o.text
    h = mark-inside

    pub mark_above : 0 < mark
    mark_above = omega (arith, s.above, first.low h)

    pub mark-low : p ≤ mark
    mark-low = first.low h

    pub mark-edge : Edge o.text mark
    mark-edge = cuts-edge o.kind o.noted o.text mark (first.holds h)

    pub mark-known : KnownOver o at clear mark
    mark-known = known_later o at clear p mark (first.low h) s.known

    -- or it is safe,
    pub cut_found : (end : ℕ) → FreeAt o.unguarded o.tokens o.text mark end → NextOver o from (record { place = mark; ahead = end })
    cut_found end f = (
      h,
      record {
        is = sym (to_mark ∙ first_found (safe o) (length o.text) mark h (safe_free o.kind o.noted o.unguarded o.tokens o.text mark mark_above (first.holds h) f.free));
        known = λ l. f.known;
      },
    )

    -- or blocks are passed.
    pub cut-passed : (end : ℕ) → BlockedTo o.unguarded o.tokens o.text mark end → Searching o from mark clear (end + 1)
    cut-passed end b =
        record {
          above = omega arith;
          known = record {
            low = omega (arith, b.low);
            edge = mark-edge;
            past = omega (arith, b.past);
            clear = λ q l m e. s.known.clear q (omega (arith, s.known.low, first.low h)) m e;
          };
          same = to_mark ∙ first_skip (safe o) (length o.text) mark (end + 1) (omega (arith, b.low)) (λ q l m. safe_blocked o.kind o.noted o.unguarded o.tokens o.text q (b.all_blocked q l (omega arith)));
        }
