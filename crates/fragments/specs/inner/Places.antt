-- What the search goes by, as one value.
use Rattle.std.specs.Prelude.{ℕ, Bool, Option}
use Rattle.model.specs.Model.{tokens_of}
use Rattle.units.specs.inner.Read.{crossings_in}
use Rattle.fragments.specs.inner.Search.{safe_in, Known, NextOf}
use Rattle.fragments.specs.declared.Cut.{Cut}
use Rattle.fragments.specs.declared.Places.{Places}

abbrev pub is_safe_in : Places → ℕ → Bool
is_safe_in p = safe_in p.cutter.kind (crossings_in p.cutter) p.unguarded (tokens_of p.tokens) p.text.now

-- What is known before a place, the last cut being known.
abbrev pub KnownIn : Places → Cut → ℕ → Type 0
KnownIn p last place = Known p.unguarded (tokens_of p.tokens) p.text.now last.place last.ahead place

abbrev pub NextIn : Places → ℕ → Option Cut → Type 0
NextIn p from cut = NextOf p.cutter.kind (crossings_in p.cutter) p.unguarded (tokens_of p.tokens) p.text.now from cut
