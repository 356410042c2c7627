-- `normalise::normalise_short` meets its contract: by the first test that applies.
use Rattle.std.proofs.Common.{◌∙◌, sym, refl}
use Rattle.model.specs.Model.{columns, steps_of}
use Rattle.normalise.proofs.NormalLaws.{Lent, bad_text, good_text}
use Rattle.normalise.proofs.normalise_short.Goals as goal
use Rattle.normalise.proofs.normalise_short.Goals.{Start}

-- what the call is lent
abbrev lent : Start → Lent
lent s = record {
  model = columns s.args.model.now;
  text = s.args.text.now;
  first = s.args.first;
  out = s.args.out.now;
  scratch_a = s.args.scratch_a.now;
  scratch_b = s.args.scratch_b.now;
}

pub returns-then-place-text : goal.returns-then-place-text
returns-then-place-text c =
    bad_text (lent (goal.at.returns-then-place-text c).Start) _ _ refl c.valid_prefix-place.ensures c.requires.short c.requires.accepted c.if-place-text.true

pub returns : goal.returns
unfolding steps_of
returns c =
    c.normalise_text.ensures
    ∙ sym (good_text (lent (goal.at.returns c).Start) _ c.valid_prefix-place.ensures c.requires.short c.requires.accepted c.if-place-text.false)
