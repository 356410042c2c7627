-- By the first test that applies, and then by the path that the index tells.
use mathlib.Core.Path.{◌≡◌, refl, sym, ◌∙◌}
use Rattle.model.specs.Model.{columns}
use Rattle.units.specs.Kinds.{raw_path}
use Rattle.prepare.proofs.PreparedLaws.{path_read}
use Rattle.fragments.proofs.FragmentLaws.{Lent, long_text, bad_text, no_raw_path, raw_text, is-valid, ranges_derived}
use Rattle.fragments.proofs.fragments_prepared.Goals as goal
use Rattle.fragments.proofs.fragments_prepared.Goals.{After-raw_path, Start}

-- what the call is lent
abbrev lent : Start → Lent
lent s = record {
  model = columns s.args.prepared.now.model.now;
  text = s.args.text.now;
  target = s.args.target;
  out = s.args.out.now;
}

path_at : (r : After-raw_path) → r.raw_path.result ≡ raw_path (lent (goal.at.After-raw_path r).Start).model
path_at r = path_read (lent (goal.at.After-raw_path r).Start).model r.requires.index_derived refl r.raw_path.ensures

pub returns-then-text-gt-TEXT_LIMIT : goal.returns-then-text-gt-TEXT_LIMIT
returns-then-text-gt-TEXT_LIMIT c = long_text (lent (goal.at.returns-then-text-gt-TEXT_LIMIT c).Start) _ refl c.if-text-gt-TEXT_LIMIT.true

pub returns-then-place-text : goal.returns-then-place-text
returns-then-place-text c = bad_text (lent (goal.at.returns-then-place-text c).Start) _ c.valid_prefix-place.ensures c.if-text-gt-TEXT_LIMIT.false c.requires.accepted _ refl c.if-place-text.true

pub places_of-requires-clause-text_valid : goal.places_of-requires-clause-text_valid
places_of-requires-clause-text_valid c =
    let s = (goal.at.places_of-requires-clause-text_valid c).Start in
    is-valid (lent s) _ c.valid_prefix-place.ensures c.if-text-gt-TEXT_LIMIT.false s.requires.accepted c.if-place-text.false

pub returns-in-Some : goal.returns-in-Some
returns-in-Some c =
    let r = (goal.at.returns-in-Some c).After-raw_path in
    let s = (goal.at.returns-in-Some c).Start in
    let p = c.places_of.ensures in
    let path = sym (path_at r) ∙ c.in-Some.is in
    c.cut_ranges.ensures
    ∙ ranges_derived (lent s).model s.requires.accepted s.requires.index_derived s.args.text.now s.args.target s.args.out.now _ path p.kind p.crossings p.tokens p.unguarded p.text
    ∙ raw_text (lent s) _ r.valid_prefix-place.ensures r.if-text-gt-TEXT_LIMIT.false s.requires.accepted r.if-place-text.false _ path

pub returns-in-None : goal.returns-in-None
returns-in-None c =
    let r = (goal.at.returns-in-None c).After-raw_path in
    no_raw_path (lent (goal.at.returns-in-None c).Start) _ r.valid_prefix-place.ensures r.if-text-gt-TEXT_LIMIT.false r.requires.accepted r.if-place-text.false _ refl (sym (path_at r) ∙ c.in-None.is)
