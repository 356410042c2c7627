-- `encode::encode_short` meets its contract: by the first test that applies, and then by the path that the index tells.
use Rattle.std.proofs.Common.{rules}
use mathlib.Core.Path.{◌≡◌, refl, sym, ap, ◌∙◌}
use Rattle.model.specs.Answers.{zeros}
use Rattle.model.specs.Model.{columns, steps_of}
use Rattle.units.specs.Kinds.{raw_path}
use Rattle.prepare.proofs.PreparedLaws.{path_read}
use Rattle.encode.proofs.EncodeLaws.{Lent, bad_text, no_raw_path, raw_text, normal_text}
use Rattle.encode.proofs.OutcomeLaws.{text_lent}
use Rattle.encode.proofs.encode_short.Goals as goal
use Rattle.encode.proofs.encode_short.Goals.{After-raw_path, Start, in-Some, in-None+else-continuation}

-- what the call is lent
abbrev lent : Start → Lent
lent s = record {
  model = columns s.args.model.now.prepared.now.model.now;
  text = s.args.text.now;
  continuation = s.args.continuation;
  out = s.args.out.now;
  scratch_a = s.args.scratch_a.now;
  scratch_b = s.args.scratch_b.now;
}

path_at : (r : After-raw_path) → r.raw_path.result ≡ raw_path (lent (goal.at.After-raw_path r).Start).model
path_at r = path_read (lent (goal.at.After-raw_path r).Start).model r.args.model.now.index_derived refl r.raw_path.ensures

pub returns-then-place-text : goal.returns-then-place-text
returns-then-place-text c =
    bad_text (lent (goal.at.returns-then-place-text c).Start) _ c.valid_prefix-place.ensures c.requires c.args.model.now.accepted _ refl c.if-place-text.true

pub returns-then-continuation : goal.returns-then-continuation
returns-then-continuation c =
    let r = (goal.at.returns-then-continuation c).After-raw_path in
    no_raw_path (lent (goal.at.returns-then-continuation c).Start) _ c.valid_prefix-place.ensures c.requires c.args.model.now.accepted c.if-place-text.false _ refl c.if-continuation.true (sym (path_at r) ∙ c.in-None.is)

pub returns : goal.returns
unfolding steps_of
returns c =
    let r = (goal.at.returns c).After-raw_path in
    let s = (goal.at.returns c).Start in
    let k = s.args.model.now in
    let a = c.fill.ensures.after (search rules) ∙ ap zeros c.match-raw_path.auto.scratch_a in
    let b = c.fill-2.ensures.after (search rules) ∙ ap zeros c.match-raw_path.auto.scratch_b in
    elim c.match-raw_path.branch [
      | in-Some w ↦
          rw (w.outcome-is, w.out-is)
          (raw_text (lent s) _ c.valid_prefix-place.ensures c.requires k.accepted c.if-place-text.false _ (sym (path_at r) ∙ w.in-Some.is)
          (w.encode_sections-outcome.ensures ∙ text_lent (lent s).model k.adjacency_derived k.index_derived _ _ _ _ _ _) a b)
      | in-None+else-continuation w ↦
          rw (w.outcome-is, w.out-is)
          (normal_text (lent s) _ c.valid_prefix-place.ensures c.requires k.accepted c.if-place-text.false (sym (path_at r) ∙ w.in-None.is) w.if-continuation.false
          (w.encode_sections-outcome-in-None.ensures ∙ text_lent (lent s).model k.adjacency_derived k.index_derived _ _ _ _ _ _) a b)
    ]
