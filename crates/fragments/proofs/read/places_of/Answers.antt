-- What the index tells of the first tokens, since it was derived of the model.
use Rattle.model.specs.Model.{columns, contents}
use Rattle.model.proofs.Accepted.{accepted}
use Rattle.prepare.proofs.PreparedLaws.{first_begins}
use Rattle.fragments.proofs.FragmentLaws.{longest-bounds}
use Rattle.fragments.proofs.read.places_of.Goals as goal

pub invariant_of-result : goal.invariant_of-result
unfolding contents
invariant_of-result c =
    let m = columns c.args.prepared.now.model.now in
    let r = c.requires in
    record {
      contents_fine = (accepted m r.accepted).first_texts;
      first = first_begins m r.index_derived c.part.ensures;
      long = λ row h. rw c.number_at.ensures (longest-bounds m r.accepted r.index_derived row h);
      text_valid = r.text_valid;
      short = r.short;
    }
