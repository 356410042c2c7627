use mathlib.Core.Path.{sym, ◌∙◌}
use Rattle.model.specs.Model.{tokens_of}
use Rattle.fragments.proofs.EndLaws.{none-strips}
use Rattle.fragments.proofs.GivenLaws.{fine_by, sound_by}
use Rattle.fragments.proofs.AheadLaws.{strips-past}
use Rattle.fragments.proofs.Places.strips_here.Goals as goal
use Rattle.fragments.proofs.Places.strips_here.Goals.{then-s-self, else-s-self}

pub returns-else-may_begin : goal.returns-else-may_begin
returns-else-may_begin c =
    let a = c.args in
    let tokens = tokens_of a.self.now.tokens in
    elim c.if-s-self.branch [
      | then-s-self w ↦ c.if-may_begin.false ∙ sym (none-strips tokens a.self.now.text.now a.self.now.begins.now (sound_by a.self.now) a.self.now.contents_fine a.s w.if-s-self.true (sym (w.value-is ∙ w.may_begin.ensures) ∙ c.if-may_begin.false))
      | else-s-self w ↦ c.if-may_begin.false ∙ sym (strips-past tokens a.self.now.text.now (fine_by a.self.now) a.s w.if-s-self.false)
    ]
