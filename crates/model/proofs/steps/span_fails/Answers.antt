use Rattle.model.specs.Model.{step_string}
use Rattle.model.specs.Check.{span_too_long, lies_outside, no_text}
use Rattle.model.proofs.steps.span_fails.Goals as goal

pub returns-in-Short : goal.returns-in-Short
unfolding span_too_long
returns-in-Short c = rw c.in-Short.is

pub returns-in-Inside : goal.returns-in-Inside
unfolding lies_outside
returns-in-Inside c = rw c.in-Inside.is

pub returns-in-Text : goal.returns-in-Text
unfolding no_text step_string
returns-in-Text c = rw (c.in-Text.is, c.is_valid.ensures, c.string_of.ensures)
